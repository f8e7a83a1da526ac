-- The state's value of a name, held by value: the words of its entry, or a given's set of elements.
use mathlib.Core.Path.{◌≡◌, refl, sym, ap, ◌∙◌}
use mathlib.Core.Bool.{Bool, true, false, cond}
use mathlib.Core.Logic.{◌⊎◌, inl, inr, ⊎_elim}
use mathlib.Core.List.{List, [], ◌∷◌}
use Prim.Native.Nat.{ℕ, zero, suc, ◌+◌, ◌*◌, ◌^◌, ◌≤◌, ◌<◌}
use native.Mathlib.Omega.{arith}
use lib.Dec.{eqb, leb}
use lib.Signed.{mag}
use lib.ListN.{length, get_or, drop}
use borrow.Author.Tests.{lt-ltb, leb-true}
use mir.Syntax.{w32}
use mir.ValLaws.{to_z-Fits}
use Rattle.words.proofs.Loops.{and_left, and_right}
use Rattle.layout.specs.Layout.{part}
use Rattle.values_integers.specs.Integer.{signed}
use Rattle.values.specs.Value.{Value, int, element, encode, encodes}
use Rattle.values.specs.Held.{keep}
use Rattle.values.specs.Form.{is_value, shape_of, value_length}
use Rattle.values.specs.Givens.{elements, elements_from}
use Rattle.values.specs.declared.held.Held.{Held}
use Rattle.values.specs.declared.shapes.Shape.{Shape}
use Rattle.values.specs.declared.shapes.Shape.TheVariants.{Broken, Leaf, Set, Tuple}
use Rattle.values_forms.proofs.Elements.{elements_words}
use Rattle.states_rules.specs.Names.{Name}
use Rattle.states_rules.specs.Decode.{values_from, value_by_shape, value_at, value_of}
use Rattle.states_rules.specs.States.{name_at, sizes_in, is_size, given_number, value_number, entry_from, entry_value, value_in}
use Rattle.evaluator_rules.specs.Claims.{WellFormedState}
use Rattle.evaluator_operations.specs.Worked.{narrow, all_narrow, Holds}
use Rattle.evaluator_rules.proofs.Decoding.{Words, words_drop}
use Rattle.evaluator_rules.proofs.StateWords.{words_part, state_words, state_given}

-- ---- decoded integers are of 32 bits
narrow_from : (f : List ℕ → ℕ) (g : List ℕ → Value) → ((u : List ℕ) → Words u → narrow (g u) ≡ true) → (n : ℕ) (ws : List ℕ) → Words ws → all_narrow (values_from f g n ws) ≡ true
unfolding narrow values_from
narrow_from f g h zero ws w = refl
narrow_from f g h (suc n) ws w = rw (h ws w) (narrow_from f g h n (drop (f ws) ws) (words_drop (f ws) ws w))

narrow_shape : (f : List ℕ → ℕ) (g : List ℕ → Value) → ((u : List ℕ) → Words u → narrow (g u) ≡ true) → (s : Shape) (ws : List ℕ) → Words ws → narrow (value_by_shape f g s ws) ≡ true
unfolding narrow value_by_shape signed
narrow_shape f g h Broken ws w = refl
narrow_shape f g h (Leaf n) ws w = go (eqb (get_or ws 0 0) 1)
  where
    go : (b : Bool) → narrow (cond b (int (signed (get_or ws 1 0))) (element (get_or ws 1 0) (get_or ws 2 0))) ≡ true
    go true = lt-ltb (mag (signed (get_or ws 1 0))) (2 ^ 31) (to_z-Fits w32 (get_or ws 1 0) (record { fits = w 1 })).sfits
    go false = refl
narrow_shape f g h (Set n) ws w = narrow_from f g h n (drop 2 ws) (words_drop 2 ws w)
narrow_shape f g h (Tuple n) ws w = narrow_from f g h n (drop 2 ws) (words_drop 2 ws w)

narrow_at : (sizes : ℕ → ℕ) (d : ℕ) (ws : List ℕ) → Words ws → narrow (value_at sizes d ws) ≡ true
unfolding value_at narrow
narrow_at sizes zero ws w = refl
narrow_at sizes (suc d) ws w = narrow_shape (value_length sizes d) (value_at sizes d) (narrow_at sizes d) (shape_of sizes ws) ws w

elements_length : (g k n : ℕ) → length (encodes (elements_from g k n)) ≡ 3 * n
unfolding elements_from encodes
elements_length g k zero = omega arith
elements_length g k (suc n) = omega (arith, elements_length g (suc k) n)

narrow_elements : (g k n : ℕ) → all_narrow (elements_from g k n) ≡ true
unfolding narrow elements_from
narrow_elements g k zero = refl
narrow_elements g k (suc n) = narrow_elements g (suc k) n

-- ---- entries
entry_range : (ns : List Name) (i k : ℕ) → 1 ≤ k → (entry_from ns i k ≡ 0) ⊎ ((k ≤ entry_from ns i k) × (entry_from ns i k < k + length ns))
unfolding entry_from
entry_range [] i k h = inl refl
entry_range (n ∷ ns) i k h = go (eqb n.identifier i) (entry_range ns i (suc k) (omega arith))
  where
    go : (b : Bool) → (entry_from ns i (suc k) ≡ 0) ⊎ ((suc k ≤ entry_from ns i (suc k)) × (entry_from ns i (suc k) < suc k + length ns)) →
        (cond b k (entry_from ns i (suc k)) ≡ 0) ⊎ ((k ≤ cond b k (entry_from ns i (suc k))) × (cond b k (entry_from ns i (suc k)) < k + suc (length ns)))
    go true e = inr (omega arith, omega arith)
    go false e = ⊎_elim (λ z. inl z) (λ p. let a = p.0 in let c = p.1 in inr (omega arith, omega arith)) e

pub entry_most : (ns : List Name) (i : ℕ) → 1 ≤ entry_from ns i 1 → entry_from ns i 1 ≤ length ns
entry_most ns i h = ⊎_elim (λ z. absurd (omega arith)) (λ p. let c = p.1 in omega arith) (entry_range ns i 1 (omega arith))

test_fine : (b : Bool) → ◌≡◌ {A = ℕ} (cond b 0 41) 0 → b ≡ true
test_fine true e = refl
test_fine false e = absurd (omega arith)

module _ (ns : List Name) (state : List ℕ) (i : ℕ) (h : Words state) (f : WellFormedState ns state) (l : 1 ≤ entry_from ns i 1) where
  pub entry_holds : (name_at ns (entry_from ns i 1)).is_given ≡ false → (r : Held) → r ≡ keep (part state (entry_from ns i 1)) → Holds r (value_in ns state i)
  unfolding value_in entry_value value_number is_value value_of
  entry_holds g r e =
      let m = entry_most ns i l in
      let w = state_words ns state i h f l m g in
      let w64 : length (part state (entry_from ns i 1)) ≤ 64 = small m in
      record { words = e ∙ ap keep (sym w); short = omega (arith, ap length w); narrow = rw g (narrow_at (sizes_in ns state) 32 (part state (entry_from ns i 1)) (words_part state (entry_from ns i 1) h)) }
    where
      small : entry_from ns i 1 ≤ length ns → length (part state (entry_from ns i 1)) ≤ 64
      small m =
          let p = part state (entry_from ns i 1) in
          let t = test_fine (is_value (sizes_in ns state) p) (rw g at (f.others (entry_from ns i 1) l m)) in
          leb-true (length p) 64 (and_left (leb (length p) 64) _ (and_right (leb 1 (length p)) _ t))

  pub given_holds : (name_at ns (entry_from ns i 1)).is_given ≡ true → (r : Held) →
      r ≡ keep (encode (elements (name_at ns (entry_from ns i 1)).identifier (get_or (part state (entry_from ns i 1)) 0 0))) → Holds r (value_in ns state i)
  unfolding given_number is_size elements narrow
  given_holds g r e =
      let v = state_given ns state i g in
      let p = part state (entry_from ns i 1) in
      let n = (name_at ns (entry_from ns i 1)).identifier in
      let t = test_fine (is_size p) (rw g at (f.givens (entry_from ns i 1) l (entry_most ns i l))) in
      let s = leb-true (get_or p 0 0) 20 (and_right (eqb (length p) 1) _ t) in
      record {
        words = e ∙ ap (λ (x : Value). keep (encode x)) (sym v);
        short = rw v (omega (arith, ap length (elements_words n (get_or p 0 0)), elements_length n 0 (get_or p 0 0)));
        narrow = rw v (narrow_elements n 0 (get_or p 0 0));
      }
