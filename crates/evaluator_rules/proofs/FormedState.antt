-- What a well-formed state says of a name is a well-formed value, for the sizes that the state gives its givens.
use mathlib.Core.Path.{◌≡◌, refl, sym, subst, ◌∙◌}
use mathlib.Core.Bool.{Bool, true, false, cond, false≢true}
use mathlib.Core.Logic.{⊎_elim}
use mathlib.Core.List.{List, []}
use Prim.Native.Nat.{ℕ, zero, suc, ◌+◌, ◌^◌, ◌≤◌, ◌<◌}
use native.Mathlib.Omega.{arith}
use lib.Dec.{eqb, leb, ltb}
use lib.Signed.{lt_z, mag}
use lib.ListN.{length, get_or, take, drop}
use borrow.Author.Tests.{eqb-true, leb-true, lt-ltb, le-leb}
use mir.Syntax.{w32}
use mir.ValLaws.{to_z_pos, to_z-Fits}
use Rattle.layout.specs.Layout.{part}
use Rattle.values_integers.specs.Integer.{signed}
use Rattle.values.specs.Order.{or_else, compare, is_less}
use Rattle.values.specs.Value.{Value, element, Values, cons, encode}
use Rattle.values.specs.WellFormed.{ascends, well_formed, all_well_formed}
use Rattle.values.specs.Givens.{elements_from, elements, small_size}
use Rattle.values.specs.Form.{shape_of, follows, next_fits, group_end, by_shape, value_length, is_value}
use Rattle.values.specs.declared.shapes.Shape.{Shape}
use Rattle.words.proofs.Loops.{and_left, and_right}
use Rattle.values.proofs.Unique.{both}
use Rattle.states_rules.specs.Names.{Name}
use Rattle.states_rules.specs.Decode.{values_from, value_by_shape, value_at, value_of}
use Rattle.states_rules.specs.States.{name_at, sizes_in, is_size, given_number, value_number, entry_from, entry_value, value_in}
use Rattle.states_rules.proofs.GivenSizes.{EntryOf, entry_found}
use Rattle.evaluator_rules.specs.Claims.{WellFormedState}
use Rattle.evaluator_rules.proofs.Decoding.{Words, words_drop, or_none, Shaped, broken, an_integer, an_element, a_set, a_tuple, shaped, values_count, fits_some, value_back}
use Rattle.evaluator_rules.proofs.StateWords.{words_part}
use Rattle.values.proofs.WordOrder.{word_less, word_same}

-- ---- words that are a value
follows_less : (a : Bool) (p m : List ℕ) → follows a p m ≡ true → a ≡ true → is_less (compare p m) ≡ true
unfolding follows
follows_less true p m h e = h
follows_less false p m h e = absurd (false≢true e)

module _ (sizes : ℕ → ℕ) (f : List ℕ → ℕ) (value : List ℕ → Value) (back : (ws : List ℕ) → Words ws → (f ws ≡ 0 → ⊥) → encode (value ws) ≡ take (f ws) ws)
    (formed : (ws : List ℕ) → Words ws → (f ws ≡ 0 → ⊥) → well_formed sizes (value ws) ≡ true) where
  next_follows : (a : Bool) (p ws : List ℕ) → next_fits f a p ws ≡ true → follows a p (take (f ws) ws) ≡ true
  unfolding next_fits
  next_follows a p ws e = go (eqb (f ws) 0) e
    where
      go : (c : Bool) → cond c false (follows a p (take (f ws) ws)) ≡ true → follows a p (take (f ws) ws) ≡ true
      go true e = absurd (false≢true e)
      go false e = e

  -- members after p: well formed, and ascending where they are a set's
  abbrev Group : Bool → List ℕ → Values → Type 0
  Group a p vs = (all_well_formed sizes vs ≡ true) × (a ≡ true → ascends p vs ≡ true)

  one_more : (a : Bool) (p : List ℕ) (v : Value) (vs : Values) → well_formed sizes v ≡ true → follows a p (encode v) ≡ true → Group a (encode v) vs → Group a p (cons v vs)
  unfolding ascends well_formed
  one_more a p v vs h g r =
      (both (well_formed sizes v) _ h r.0, λ e. both (is_less (compare p (encode v))) _ (follows_less a p (encode v) g e) (r.1 e))

  group_formed : (a : Bool) (n : ℕ) (p ws : List ℕ) (at : ℕ) → Words ws → (group_end f a n p ws at ≡ 0 → ⊥) → Group a p (values_from f value n ws)
  unfolding group_end values_from ascends well_formed
  group_formed a zero p ws at h z = (refl, λ e. refl)
  group_formed a (suc n) p ws at h z = go (next_fits f a p ws) refl z (λ x. group_formed a n (take (f ws) ws) (drop (f ws) ws) (at + f ws) (words_drop (f ws) ws h) x)
    where
      go : (b : Bool) → next_fits f a p ws ≡ b → (or_none b (group_end f a n (take (f ws) ws) (drop (f ws) ws) (at + f ws)) ≡ 0 → ⊥) →
          ((group_end f a n (take (f ws) ws) (drop (f ws) ws) (at + f ws) ≡ 0 → ⊥) → Group a (take (f ws) ws) (values_from f value n (drop (f ws) ws))) → Group a p (cons (value ws) (values_from f value n (drop (f ws) ws)))
      go true e z later =
          let some = fits_some f value back a p ws e in
          let b = sym (back ws h some) in
          one_more a p (value ws) (values_from f value n (drop (f ws) ws)) (formed ws h some) (subst (λ (x : List ℕ). follows a p x ≡ true) b (next_follows a p ws e))
          (subst (λ (x : List ℕ). Group a x (values_from f value n (drop (f ws) ws))) b (later z))
      go false e z later = absurd (z refl)

value_formed : (sizes : ℕ → ℕ) (d : ℕ) (ws : List ℕ) → Words ws → (value_length sizes d ws ≡ 0 → ⊥) → well_formed sizes (value_at sizes d ws) ≡ true
unfolding value_at value_length value_by_shape by_shape well_formed signed
value_formed sizes zero ws h z = absurd (z refl)
value_formed sizes (suc d) ws h z = go (shape_of sizes ws) (shaped sizes ws) (λ us. value_formed sizes d us) z
  where
    go : (s : Shape) → Shaped sizes ws s → ((us : List ℕ) → Words us → (value_length sizes d us ≡ 0 → ⊥) → well_formed sizes (value_at sizes d us) ≡ true) → (by_shape (value_length sizes d) s ws ≡ 0 → ⊥) →
        well_formed sizes (value_by_shape (value_length sizes d) (value_at sizes d) s ws) ≡ true
    go s broken ih z = absurd (z refl)
    go s (an_integer l e) ih z = rw e (lt-ltb (mag (signed (get_or ws 1 0))) (2 ^ 31) (to_z-Fits w32 (get_or ws 1 0) (record { fits = h 1 })).sfits)
    go s (an_element l e k) ih z = rw e k
    go s (a_set {n} l e c) ih z =
        let r = group_formed sizes (value_length sizes d) (value_at sizes d) (value_back sizes d) ih true n [] (drop 2 ws) 2 (words_drop 2 ws h) z in
        both (all_well_formed sizes (values_from (value_length sizes d) (value_at sizes d) n (drop 2 ws))) _ r.0 (r.1 refl)
    go s (a_tuple {n} l e c p q) ih z =
        let r = group_formed sizes (value_length sizes d) (value_at sizes d) (value_back sizes d) ih false n [] (drop 2 ws) 2 (words_drop 2 ws h) z in
        both (all_well_formed sizes (values_from (value_length sizes d) (value_at sizes d) n (drop 2 ws))) _ r.0
        (rw (values_count (value_length sizes d) (value_at sizes d) n (drop 2 ws)) (both (leb 2 n) (leb n 6) (le-leb 2 n p) (le-leb n 6 q)))

entry_formed : (sizes : ℕ → ℕ) (ws : List ℕ) → Words ws → is_value sizes ws ≡ true → well_formed sizes (value_of sizes ws) ≡ true
unfolding is_value value_of
entry_formed sizes ws h e =
    let a = leb-true 1 (length ws) (and_left (leb 1 (length ws)) _ e) in
    let b = eqb-true (value_length sizes 32 ws) (length ws) (and_right (leb (length ws) 64) _ (and_right (leb 1 (length ws)) _ e)) in
    value_formed sizes 32 ws h (λ z. omega arith)

-- ---- a given's elements
next_below : (k : ℕ) → k < 20 → lt_z (signed k) (signed (suc k)) ≡ true
unfolding signed
next_below k h = rw (to_z_pos w32 k (omega arith), to_z_pos w32 (suc k) (omega arith), lt-ltb k (suc k) (omega arith))

next_element : (g k : ℕ) → k < 20 → is_less (compare (encode (element g k)) (encode (element g (suc k)))) ≡ true
unfolding encode compare or_else is_less
next_element g k h = rw (word_same 2 2 refl, word_same g g refl, word_less k (suc k) (next_below k h))

elements_ascend : (g k n : ℕ) (p : List ℕ) → is_less (compare p (encode (element g k))) ≡ true → k + n ≤ 20 → ascends p (elements_from g k n) ≡ true
unfolding elements_from ascends
elements_ascend g k zero p h l = refl
elements_ascend g k (suc n) p h l =
    both (is_less (compare p (encode (element g k)))) _ h (elements_ascend g (suc k) n (encode (element g k)) (next_element g k (omega arith)) (omega arith))

elements_below : (size : ℕ → ℕ) (g k n : ℕ) → k + n ≤ size g → all_well_formed size (elements_from g k n) ≡ true
unfolding elements_from well_formed
elements_below size g k zero l = refl
elements_below size g k (suc n) l = both (ltb k (size g)) _ (lt-ltb k (size g) (omega arith)) (elements_below size g (suc k) n (omega arith))

elements_formed : (size : ℕ → ℕ) (g n : ℕ) → n ≤ 20 → n ≤ size g → well_formed size (elements g n) ≡ true
unfolding elements well_formed compare encode is_less
elements_formed size g n l m =
    both (all_well_formed size (elements_from g 0 n)) _ (elements_below size g 0 n (omega arith)) (elements_ascend g 0 n [] refl (omega arith))

-- ---- the state
test_passed : (b : Bool) → ◌≡◌ {A = ℕ} (cond b 0 41) 0 → b ≡ true
test_passed true e = refl
test_passed false e = absurd (omega arith)

module _ (ns : List Name) (state : List ℕ) (h : Words state) (f : WellFormedState ns state) where
  abbrev sizes : ℕ → ℕ
  sizes = sizes_in ns state

  -- an identifier that no entry has
  missing : (n : Name) → well_formed sizes (entry_value sizes n []) ≡ true
  unfolding entry_value elements elements_from value_of value_at value_by_shape shape_of well_formed ascends
  missing n = go n.is_given
    where
      go : (b : Bool) → well_formed sizes (cond b (elements n.identifier 0) (value_of sizes [])) ≡ true
      go true = refl
      go false = refl

  -- entry k, of which the size in the table is known
  present : (k : ℕ) → 1 ≤ k → k ≤ length ns → ((name_at ns k).is_given ≡ true → sizes (name_at ns k).identifier ≡ small_size (get_or (part state k) 0 0)) →
      well_formed sizes (entry_value sizes (name_at ns k) (part state k)) ≡ true
  unfolding entry_value given_number value_number is_size small_size
  present k l m s = go (name_at ns k).is_given refl
    where
      go : (b : Bool) → (name_at ns k).is_given ≡ b → well_formed sizes (cond b (elements (name_at ns k).identifier (get_or (part state k) 0 0)) (value_of sizes (part state k))) ≡ true
      go true g =
          let w = get_or (part state k) 0 0 in
          let t = test_passed (is_size (part state k)) (rw g at (f.givens k l m)) in
          let b = and_right (eqb (length (part state k)) 1) _ t in
          let u : sizes (name_at ns k).identifier ≡ w = s g ∙ rw b in
          elements_formed sizes (name_at ns k).identifier w (leb-true w 20 b) (omega arith)
      go false g = entry_formed sizes (part state k) (words_part state k h) (test_passed (is_value sizes (part state k)) (rw g at (f.others k l m)))

  pub state_formed : (i : ℕ) → well_formed sizes (value_in ns state i) ≡ true
  unfolding value_in sizes_in part
  state_formed i = ⊎_elim (λ z. rw z (missing (name_at ns 0))) (λ e. found e) (entry_found ns state i 1)
    where
      found : EntryOf ns state i 1 (entry_from ns i 1) → well_formed sizes (value_in ns state i) ≡ true
      found e = present (entry_from ns i 1) e.low (omega (arith, e.high)) (λ g. rw e.named (e.sized g))
