-- Words that pass `is_value` are the words of a well-formed value: the value is read back from them.
use mathlib.Core.Path.{◌≡◌, refl, sym, ap, ◌∙◌, subst}
use mathlib.Core.Bool.{Bool, true, false, cond, false≢true}
use mathlib.Core.List.{List, [], ◌∷◌, ◌++◌, append_assoc, append-nil}
use mathlib.Core.Logic.{◌⊎◌, inl, inr, ⊎_elim}
use Prim.Native.Nat.{ℕ, zero, suc, ◌+◌, ◌≤◌, ◌<◌, ◌^◌}
use native.Mathlib.Omega.{arith}
use lib.Dec.{eqb, leb, ltb}
use lib.Signed.{mag}
use lib.ListN.{length, get_or, take, drop, length-append}
use lib.Seq.{take_at, drop-drop, get_or-drop, drop-length}
use borrow.Author.Tests.{le-leb, ne_eqb, lt-ltb, ltb-false, leb-true, eqb-true}
use mir.Syntax.{w32}
use mir.Val.{Fits}
use mir.ValLaws.{of_z-to_z, to_z-Fits}
use Rattle.values.specs.declared.shapes.Shape.{Shape}
use Rattle.values.specs.declared.shapes.Shape.TheVariants.{Broken, Leaf, Set, Tuple}
use Rattle.values_integers.specs.Integer.{signed, word_of}
use Rattle.values.specs.Order.{compare, is_less}
use Rattle.values.specs.Value.{Value, int, element, set, tuple, Values, nil, cons, count, encode, encodes}
use Rattle.values.specs.Form.{element_shape, group_shape, shape_of, follows, next_fits, group_end, by_shape, value_length, is_value}
use Rattle.values.specs.WellFormed.{ascends, well_formed, all_well_formed}
use Rattle.words.proofs.Loops.{and_left, and_right}
use Rattle.values.proofs.Unique.{both}
use Rattle.values.proofs.Equality.{Small}

small_drop : (k : ℕ) (ws : List ℕ) → Small ws → Small (drop k ws)
small_drop k ws s = record { at = λ i. subst (λ (x : ℕ). x < 2 ^ 32) (sym (get_or-drop k ws i 0)) (s.at (k + i)) }

-- ---- what a shape says of the words

abbrev LeafFacts : (ℕ → ℕ) → List ℕ → ℕ → Type 0
LeafFacts size ws n =
    ((n ≡ 2) × (2 ≤ length ws) × (get_or ws 0 0 ≡ 1)) ⊎ ((n ≡ 3) × (3 ≤ length ws) × (get_or ws 0 0 ≡ 2) × (ltb (get_or ws 2 0) (size (get_or ws 1 0)) ≡ true))

abbrev Facts : (ℕ → ℕ) → List ℕ → Shape → Type 0
Facts size ws Broken = Unit {0}
Facts size ws (Leaf n) = LeafFacts size ws n
Facts size ws (Set n) = (2 ≤ length ws) × (get_or ws 0 0 ≡ 3) × (n ≡ get_or ws 1 0)
Facts size ws (Tuple n) = (2 ≤ length ws) × (get_or ws 0 0 ≡ 4) × (n ≡ get_or ws 1 0) × (2 ≤ n) × (n ≤ 6)

module _ (size : ℕ → ℕ) (ws : List ℕ) where
  by_test_lem : (b : Bool) (x y : Shape) → (b ≡ true → Facts size ws x) → (b ≡ false → Facts size ws y) → Facts size ws (cond b x y)
  by_test_lem true x y f g = f refl
  by_test_lem false x y f g = g refl

  element_facts : get_or ws 0 0 ≡ 2 → Facts size ws (element_shape size ws)
  unfolding element_shape
  element_facts t =
      by_test_lem (ltb (length ws) 3) Broken _ (λ h. tt)
      (λ h. by_test_lem (ltb (get_or ws 2 0) (size (get_or ws 1 0))) (Leaf 3) Broken (λ g. inr (refl, ltb-false (length ws) 3 h, t, g)) (λ g. tt))

  group_facts : 2 ≤ length ws → Facts size ws (group_shape (get_or ws 0 0) (get_or ws 1 0))
  unfolding group_shape
  group_facts l =
      let n = get_or ws 1 0 in
      by_test_lem (eqb (get_or ws 0 0) 3) _ _
      (λ t. by_test_lem (ltb n (2 ^ 31)) (Set n) Broken (λ _. (l, eqb-true (get_or ws 0 0) 3 t, refl)) (λ _. tt))
      (λ _. by_test_lem (eqb (get_or ws 0 0) 4) _ Broken
      (λ t. by_test_lem (ltb n 2) Broken _ (λ _. tt) (λ g. by_test_lem (leb n 6) (Tuple n) Broken (λ h. (l, eqb-true (get_or ws 0 0) 4 t, refl, ltb-false n 2 g, leb-true n 6 h)) (λ _. tt)))
      (λ _. tt))

  shape_facts : Facts size ws (shape_of size ws)
  unfolding shape_of
  shape_facts =
      by_test_lem (ltb (length ws) 2) Broken _ (λ h. tt)
      (λ h. let l = ltb-false (length ws) 2 h in
      by_test_lem (eqb (get_or ws 0 0) 1) (Leaf 2) _ (λ t. inl (refl, l, eqb-true (get_or ws 0 0) 1 t))
      (λ _. by_test_lem (eqb (get_or ws 0 0) 2) (element_shape size ws) _ (λ t. element_facts (eqb-true (get_or ws 0 0) 2 t)) (λ _. group_facts l)))

two_words : (ws : List ℕ) → 2 ≤ length ws → ws ≡ get_or ws 0 0 ∷ get_or ws 1 0 ∷ drop 2 ws
two_words [] h = absurd (omega arith)
two_words (x ∷ []) h = absurd (omega arith)
two_words (x ∷ y ∷ r) h = refl

three_words : (ws : List ℕ) → 3 ≤ length ws → ws ≡ get_or ws 0 0 ∷ get_or ws 1 0 ∷ get_or ws 2 0 ∷ drop 3 ws
three_words [] h = absurd (omega arith)
three_words (x ∷ []) h = absurd (omega arith)
three_words (x ∷ y ∷ []) h = absurd (omega arith)
three_words (x ∷ y ∷ z ∷ r) h = refl

-- ---- the value at the beginning of ws, k words long; n values from the place `at` on

pub record Read (size : ℕ → ℕ) (k : ℕ) (ws : List ℕ) : Type 0 where
  pub value : Value
  pub good : well_formed size value ≡ true
  pub words : ws ≡ encode value ++ drop k ws
  pub long : k ≡ length (encode value)

record Reads (size : ℕ → ℕ) (b : Bool) (n : ℕ) (p ws : List ℕ) (at e : ℕ) : Type 0 where
  values : Values
  counts : count values ≡ n
  good : all_well_formed size values ≡ true
  order : b ≡ true → ascends p values ≡ true
  words : ws ≡ encodes values ++ drop (length (encodes values)) ws
  end : e ≡ at + length (encodes values)

module _ (size : ℕ → ℕ) where
  read_int : (ws : List ℕ) → Small ws → 2 ≤ length ws → get_or ws 0 0 ≡ 1 → Read size 2 ws
  unfolding encode well_formed signed word_of
  read_int ws s l t =
      let x = get_or ws 1 0 in
      let f : Fits w32 x = record { fits = s.at 1 } in
      record {
        value = int (signed x);
        good = lt-ltb (mag (signed x)) (2 ^ 31) (to_z-Fits w32 x f).sfits;
        words = two_words ws l ∙ rw (t, of_z-to_z w32 x f);
        long = refl;
      }

  read_element : (ws : List ℕ) → 3 ≤ length ws → get_or ws 0 0 ≡ 2 → ltb (get_or ws 2 0) (size (get_or ws 1 0)) ≡ true → Read size 3 ws
  unfolding encode well_formed
  read_element ws l t h =
      record {
        value = element (get_or ws 1 0) (get_or ws 2 0);
        good = h;
        words = three_words ws l ∙ rw t;
        long = refl;
      }

  group_words : (ws : List ℕ) (tag n : ℕ) (vs : Values) (e : ℕ) → 2 ≤ length ws → get_or ws 0 0 ≡ tag → get_or ws 1 0 ≡ n → count vs ≡ n → drop 2 ws ≡ encodes vs ++ drop (length (encodes vs)) (drop 2 ws) → e ≡ 2 + length (encodes vs) →
      ws ≡ tag ∷ count vs ∷ (encodes vs ++ drop e ws)
  group_words ws tag n vs e l t c k w q =
      two_words ws l ∙ rw (t, c, k, q) (ap (λ (x : List ℕ). tag ∷ n ∷ x) (w ∙ ap (λ (x : List ℕ). encodes vs ++ x) (drop-drop (length (encodes vs)) 2 ws)))

  follows_yes : (b : Bool) (p m : List ℕ) → follows b p m ≡ true → b ≡ true → is_less (compare p m) ≡ true
  unfolding follows
  follows_yes true p m h e = h
  follows_yes false p m h e = absurd (false≢true e)

  -- one more value before those that are read
  read_cons : (b : Bool) (n : ℕ) (p ws : List ℕ) (at k e : ℕ) → Read size k ws → follows b p (take k ws) ≡ true → Reads size b n (take k ws) (drop k ws) (at + k) e → Reads size b (suc n) p ws at e
  unfolding encode count well_formed ascends
  read_cons b n p ws at k e r g q =
      let v = r.value in
      let vs = q.values in
      let m : take k ws ≡ encode v = ap (take k) r.words ∙ take_at (encode v) (drop k ws) k (sym r.long) in
      let l : k + length (encodes vs) ≡ length (encode v ++ encodes vs) = omega (arith, length-append (encode v) (encodes vs), r.long) in
      record {
        values = cons v vs;
        counts = ap suc q.counts;
        good = both (well_formed size v) (all_well_formed size vs) r.good q.good;
        order = λ y. both (is_less (compare p (encode v))) (ascends (encode v) vs) (rw m at (follows_yes b p (take k ws) g y)) (rw m at (q.order y));
        words = r.words ∙ ap (λ (x : List ℕ). encode v ++ x) (q.words ∙ ap (λ (x : List ℕ). encodes vs ++ x) (drop-drop (length (encodes vs)) k ws ∙ ap (λ (x : ℕ). drop x ws) l)) ∙ sym (append_assoc (encode v) (encodes vs) (drop (length (encode v ++ encodes vs)) ws));
        end = omega (arith, q.end, l);
      }

  module _ (f : List ℕ → ℕ) (rd : (u : List ℕ) → Small u → (f u ≡ 0 → ⊥) → Read size (f u) u) where
    read_group : (n : ℕ) (b : Bool) (p ws : List ℕ) (at : ℕ) → Small ws → (group_end f b n p ws at ≡ 0 → ⊥) → Reads size b n p ws at (group_end f b n p ws at)
    unfolding group_end count encodes all_well_formed ascends next_fits follows
    read_group zero b p ws at s h = record { values = nil; counts = refl; good = refl; order = λ e. refl; words = refl; end = omega arith }
    read_group (suc n) b p ws at s h =
        go (next_fits f b p ws) refl (λ g. read_group n b (take (f ws) ws) (drop (f ws) ws) (at + f ws) (small_drop (f ws) ws s) g)
      where
        some : next_fits f b p ws ≡ true → f ws ≡ 0 → ⊥
        some e z = false≢true (rw z at e)

        go : (t : Bool) → next_fits f b p ws ≡ t → ((group_end f b n (take (f ws) ws) (drop (f ws) ws) (at + f ws) ≡ 0 → ⊥) → Reads size b n (take (f ws) ws) (drop (f ws) ws) (at + f ws) (group_end f b n (take (f ws) ws) (drop (f ws) ws) (at + f ws))) →
            Reads size b (suc n) p ws at (group_end f b (suc n) p ws at)
        go false e again = absurd (h (rw (group_end, e)))
        go true e again =
            let k = f ws in
            let g : follows b p (take k ws) ≡ true = rw (ne_eqb k 0 (some e)) at e in
            let c : group_end f b (suc n) p ws at ≡ group_end f b n (take k ws) (drop k ws) (at + k) = rw (group_end, e) in
            subst (Reads size b (suc n) p ws at) (sym c)
            (read_cons b n p ws at k _ (rd ws s (some e)) g (again (λ z. h (c ∙ z))))

    read_shape : (sh : Shape) (ws : List ℕ) → Small ws → Facts size ws sh → (by_shape f sh ws ≡ 0 → ⊥) → Read size (by_shape f sh ws) ws
    unfolding by_shape encode well_formed
    read_shape Broken ws s x h = absurd (h refl)
    read_shape (Leaf n) ws s x h =
        ⊎_elim
        (λ i. subst (λ (k : ℕ). Read size k ws) (sym i.0) (read_int ws s i.1 i.2))
        (λ i. subst (λ (k : ℕ). Read size k ws) (sym i.0) (read_element ws i.1 i.2 i.3))
        x
    read_shape (Set n) ws s x h =
        let r = read_group n true [] (drop 2 ws) 2 (small_drop 2 ws s) h in
        let vs = r.values in
        record {
          value = set vs;
          good = both (all_well_formed size vs) (ascends [] vs) r.good (r.order refl);
          words = group_words ws 3 n vs _ x.0 x.1 (sym x.2) r.counts r.words r.end;
          long = omega (arith, r.end);
        }
    read_shape (Tuple n) ws s x h =
        let r = read_group n false [] (drop 2 ws) 2 (small_drop 2 ws s) h in
        let vs = r.values in
        record {
          value = tuple vs;
          good = both (all_well_formed size vs) _ r.good (rw r.counts (both (leb 2 n) (leb n 6) (le-leb 2 n x.3) (le-leb n 6 x.4)));
          words = group_words ws 4 n vs _ x.0 x.1 (sym x.2) r.counts r.words r.end;
          long = omega (arith, r.end);
        }

  reads : (d : ℕ) (ws : List ℕ) → Small ws → (value_length size d ws ≡ 0 → ⊥) → Read size (value_length size d ws) ws
  unfolding value_length
  reads zero ws s h = absurd (h refl)
  reads (suc d) ws s h = read_shape (value_length size d) (λ u t g. reads d u t g) (shape_of size ws) ws s (shape_facts size ws) h

  whole : (k : ℕ) (ws : List ℕ) → k ≡ length ws → (r : Read size k ws) → ws ≡ encode r.value
  whole k ws c r = r.words ∙ ap (λ (x : ℕ). encode r.value ++ drop x ws) c ∙ rw (drop-length ws) (append-nil (encode r.value))

  -- the value whose words these are
  pub value_read : (ws : List ℕ) → Small ws → is_value size ws ≡ true → (v : Value) × (well_formed size v ≡ true) × (encode v ≡ ws) × (length ws ≤ 64)
  unfolding is_value
  value_read ws s h =
      let a = leb-true 1 (length ws) (and_left (leb 1 (length ws)) _ h) in
      let t = and_right (leb 1 (length ws)) _ h in
      let b = leb-true (length ws) 64 (and_left (leb (length ws) 64) _ t) in
      let c = eqb-true (value_length size 32 ws) (length ws) (and_right (leb (length ws) 64) _ t) in
      let r = reads 32 ws s (λ z. omega arith) in
      (r.value, r.good, sym (whole (value_length size 32 ws) ws c r), b)
