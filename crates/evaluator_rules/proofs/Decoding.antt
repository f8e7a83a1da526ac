-- Value words are read back: the value that words are has these words, and no others.
use mathlib.Core.Path.{◌≡◌, refl, sym, ap, subst, ◌∙◌}
use mathlib.Core.Bool.{Bool, true, false, cond, false≢true}
use mathlib.Core.List.{List, [], ◌∷◌, ◌++◌}
use Prim.Native.Nat.{ℕ, zero, suc, ◌+◌, ◌-◌, ◌^◌, ◌≤◌, ◌<◌}
use native.Mathlib.Omega.{arith}
use lib.Dec.{eqb, leb, ltb}
use lib.ListN.{length, get_or, take, drop}
use lib.Seq.{take-add, take-length, get_or-drop}
use borrow.Author.Tests.{eqb-true, eqb-false, ltb-false, leb-true}
use mir.Syntax.{w32}
use mir.Facts.{of_z-to_z}
use Rattle.words.proofs.Loops.{and_left, and_right}
use Rattle.values_integers.specs.Integer.{signed, word_of}
use Rattle.values.specs.Value.{Value, Values, cons, count, encode, encodes}
use Rattle.values.specs.Form.{element_shape, group_shape, shape_of, follows, next_fits, group_end, by_shape, value_length, is_value}
use Rattle.values.specs.declared.shapes.Shape.{Shape}
use Rattle.values.specs.declared.shapes.Shape.TheVariants.{Broken, Leaf, Set, Tuple}
use Rattle.states_rules.specs.Decode.{values_from, value_by_shape, value_at, value_of}

-- words of 32 bits
abbrev pub Words : List ℕ → Type 0
Words ws = (i : ℕ) → get_or ws i 0 < 2 ^ 32

pub words_drop : (n : ℕ) (ws : List ℕ) → Words ws → Words (drop n ws)
words_drop n ws h i = subst (λ (x : ℕ). x < 2 ^ 32) (sym (get_or-drop n ws i 0)) (h (n + i))

-- what a shape says of the words that it was found at
pub data Shaped (size : ℕ → ℕ) (ws : List ℕ) : Shape → Type 0 where
  broken : Shaped size ws Broken
  an_integer : 2 ≤ length ws → get_or ws 0 0 ≡ 1 → Shaped size ws (Leaf 2)
  an_element : 3 ≤ length ws → get_or ws 0 0 ≡ 2 → ltb (get_or ws 2 0) (size (get_or ws 1 0)) ≡ true → Shaped size ws (Leaf 3)
  a_set : {n : ℕ} → 2 ≤ length ws → get_or ws 0 0 ≡ 3 → get_or ws 1 0 ≡ n → Shaped size ws (Set n)
  a_tuple : {n : ℕ} → 2 ≤ length ws → get_or ws 0 0 ≡ 4 → get_or ws 1 0 ≡ n → 2 ≤ n → n ≤ 6 → Shaped size ws (Tuple n)

by_test_lem : (size : ℕ → ℕ) (ws : List ℕ) (b : Bool) (x y : Shape) → (b ≡ true → Shaped size ws x) → (b ≡ false → Shaped size ws y) → Shaped size ws (cond b x y)
by_test_lem size ws true x y f g = f refl
by_test_lem size ws false x y f g = g refl

element_shaped : (size : ℕ → ℕ) (ws : List ℕ) → get_or ws 0 0 ≡ 2 → Shaped size ws (element_shape size ws)
unfolding element_shape
element_shaped size ws e =
    by_test_lem size ws (ltb (length ws) 3) Broken _ (λ h. broken)
    (λ h. by_test_lem size ws (ltb (get_or ws 2 0) (size (get_or ws 1 0))) (Leaf 3) Broken (λ g. an_element (ltb-false (length ws) 3 h) e g) (λ g. broken))

group_shaped : (size : ℕ → ℕ) (ws : List ℕ) → 2 ≤ length ws → Shaped size ws (group_shape (get_or ws 0 0) (get_or ws 1 0))
unfolding group_shape
group_shaped size ws l =
    let t = get_or ws 0 0 in
    let n = get_or ws 1 0 in
    by_test_lem size ws (eqb t 3) _ _
    (λ e. by_test_lem size ws (ltb n (2 ^ 31)) (Set n) Broken (λ _. a_set l (eqb-true t 3 e) refl) (λ _. broken))
    (λ _. by_test_lem size ws (eqb t 4) _ Broken (λ e. by_test_lem size ws (ltb n 2) Broken _ (λ _. broken) (λ a. by_test_lem size ws (leb n 6) (Tuple n) Broken (λ b. a_tuple l (eqb-true t 4 e) refl (ltb-false n 2 a) (leb-true n 6 b)) (λ _. broken))) (λ _. broken))

pub shaped : (size : ℕ → ℕ) (ws : List ℕ) → Shaped size ws (shape_of size ws)
unfolding shape_of
shaped size ws =
    by_test_lem size ws (ltb (length ws) 2) Broken _ (λ h. broken)
    (λ h. let l = ltb-false (length ws) 2 h in
    by_test_lem size ws (eqb (get_or ws 0 0) 1) (Leaf 2) _ (λ e. an_integer l (eqb-true (get_or ws 0 0) 1 e))
    (λ _. by_test_lem size ws (eqb (get_or ws 0 0) 2) _ _ (λ e. element_shaped size ws (eqb-true (get_or ws 0 0) 2 e)) (λ _. group_shaped size ws l)))

take_two : (ws : List ℕ) → 2 ≤ length ws → take 2 ws ≡ get_or ws 0 0 ∷ get_or ws 1 0 ∷ []
take_two [] l = absurd (omega arith)
take_two (a ∷ []) l = absurd (omega arith)
take_two (a ∷ (b ∷ ws)) l = refl

take_three : (ws : List ℕ) → 3 ≤ length ws → take 3 ws ≡ get_or ws 0 0 ∷ get_or ws 1 0 ∷ get_or ws 2 0 ∷ []
take_three [] l = absurd (omega arith)
take_three (a ∷ []) l = absurd (omega arith)
take_three (a ∷ (b ∷ [])) l = absurd (omega arith)
take_three (a ∷ (b ∷ (c ∷ ws))) l = refl

word_back : (w : ℕ) → w < 2 ^ 32 → word_of (signed w) ≡ w
unfolding word_of signed
word_back w h = of_z-to_z {w = w32} (record { fits = h })

pub values_count : (size : List ℕ → ℕ) (value : List ℕ → Value) (n : ℕ) (ws : List ℕ) → count (values_from size value n ws) ≡ n
unfolding values_from count
values_count size value zero ws = refl
values_count size value (suc n) ws = ap suc (values_count size value n (drop (size ws) ws))

abbrev pub or_none : Bool → ℕ → ℕ
or_none b e = elim b as (λ x. ℕ) [ true ↦ e | false ↦ 0 ]

-- the values vs are those of the words ws up to a place e, counted from `at`
abbrev Read : ℕ → List ℕ → Values → ℕ → Type 0
Read at ws vs e = (at ≤ e) × (encodes vs ≡ take (e - at) ws)

module _ (size : List ℕ → ℕ) (value : List ℕ → Value) (back : (ws : List ℕ) → Words ws → (size ws ≡ 0 → ⊥) → encode (value ws) ≡ take (size ws) ws) where
  pub fits_some : (ascending : Bool) (p ws : List ℕ) → next_fits size ascending p ws ≡ true → size ws ≡ 0 → ⊥
  unfolding next_fits
  fits_some ascending p ws e z = go (eqb (size ws) 0) refl e
    where
      go : (c : Bool) → eqb (size ws) 0 ≡ c → cond c false (follows ascending p (take (size ws) ws)) ≡ true → ⊥
      go true h e = false≢true e
      go false h e = eqb-false (size ws) 0 h z

  group_back : (ascending : Bool) (n : ℕ) (p ws : List ℕ) (at : ℕ) → Words ws → (group_end size ascending n p ws at ≡ 0 → ⊥) → Read at ws (values_from size value n ws) (group_end size ascending n p ws at)
  unfolding group_end values_from encode
  group_back ascending zero p ws at h z =
      let e : at - at ≡ 0 = omega arith in
      (omega arith, rw e)
  group_back ascending (suc n) p ws at h z = go (next_fits size ascending p ws) refl z (λ x. group_back ascending n (take (size ws) ws) (drop (size ws) ws) (at + size ws) (words_drop (size ws) ws h) x)
    where
      go : (b : Bool) → next_fits size ascending p ws ≡ b → (or_none b (group_end size ascending n (take (size ws) ws) (drop (size ws) ws) (at + size ws)) ≡ 0 → ⊥) →
          ((group_end size ascending n (take (size ws) ws) (drop (size ws) ws) (at + size ws) ≡ 0 → ⊥) → Read (at + size ws) (drop (size ws) ws) (values_from size value n (drop (size ws) ws)) (group_end size ascending n (take (size ws) ws) (drop (size ws) ws) (at + size ws))) →
          Read at ws (cons (value ws) (values_from size value n (drop (size ws) ws))) (or_none b (group_end size ascending n (take (size ws) ws) (drop (size ws) ws) (at + size ws)))
      go true e z later =
          let f = size ws in
          let g = group_end size ascending n (take f ws) (drop f ws) (at + f) in
          let r = later z in
          let l = r.0 in
          let s : f + (g - (at + f)) ≡ g - at = omega arith in
          let first = back ws h (fits_some ascending p ws e) in
          let rest = encodes (values_from size value n (drop f ws)) in
          (omega arith, ap (λ (x : List ℕ). x ++ rest) first ∙ ap (λ (x : List ℕ). take f ws ++ x) r.1 ∙ sym (take-add f (g - (at + f)) ws) ∙ ap (λ (m : ℕ). take m ws) s)
      go false e z later = absurd (z refl)

two_and : (ws : List ℕ) (g : ℕ) → 2 ≤ length ws → 2 ≤ g → take g ws ≡ get_or ws 0 0 ∷ get_or ws 1 0 ∷ take (g - 2) (drop 2 ws)
two_and ws g l h =
    let s : g ≡ 2 + (g - 2) = omega arith in
    ap (λ (m : ℕ). take m ws) s ∙ take-add 2 (g - 2) ws ∙ ap (λ (x : List ℕ). x ++ take (g - 2) (drop 2 ws)) (take_two ws l)

pub value_back : (sizes : ℕ → ℕ) (d : ℕ) (ws : List ℕ) → Words ws → (value_length sizes d ws ≡ 0 → ⊥) → encode (value_at sizes d ws) ≡ take (value_length sizes d ws) ws
unfolding value_at value_length value_by_shape by_shape encode
value_back sizes zero ws h z = absurd (z refl)
value_back sizes (suc d) ws h z = go (shape_of sizes ws) (shaped sizes ws) (λ us. value_back sizes d us) z
  where
    go : (s : Shape) → Shaped sizes ws s → ((us : List ℕ) → Words us → (value_length sizes d us ≡ 0 → ⊥) → encode (value_at sizes d us) ≡ take (value_length sizes d us) us) → (by_shape (value_length sizes d) s ws ≡ 0 → ⊥) → encode (value_by_shape (value_length sizes d) (value_at sizes d) s ws) ≡ take (by_shape (value_length sizes d) s ws) ws
    go s broken ih z = absurd (z refl)
    go s (an_integer l e) ih z = rw e (ap (λ (w : ℕ). 1 ∷ w ∷ []) (word_back (get_or ws 1 0) (h 1)) ∙ ap (λ (t : ℕ). t ∷ get_or ws 1 0 ∷ []) (sym e) ∙ sym (take_two ws l))
    go s (an_element l e _) ih z = rw e (ap (λ (t : ℕ). t ∷ get_or ws 1 0 ∷ get_or ws 2 0 ∷ []) (sym e) ∙ sym (take_three ws l))
    go s (a_set {n} l e c) ih z =
        let r = group_back (value_length sizes d) (value_at sizes d) ih true n [] (drop 2 ws) 2 (words_drop 2 ws h) z in
        ap (λ (m : ℕ). 3 ∷ m ∷ encodes (values_from (value_length sizes d) (value_at sizes d) n (drop 2 ws))) (values_count (value_length sizes d) (value_at sizes d) n (drop 2 ws))
        ∙ ap (λ (x : List ℕ). 3 ∷ n ∷ x) r.1 ∙ ap (λ (t : ℕ). t ∷ n ∷ take (group_end (value_length sizes d) true n [] (drop 2 ws) 2 - 2) (drop 2 ws)) (sym e)
        ∙ ap (λ (m : ℕ). get_or ws 0 0 ∷ m ∷ take (group_end (value_length sizes d) true n [] (drop 2 ws) 2 - 2) (drop 2 ws)) (sym c) ∙ sym (two_and ws _ l r.0)
    go s (a_tuple {n} l e c _ _) ih z =
        let r = group_back (value_length sizes d) (value_at sizes d) ih false n [] (drop 2 ws) 2 (words_drop 2 ws h) z in
        ap (λ (m : ℕ). 4 ∷ m ∷ encodes (values_from (value_length sizes d) (value_at sizes d) n (drop 2 ws))) (values_count (value_length sizes d) (value_at sizes d) n (drop 2 ws))
        ∙ ap (λ (x : List ℕ). 4 ∷ n ∷ x) r.1 ∙ ap (λ (t : ℕ). t ∷ n ∷ take (group_end (value_length sizes d) false n [] (drop 2 ws) 2 - 2) (drop 2 ws)) (sym e)
        ∙ ap (λ (m : ℕ). get_or ws 0 0 ∷ m ∷ take (group_end (value_length sizes d) false n [] (drop 2 ws) 2 - 2) (drop 2 ws)) (sym c) ∙ sym (two_and ws _ l r.0)

-- the value of a well-formed entry has the entry's words
pub value_read : (sizes : ℕ → ℕ) (ws : List ℕ) → Words ws → is_value sizes ws ≡ true → encode (value_of sizes ws) ≡ ws
unfolding is_value value_of
value_read sizes ws h e =
    let a = leb-true 1 (length ws) (and_left (leb 1 (length ws)) _ e) in
    let b = eqb-true (value_length sizes 32 ws) (length ws) (and_right (leb (length ws) 64) _ (and_right (leb 1 (length ws)) _ e)) in
    value_back sizes 32 ws h (λ z. omega arith) ∙ ap (λ (n : ℕ). take n ws) b ∙ take-length ws
