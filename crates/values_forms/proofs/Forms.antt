-- Laws of the words of a value: a shape lies within its words, and one turn of the loop over members or parts.
use mathlib.Core.Path.{◌≡◌, refl}
use mathlib.Core.Bool.{Bool, true, false, cond}
use mathlib.Core.List.{List}
use Prim.Native.Nat.{ℕ, zero, suc, ◌+◌, ◌-◌, ◌≤◌, ◌<◌, ◌^◌}
use native.Mathlib.Omega.{arith}
use native.Mathlib.Nat.{add-sub_cancel_left}
use lib.Dec.{eqb, leb, ltb}
use lib.ListN.{length, get_or, take, drop}
use lib.Seq.{drop-drop}
use borrow.Author.Tests.{ne_eqb, ltb-false}
use Rattle.values.specs.declared.shapes.Shape.{Shape}
use Rattle.values.specs.declared.shapes.Shape.TheVariants.{Broken, Leaf, Set, Tuple}
use Rattle.values.specs.Form.{element_shape, group_shape, shape_of, follows, next_fits, group_end, by_shape, value_length}
use Rattle.words.proofs.Loops.{turn, none_left_lem}

-- what a shape says of the number of words: a leaf's are there, and a count is
abbrev pub Within : Shape → ℕ → Type 0
Within Broken l = Unit {0}
Within (Leaf n) l = n ≤ l
Within (Set n) l = 2 ≤ l
Within (Tuple n) l = 2 ≤ l

by_test_lem : (b : Bool) (x y : Shape) (l : ℕ) → (b ≡ true → Within x l) → (b ≡ false → Within y l) → Within (cond b x y) l
by_test_lem true x y l f g = f refl
by_test_lem false x y l f g = g refl

element_within : (size : ℕ → ℕ) (ws : List ℕ) → Within (element_shape size ws) (length ws)
unfolding element_shape
element_within size ws =
    by_test_lem (ltb (length ws) 3) Broken _ _ (λ h. tt)
    (λ h. by_test_lem (ltb (get_or ws 2 0) (size (get_or ws 1 0))) (Leaf 3) Broken _ (λ g. ltb-false (length ws) 3 h) (λ g. tt))

group_within : (tag n l : ℕ) → 2 ≤ l → Within (group_shape tag n) l
unfolding group_shape
group_within tag n l h =
    by_test_lem (eqb tag 3) _ _ l
    (λ _. by_test_lem (ltb n (2 ^ 31)) (Set n) Broken l (λ _. h) (λ _. tt))
    (λ _. by_test_lem (eqb tag 4) _ Broken l (λ _. by_test_lem (ltb n 2) Broken _ l (λ _. tt) (λ _. by_test_lem (leb n 6) (Tuple n) Broken l (λ _. h) (λ _. tt))) (λ _. tt))

pub shape_within : (size : ℕ → ℕ) (ws : List ℕ) → Within (shape_of size ws) (length ws)
unfolding shape_of
shape_within size ws =
    by_test_lem (ltb (length ws) 2) Broken _ _ (λ h. tt)
    (λ h. let l = ltb-false (length ws) 2 h in
    by_test_lem (eqb (get_or ws 0 0) 1) (Leaf 2) _ _ (λ _. l)
    (λ _. by_test_lem (eqb (get_or ws 0 0) 2) _ _ _ (λ _. element_within size ws) (λ _. group_within (get_or ws 0 0) (get_or ws 1 0) (length ws) l)))

-- one level
pub length_none : (size : ℕ → ℕ) (d : ℕ) (ws : List ℕ) → d ≡ 0 → 0 ≡ value_length size d ws
unfolding value_length
length_none size d ws e = rw e

pub length_level : (size : ℕ → ℕ) (d : ℕ) (ws : List ℕ) → (d ≡ 0 → ⊥) → (s : Shape) → s ≡ shape_of size ws → value_length size d ws ≡ by_shape (value_length size (d - 1)) s ws
unfolding value_length
length_level size zero ws h s e = absurd (h refl)
length_level size (suc d) ws h s e = let f : d ≡ suc d - 1 = omega arith in rw (e, ← f)

-- one turn: n values, i of them passed, the last from the place `last` to the place `at` of w
module _ (f : List ℕ → ℕ) (ascending : Bool) (w : List ℕ) (n i last at : ℕ) (h : i < n) where
  pub group_none : f (drop at w) ≡ 0 → 0 ≡ group_end f ascending (n - i) (take (at - last) (drop last w)) (drop at w) at
  unfolding group_end next_fits
  group_none e = rw (turn n i h, group_end, e)

  module _ (k : ℕ) (e : k ≡ f (drop at w)) (z : k ≡ 0 → ⊥) where
    pub group_stop : follows ascending (take (at - last) (drop last w)) (take k (drop at w)) ≡ false → 0 ≡ group_end f ascending (n - i) (take (at - last) (drop last w)) (drop at w) at
    unfolding group_end next_fits
    group_stop t = rw (turn n i h, group_end, ← e, ne_eqb k 0 z, t)

    pub group_go : follows ascending (take (at - last) (drop last w)) (take k (drop at w)) ≡ true → group_end f ascending (n - i) (take (at - last) (drop last w)) (drop at w) at ≡ group_end f ascending (n - (i + 1)) (take (at + k - at) (drop at w)) (drop (at + k) w) (at + k)
    unfolding group_end next_fits
    group_go t = rw (turn n i h, group_end, ← e, ne_eqb k 0 z, t, add-sub_cancel_left at k) (rw (← e, drop-drop k at w))

pub group_done : (f : List ℕ → ℕ) (ascending : Bool) (p ws : List ℕ) (n i at : ℕ) → n ≤ i → at ≡ group_end f ascending (n - i) p ws at
unfolding group_end
group_done f ascending p ws n i at h = rw (none_left_lem n i h)
