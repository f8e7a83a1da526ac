-- Laws of finding 42's test: one level, and one turn of the loop over members or parts.
use mathlib.Core.Path.{◌≡◌, refl}
use mathlib.Core.Bool.{Bool, true, false, cond}
use mathlib.Core.List.{List}
use Prim.Native.Nat.{ℕ, zero, suc, ◌+◌, ◌-◌, ◌≤◌, ◌<◌}
use native.Mathlib.Omega.{arith}
use lib.Dec.{eqb}
use lib.ListN.{get_or, drop}
use lib.Seq.{drop-drop}
use Rattle.values.specs.Span.{span}
use Rattle.values.specs.declared.shapes.Test.{Test}
use Rattle.values.specs.declared.shapes.Test.TheVariants.{Fails, Passes, Each}
use Rattle.values.specs.Typed.{type_step, whether, test_of, each, by_test, has_type}
use Rattle.words.proofs.Loops.{turn, none_left_lem}
use Rattle.values.proofs.Members.{rest_at}

-- a test asks for as many values as the value's count says
abbrev pub Counted : Test → ℕ → Type 0
Counted Fails m = Unit {0}
Counted Passes m = Unit {0}
Counted (Each own start n) m = n ≡ m

by_test_lem : (b : Bool) (x y : Test) (m : ℕ) → Counted x m → Counted y m → Counted (cond b x y) m
by_test_lem true x y m f g = f
by_test_lem false x y m f g = g

whether_counted : (b : Bool) (m : ℕ) → Counted (whether b) m
unfolding whether
whether_counted true m = tt
whether_counted false m = tt

pub test_counted : (t w : List ℕ) → Counted (test_of t w) (get_or w 1 0)
unfolding test_of
test_counted t w =
    let a = get_or t 0 0 in
    let same = eqb (get_or t 1 0) (get_or w 1 0) in
    by_test_lem (eqb a (get_or w 0 0)) _ Fails _
    (by_test_lem (eqb a 1) Passes _ _ tt
    (by_test_lem (eqb a 2) (whether same) _ _ (whether_counted same (get_or w 1 0))
    (by_test_lem (eqb a 3) (Each false 1 (get_or w 1 0)) _ _ refl
    (by_test_lem (eqb a 4) _ Fails _ (by_test_lem same (Each true 2 (get_or w 1 0)) Fails _ refl tt) tt))))
    tt

pub typed_none : (d : ℕ) (t w : List ℕ) → d ≡ 0 → false ≡ has_type d t w
unfolding has_type
typed_none d t w e = rw e

pub typed_level : (d : ℕ) (t w : List ℕ) → (d ≡ 0 → ⊥) → (q : Test) → q ≡ test_of t w → has_type d t w ≡ by_test (has_type (d - 1)) q t w
unfolding has_type
typed_level zero t w h q e = absurd (h refl)
typed_level (suc d) t w h q e = let f : d ≡ suc d - 1 = omega arith in rw (e, ← f)

-- n values, i of them passed, the next at the place `at` of w, its type at the place `here` of t
module _ (f : List ℕ → List ℕ → Bool) (own : Bool) (t w : List ℕ) (n i here at : ℕ) where
  pub each_stop : i < n → f (drop here t) (drop at w) ≡ false → false ≡ each f own (n - i) (drop here t) (drop at w)
  unfolding each
  each_stop h e = rw (turn n i h, each, e)

  pub each_go : i < n → f (drop here t) (drop at w) ≡ true → (j k : ℕ) → j ≡ type_step own (drop here t) → k ≡ span (drop at w) →
      each f own (n - i) (drop here t) (drop at w) ≡ each f own (n - (i + 1)) (drop (here + j) t) (drop (at + k) w)
  unfolding each
  each_go h e j k p q = rw (turn n i h, each, e) (rw (rest_at w at, ← p, ← q, drop-drop j here t))

  pub each_done : n ≤ i → true ≡ each f own (n - i) (drop here t) (drop at w)
  unfolding each
  each_done h = rw (none_left_lem n i h)
