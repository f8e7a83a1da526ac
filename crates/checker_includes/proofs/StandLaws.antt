-- Types that stand for others, filled in: a component that mentions one over size 32 is over size 32 itself, and any other is the same with both.
use mathlib.Core.Path.{◌≡◌, refl, sym, ap, ap₂}
use mathlib.Core.Logic.{inl, inr, ⊎_elim}
use Prim.Native.Nat.{ℕ, zero, suc, ◌≤◌, ◌<◌}
use native.Mathlib.Omega.{arith}
use Rattle.types_rules.specs.Former.{Former, int, given, parameter, power, product, binding}
use Rattle.types_rules.specs.Types.{Ty, Tys, node, tnil, tcons, size, sizes}
use Rattle.types_cells.proofs.Growing.{lt_or_ge}
use Rattle.types_instances.specs.Fill.{nth_type, actual_type, fill_former, fill, fills}
use Rattle.checker_includes.specs.Components.{AllStandFor}

pub stands_back : (hs gs : Tys) → AllStandFor hs gs → AllStandFor gs hs
unfolding AllStandFor
stands_back tnil tnil A = tt
stands_back tnil (tcons g gs) A = absurd A
stands_back (tcons h hs) tnil A = absurd A
stands_back (tcons h hs) (tcons g gs) A = (⊎_elim (λ e. inl (sym e)) (λ b. inr (b.1, b.0)) A.0, stands_back hs gs A.1)

-- Parts that are the same where they are small.
node_alike : (h : Former) (xs ys : Tys) → (sizes xs ≤ 31 → xs ≡ ys) → size (node h xs) ≤ 32 → node h xs ≡ node h ys
unfolding size
node_alike h xs ys e l = ap (node h) (e (omega arith))

nth_alike : (hs gs : Tys) → AllStandFor hs gs → (i k : ℕ) (xs ys : Tys) → (sizes xs ≤ 31 → xs ≡ ys) → size (actual_type (nth_type hs i) k xs) ≤ 32 → actual_type (nth_type hs i) k xs ≡ actual_type (nth_type gs i) k ys
unfolding AllStandFor nth_type actual_type
nth_alike tnil tnil A i k xs ys e l = node_alike (parameter k) xs ys e l
nth_alike tnil (tcons g gs) A i k xs ys e l = absurd A
nth_alike (tcons h hs) tnil A i k xs ys e l = absurd A
nth_alike (tcons h hs) (tcons g gs) A zero k xs ys e l = node_alike (parameter k) xs ys e l
nth_alike (tcons h hs) (tcons g gs) A (suc zero) k xs ys e l = ⊎_elim (λ q. q) (λ b. let z = b.0 in absurd (omega arith)) A.0
nth_alike (tcons h hs) (tcons g gs) A (suc (suc i)) k xs ys e l = nth_alike hs gs A.1 (suc i) k xs ys e l

former_alike : (hs gs : Tys) → AllStandFor hs gs → (h : Former) (xs ys : Tys) → (sizes xs ≤ 31 → xs ≡ ys) → size (fill_former h hs xs) ≤ 32 → fill_former h hs xs ≡ fill_former h gs ys
unfolding fill_former
former_alike hs gs A int xs ys e l = node_alike int xs ys e l
former_alike hs gs A (given g) xs ys e l = node_alike (given g) xs ys e l
former_alike hs gs A (parameter i) xs ys e l = nth_alike hs gs A i i xs ys e l
former_alike hs gs A power xs ys e l = node_alike power xs ys e l
former_alike hs gs A product xs ys e l = node_alike product xs ys e l
former_alike hs gs A (binding m) xs ys e l = node_alike (binding m) xs ys e l

module _ (hs gs : Tys) (A : AllStandFor hs gs) where
  mutual
    unfolding fill size

    pub fill_alike : (c : Ty) → size (fill hs c) ≤ 32 → fill hs c ≡ fill gs c
    fill_alike (node h cs) l = former_alike hs gs A h (fills hs cs) (fills gs cs) (λ m. fills_alike cs m) l

    fills_alike : (cs : Tys) → sizes (fills hs cs) ≤ 31 → fills hs cs ≡ fills gs cs
    fills_alike tnil l = refl
    fills_alike (tcons c cs) l = ap₂ tcons (fill_alike c (omega arith)) (fills_alike cs (omega arith))

pub over_alike : (hs gs : Tys) → AllStandFor hs gs → (c : Ty) → 32 < size (fill hs c) → 32 < size (fill gs c)
over_alike hs gs A c l = ⊎_elim (λ q. q) (λ q. let e = ap size (fill_alike gs hs (stands_back hs gs A) c q) in absurd (omega arith)) (lt_or_ge 32 (size (fill gs c)))
