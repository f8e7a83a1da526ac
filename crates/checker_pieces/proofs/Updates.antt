-- A valuation, or an assignment to cells, with one value changed.
use mathlib.Core.Path.{◌≡◌, refl, ap}
use mathlib.Core.Bool.{Bool, true, false}
use Prim.Native.Nat.{ℕ}
use lib.Dec.{eqb}
use borrow.Author.Tests.{eqb-true, eq-eqb}
use Rattle.types_rules.specs.Types.{Ty}

abbrev pub choose : Bool → Ty → Ty → Ty
choose true g h = g
choose false g h = h

pub put : ℕ → Ty → (ℕ → Ty) → ℕ → Ty
put x g f y = choose (eqb y x) g (f y)

pub put_hit : (x : ℕ) (g : Ty) (f : ℕ → Ty) → put x g f x ≡ g
unfolding put
put_hit x g f = ap (λ b. choose b g (f x)) (eq-eqb x x refl)

pub put_miss : (x : ℕ) (g : Ty) (f : ℕ → Ty) (y : ℕ) → (y ≡ x → ⊥) → put x g f y ≡ f y
unfolding put
put_miss x g f y d = go (eqb y x) refl
  where
    go : (b : Bool) → eqb y x ≡ b → choose b g (f y) ≡ f y
    go true e = absurd (d (eqb-true y x e))
    go false e = refl
