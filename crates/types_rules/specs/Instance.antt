-- A recorded type with terms for its parameters, counted from 1 (a generic Ref's unknowns or actuals; document 01, typing rules).
use Rattle.std.specs.Prelude.{ℕ, zero, suc}
use Rattle.std.proofs.Math.Option.{Option, some, none}
use Rattle.types_rules.specs.Former.{Former, int, given, parameter, power, product, binding}
use Rattle.types_rules.specs.Types.{Ty, Tys, node, tnil, tcons, Term, Terms, con, nil, cons}

unfoldable pub nth : Terms → ℕ → Option Term
nth nil i = none
nth (cons t ts) zero = none
nth (cons t ts) (suc zero) = some t
nth (cons t ts) (suc (suc i)) = nth ts (suc i)

unfoldable pub actual : Option Term → ℕ → Terms → Term
actual (some t) i ts = t
actual none i ts = con (parameter i) ts

unfoldable pub instance_former : Former → Terms → Terms → Term
instance_former int row ts = con int ts
instance_former (given g) row ts = con (given g) ts
instance_former (parameter i) row ts = actual (nth row i) i ts
instance_former power row ts = con power ts
instance_former product row ts = con product ts
instance_former (binding l) row ts = con (binding l) ts

-- With no row the type stays as it is.
unfoldable mutual
  pub instance : Terms → Ty → Term
  instance row (node h gs) = instance_former h row (instances row gs)

  pub instances : Terms → Tys → Terms
  instances row tnil = nil
  instances row (tcons g gs) = cons (instance row g) (instances row gs)
