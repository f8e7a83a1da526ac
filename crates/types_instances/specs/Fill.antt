-- A type with types for its parameters, counted from 1 (document 01, Include: the actuals' element types are put for the parameters; a generic Ref with actuals).
-- A parameter for which there is no type stays.
use Rattle.std.specs.Prelude.{ℕ, zero, suc}
use Rattle.std.proofs.Math.Option.{Option, some, none}
use Rattle.types_rules.specs.Former.{Former, int, given, parameter, power, product, binding}
use Rattle.types_rules.specs.Types.{Ty, Tys, node, tnil, tcons}

unfoldable pub nth_type : Tys → ℕ → Option Ty
nth_type tnil i = none
nth_type (tcons h hs) zero = none
nth_type (tcons h hs) (suc zero) = some h
nth_type (tcons h hs) (suc (suc i)) = nth_type hs (suc i)

unfoldable pub actual_type : Option Ty → ℕ → Tys → Ty
actual_type (some h) i gs = h
actual_type none i gs = node (parameter i) gs

unfoldable pub fill_former : Former → Tys → Tys → Ty
fill_former int hs gs = node int gs
fill_former (given g) hs gs = node (given g) gs
fill_former (parameter i) hs gs = actual_type (nth_type hs i) i gs
fill_former power hs gs = node power gs
fill_former product hs gs = node product gs
fill_former (binding l) hs gs = node (binding l) gs

unfoldable mutual
  pub fill : Tys → Ty → Ty
  fill hs (node h gs) = fill_former h hs (fills hs gs)

  pub fills : Tys → Tys → Tys
  fills hs tnil = tnil
  fills hs (tcons g gs) = tcons (fill hs g) (fills hs gs)
