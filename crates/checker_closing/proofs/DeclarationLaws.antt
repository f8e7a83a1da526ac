-- The findings of a Decl's identifiers, from what the called functions tell.
use mathlib.Core.Path.{◌≡◌, refl, subst}
use mathlib.Core.Bool.{Bool}
use mathlib.Core.List.{List}
use Prim.Native.Nat.{ℕ}
use Rattle.checker_closing.specs.Nodes.{LinedAt}
use Rattle.checker_closing.specs.Declarations.{OwnTold, EnterTold, TypedTold, refused, fits}
use Rattle.checker_closing.specs.declared.results.Lined.{Lined}

module _ {s d w : List ℕ} {base m : ℕ} {is : List ℕ} {at k : ℕ} {global : Bool} {number size end own : ℕ} (fine : number ≡ 0) (O : OwnTold s d w base m is at size global own) {r : Lined} where
  pub typed_refused : (own ≡ 0 → ⊥) → LinedAt r own k 0 0 → TypedTold s s d w w base m is at k global number size end r
  typed_refused n L = refused own fine O n refl refl L

  pub typed_fits : own ≡ 0 → {s' w' : List ℕ} → EnterTold s s' w w' base m is at end k r → TypedTold s s' d w w' base m is at k global number size end r
  typed_fits e T = fits fine (subst (OwnTold s d w base m is at size global) e O) T
