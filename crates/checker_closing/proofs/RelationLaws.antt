-- A relation's end, from what the called functions tell.
use mathlib.Core.Path.{◌≡◌, subst}
use mathlib.Core.Bool.{Bool, true}
use mathlib.Core.List.{List}
use Prim.Native.Nat.{ℕ, ◌-◌}
use lib.ListN.{length, replicate}
use lib.Seq.{sets}
use Rattle.checker_pieces.specs.Closed.{Closed}
use Rattle.checker_kinds.specs.Equations.{Related}
use Rattle.checker_closing.specs.Leaves.{relation_items}
use Rattle.checker_closing.specs.Nodes.{VerdictAt}
use Rattle.checker_closing.specs.Relations.{EndTold, one, RuleTold, fits}
use Rattle.checker_closing.specs.declared.results.Verdict.{Verdict}

module _ {s s₁ d : List ℕ} {n at end k : ℕ} {b : Bool} (Z : Closed s s₁ d n b) {r : Verdict} where
  pub end_one : b ≡ true → {s₂ : List ℕ} → length s₁ ≡ length s → s₂ ≡ sets s₁ at (replicate (end - at) 0) → VerdictAt r 0 k → EndTold s s₂ d n at end k r
  end_one y z wiped F = one s₁ (subst (Closed s s₁ d n) y Z) z wiped F

module _ (q : ℕ) {s s₁ d : List ℕ} {x y n top number n' : ℕ} (R : Related s s₁ d n top x y number n' (relation_items q)) (fine : number ≡ 0) where
  R₁ : Related s s₁ d n top x y 0 n' (relation_items q)
  R₁ = subst (λ z. Related s s₁ d n top x y z n' (relation_items q)) fine R

  pub rule_fits : {at k end : ℕ} {s₂ : List ℕ} {r : Verdict} → length s₁ ≡ length s → EndTold s₁ s₂ d n' at end k r → RuleTold s s₂ d at k q x y n top end r
  rule_fits z T = fits s₁ n' R₁ z T
