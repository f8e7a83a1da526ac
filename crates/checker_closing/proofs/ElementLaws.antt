-- The type of a set's elements, from what the called functions tell.
use mathlib.Core.Path.{◌≡◌, subst}
use mathlib.Core.Bool.{Bool, true}
use mathlib.Core.List.{List}
use Prim.Native.Nat.{ℕ, ◌+◌}
use Rattle.checker_pieces.specs.Building.{Powered}
use Rattle.checker_pieces.specs.Closed.{Closed}
use Rattle.std.specs.Prelude.{Result, Ok, Err}
use Rattle.checker_pieces.specs.Answering.{Answers}
use Rattle.checker_closing.specs.declared.elements.Element.{Element}
use Rattle.checker_closing.specs.Elements.{TypeKept, ClosedTold, one, ElementTold, power}

module _ {s s₁ d w : List ℕ} {n c at free : ℕ} {b : Bool} (Z : Closed s s₁ d n b) where
  pub closed_one : b ≡ true → {s₂ w₂ : List ℕ} {number size end : ℕ} → TypeKept s₁ s₂ d w w₂ n c at free number size end → ClosedTold s s₂ d w w₂ n c at free number size end
  closed_one y K = one s₁ (subst (Closed s s₁ d n) y Z) K

-- The result of closing it.
module _ {s s₁ d : List ℕ} {n top c found : ℕ} (P : Powered s s₁ d n top c found) (y : found ≡ 0) (w s₂ w₂ : List ℕ) (at free : ℕ) where
  pub element_closed : (r : Result Element ℕ) → Answers Element (λ number e. ClosedTold s₁ s₂ d w w₂ (n + 2) n at free number e.size e.end) r →
      Answers Element (λ number e. ElementTold s s₂ d w w₂ n top c at free number e.size e.end) r
  element_closed (Ok e) h = power s₁ (subst (Powered s s₁ d n top c) y P) h
  element_closed (Err number) h = (h.0, λ e. power s₁ (subst (Powered s s₁ d n top c) y P) (h.1 e))
