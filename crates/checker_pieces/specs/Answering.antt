-- Results of rules. P speaks of the number of a finding, 0 for none, and of a value.
use Rattle.std.specs.Prelude.{◌≡◌, ℕ, ◌≤◌, Result, MatchResult}
use Rattle.types_solver.specs.declared.entering.Grown.{Grown}

-- The value, with no finding; or a finding, whatever value stood beside it.
abbrev pub Answers : (A : Type 0) → (ℕ → A → Type 0) → Result A ℕ → Type 0
Answers A P r = MatchResult r (P 0) (λ number. (number ≡ 0 → ⊥) × ((x : A) → P number x))

-- The rule of a node, over n cells: what it grew, with no finding; or a finding, and P holds of whatever has those cells at least.
pub record Rules (n : ℕ) (P : ℕ → Grown → Type 0) (r : Result Grown ℕ) : Type 0 where
  pub is : MatchResult r (P 0) (λ number. (number ≡ 0 → ⊥) × ((g : Grown) → n ≤ g.cells → P number g))
