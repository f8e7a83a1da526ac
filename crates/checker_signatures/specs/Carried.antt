-- Rows stand for a signature, and a stack of rows for a scope: the same identifiers in the same order, and R between term and place.
use Rattle.std.specs.Prelude.{◌≡◌, List, [], ◌∷◌, ℕ}
use Rattle.types_rules.specs.Types.{Term}
use Rattle.checker_rules.specs.Dictionary.{Dictionary}
use Rattle.checker_rules.specs.Signatures.{Signature, no_names, naming}
use Rattle.checker_rules.specs.Scopes.{Scope, globals, local}

unfoldable pub Carries : (Term → ℕ → Type 0) → Signature → List (ℕ × ℕ) → Type 0
Carries R no_names [] = Unit {0}
Carries R no_names (r ∷ rs) = ⊥
Carries R (naming i t s) [] = ⊥
Carries R (naming i t s) (r ∷ rs) = (i ≡ r.0) × R t r.1 × Carries R s rs

-- the newest row first; D are the earlier paragraphs
unfoldable pub Stacked : (Term → ℕ → Type 0) → Scope → List (ℕ × ℕ) → Dictionary → Type 0
Stacked R (globals E) [] D = E ≡ D
Stacked R (globals E) (r ∷ rs) D = ⊥
Stacked R (local i t Γ) [] D = ⊥
Stacked R (local i t Γ) (r ∷ rs) D = (i ≡ r.0) × R t r.1 × Stacked R Γ rs D
