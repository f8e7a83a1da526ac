-- WHAT A FUNCTION OVER A PART OF THE TREE PROMISES, between pieces. In any case `kept` holds of the areas. Number 0: `left` holds of them too, and after any
-- items H with the unknowns U, in any scope that the areas hold, the items of the part pass, with what `went` says; otherwise they refuse with this number at
-- the place. `given` is what else is known of H and U; X is what the items depend on besides scope and dictionary (the signature of the lines before).
use Rattle.std.specs.Prelude.{◌≡◌, List, ℕ, ◌+◌, ◌*◌, ◌≤◌}
use Rattle.checker_rules.specs.Dictionary.{Dictionary}
use Rattle.checker_rules.specs.Items.{Items, Refuses, MeetsIn}
use Rattle.checker_rules.specs.Scopes.{Scope}
use Rattle.checker_pieces.specs.Piece.{Steady}
use Rattle.checker_lookup.specs.Scoped.{Scoped}
use Rattle.checker_includes.specs.Storing.{Stored}
use Rattle.checker_contracts.specs.Visits.{idle}
use Rattle.types_cells.specs.Layout.{type_words}

pub record Done (s d w : List ℕ) (stack : ℕ) (kept left X : Type 0) (given : X → Items → List ℕ → Type 0) (items : X → Scope → Dictionary → Items)
    (went : X → Items → List ℕ → Scope → Dictionary → Type 0) (number place : ℕ) : Type 0 where
  pub still : kept
  pub areas : number ≡ 0 → left
  pub goes : number ≡ 0 → (H : Items) (U : List ℕ) → Steady H U → (Γ : Scope) (D : Dictionary) → Scoped s d w stack (idle H U) Γ D → (x : X) → given x H U → went x H U Γ D
  pub stops : (number ≡ 0 → ⊥) → (H : Items) (U : List ℕ) → Steady H U → (Γ : Scope) (D : Dictionary) → Scoped s d w stack (idle H U) Γ D → (x : X) → given x H U →
      Refuses (items x Γ D) (MeetsIn H) number place

-- A signature of m rows, whose types are stored from `at` to at'.
pub record Signed (s s' : List ℕ) (at at' m : ℕ) : Type 0 where
  pub stored : Stored s s' at at'
  pub short : at' ≤ at + type_words * m
  pub few : m ≤ 16
