-- Parts of what an expression asks, one after another: operands, the Text of a Comprehension, the rule of the node itself. A part has items and nodes of
-- its own, and leaves what later parts use: cells of the piece, rows of the scope.
use Rattle.std.specs.Prelude.{◌≡◌, List, ℕ}
use Rattle.checker_rules.specs.Dictionary.{Dictionary}
use Rattle.checker_rules.specs.Items.{Items}
use Rattle.checker_rules.specs.Scopes.{Scope}
use Rattle.checker_pieces.specs.Piece.{Stops}
use Rattle.checker_pieces.specs.Stage.{Ghost, Stands, Advanced}
use Rattle.checker_pieces.specs.Building.{Introduced}
use Rattle.checker_lookup.specs.Scoped.{Scoped}
use Rattle.checker_includes.specs.Storing.{Stored}
use Rattle.checker_contracts.specs.Visits.{Owned, Fresh, Spared}
use Rattle.checker_contracts.specs.Expressions.{Visited, ghost_after}

-- What may hold of a piece that stands, in a scope over a dictionary.
abbrev pub Fact : Type 1
Fact = Scope → Dictionary → Ghost → Type 0

abbrev pub nothing : Fact
nothing Γ D G = Unit {0}

-- The items pass, and what held then gives what holds now.
pub record Passing (s s' d : List ℕ) (n top n' top' : ℕ) (G : Ghost) (own : Items) (l : List ℕ) (after : Ghost → Type 0) : Type 0 where
  pub advanced : Advanced s s' d n top n' top' G own (Owned l)
  pub holds : after (ghost_after G own advanced.equations advanced.mentioned advanced.cells)

-- A PART THAT PASSES, ..
pub record Step (s s' d w w' : List ℕ) (rows n top n' top' at at' free : ℕ) (items : Scope → Items) (l : List ℕ) (before after : Fact) : Type 0 where
  pub spared : Spared w w' rows free
  pub stored : Stored s s' at at'
  pub goes : (G : Ghost) → Stands s d n top G → (Γ : Scope) (D : Dictionary) → Scoped s d w rows G Γ D → Fresh l G.mentioned → before Γ D G →
      Passing s s' d n top n' top' G (items Γ) l (after Γ D)

-- .. in the room of its nodes.
pub record Part (s s' d w w' : List ℕ) (rows n top n' top' at at' free : ℕ) (items : Scope → Items) (l : List ℕ) (before after : Fact) : Type 0 where
  pub step : Step s s' d w w' rows n top n' top' at at' free items l before after
  pub areas : Visited s s' n top n' top' at at' l

-- THE LAST PART, which gives the unknown x its cell; or a part that stops.
pub record Ending (s s' d w w' : List ℕ) (rows n top at free : ℕ) (items : Scope → Items) (l : List ℕ) (before : Fact) (x number place cell n' top' at' : ℕ) : Type 0 where
  pub spared : Spared w w' rows free
  pub areas : number ≡ 0 → Visited s s' n top n' top' at at' l
  pub goes : number ≡ 0 → (G : Ghost) → Stands s d n top G → (Γ : Scope) (D : Dictionary) → Scoped s d w rows G Γ D → Fresh l G.mentioned → before Γ D G →
      Introduced s s' d n top n' top' G (items Γ) (Owned l) x cell
  pub stops : (number ≡ 0 → ⊥) → (G : Ghost) → Stands s d n top G → (Γ : Scope) (D : Dictionary) → Scoped s d w rows G Γ D → Fresh l G.mentioned → before Γ D G →
      Stops G.before G.items (items Γ) number place
