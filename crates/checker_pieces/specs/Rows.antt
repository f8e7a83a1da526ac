-- Operands one after another: each is a power of an unknown of its own (operands of a Product, actuals of a Ref), or has the type of one unknown (members of a
-- Set). Rows of new cells.
use Rattle.std.specs.Prelude.{◌≡◌, List, ℕ, suc, ◌+◌, ◌≤◌, ◌<◌}
use Rattle.reader_rules.specs.Tree.{Exprs}
use Rattle.types_rules.specs.Equations.{InP, Pairs}
use Rattle.types_rules.specs.Types.{Term}
use Rattle.checker_rules.specs.Conditions.{types_of, are_powers, are_members, fresh_row}
use Rattle.checker_rules.specs.Unknowns.{slot, unknown_at, power_of}
use Rattle.types_cells.specs.Layout.{max_pending, max_cells}
use Rattle.types_cells.specs.Store.{frozen, load, Solved}
use Rattle.types_cells.specs.Calls.{Above}
use Rattle.types_cells.specs.Settled.{lower}
use Rattle.types_solver.specs.Growth.{Builds}
use Rattle.checker_pieces.specs.Piece.{Stops}
use Rattle.checker_pieces.specs.Stage.{Ghost, Stands, Room, Cell, Unvisited, Advanced, Uses}
use Rattle.checker_pieces.specs.Building.{Cells}

-- A new row of p unknowns may be made: cells n, n + 1, ..
pub record RowAsked (s : List ℕ) (n p : ℕ) : Type 0 where
  pub P₀ : Pairs ℕ
  pub L : Pairs ℕ
  pub solved : Solved s n P₀ L
  pub room : n + p ≤ max_cells
  pub fit : load (frozen s) n + p < max_pending

-- Unknowns 1 to p of node k.
abbrev pub Among : ℕ → ℕ → ℕ → Type 0
Among k p x = (j : ℕ) × (1 ≤ j) × (j ≤ p) × (x ≡ slot k j)

-- Unknown i + 1 of node k is cell n + i.
pub record RowOf (s s' d : List ℕ) (n top n' p k : ℕ) (G : Ghost) : Type 0 where
  pub advanced : Advanced s s' d n top n' top G (fresh_row k 1 p) (Among k p)
  pub placed : (i : ℕ) → i < p → InP (slot k (suc i)) (n + i) advanced.cells

pub record RowMade (s s' : List ℕ) (n p : ℕ) : Type 0 where
  pub low : lower s' ≡ lower s
  pub solved : (P₀ L : Pairs ℕ) → Solved s n P₀ L → Solved s' (n + p) P₀ L
  pub fit : load (frozen s') (n + p) ≡ load (frozen s) n + p
  pub row : (d : List ℕ) (top k : ℕ) (G : Ghost) → Stands s d n top G → Unvisited k G → p < 8 → RowOf s s' d n top (n + p) p k G

-- The powers of the m cells from `first` on may be made: cells n, n + 1, ..
pub record PowersAsked (s : List ℕ) (n top first m : ℕ) : Type 0 where
  pub P₀ : Pairs ℕ
  pub L : Pairs ℕ
  pub solved : Solved s n P₀ L
  pub above : Above (frozen s) n top
  pub room : Room s n top m
  pub made : first + m ≤ n

-- Cell n + i denotes the power of what cell first + i denotes.
pub record PowersMade (s s' : List ℕ) (n top first m n' top' : ℕ) : Type 0 where
  pub builds : (d : List ℕ) → Builds s s' d n n'
  pub above : Above (frozen s') n' top'
  pub uses : Uses s s' n top n' top' m
  pub powers : (d : List ℕ) (G : Ghost) → Stands s d n top G → (u : ℕ → Term) → ((i : ℕ) → i < m → Cell s d n G (first + i) (u i)) →
      (i : ℕ) → i < m → Cell s' d n' G (n + i) (power_of (u i))

-- MEMBERS: the cells l have the type of cell y, which is that of unknown 1 of a node.
pub record Members (s s' d : List ℕ) (n y : ℕ) (l : List ℕ) (number : ℕ) : Type 0 where
  pub low : lower s' ≡ lower s
  pub still : frozen s' ≡ frozen s
  pub goes : number ≡ 0 → (top : ℕ) (G : Ghost) → Stands s d n top G → (k : ℕ) → Cell s d n G y (unknown_at k 1) → (xs : Exprs) → Cells s d n G l (types_of xs) →
      Advanced s s' d n top n top G (are_members k xs) (λ x. ⊥)
  pub stops : (number ≡ 0 → ⊥) → (top : ℕ) (G : Ghost) → Stands s d n top G → (k : ℕ) → Cell s d n G y (unknown_at k 1) → (xs : Exprs) → Cells s d n G l (types_of xs) →
      Stops G.before G.items (are_members k xs) number k

-- POWERS: a piece stands, and the m cells l have the types of expressions.
pub record Powering (s d : List ℕ) (n top : ℕ) (l : List ℕ) (m : ℕ) : Type 0 where
  pub ghost : Ghost
  pub stands : Stands s d n top ghost
  pub exprs : Exprs
  pub cells : Cells s d n ghost l (types_of exprs)
  pub few : m < 8
  pub room : Room s n top (m + m)

-- They are powers of the unknowns 1 to m of node k, the cells n, n + 1, ..
pub record PowersOf (s s' d : List ℕ) (n top n' top' : ℕ) (G : Ghost) (k m : ℕ) (xs : Exprs) : Type 0 where
  pub advanced : Advanced s s' d n top n' top' G (are_powers k xs 1) (Among k m)
  pub placed : (i : ℕ) → i < m → InP (slot k (suc i)) (n + i) advanced.cells

pub record Powers (s s' d : List ℕ) (n top : ℕ) (l : List ℕ) (m number : ℕ) : Type 0 where
  pub low : lower s' ≡ lower s
  pub uses : Uses s s' n top (n + m + m) (top + m) (m + m)
  pub goes : number ≡ 0 → (G : Ghost) → Stands s d n top G → (k : ℕ) → Unvisited k G → (xs : Exprs) → Cells s d n G l (types_of xs) →
      PowersOf s s' d n top (n + m + m) (top + m) G k m xs
  pub stops : (number ≡ 0 → ⊥) → (G : Ghost) → Stands s d n top G → (k : ℕ) → Unvisited k G → (xs : Exprs) → Cells s d n G l (types_of xs) →
      Stops G.before G.items (are_powers k xs 1) number k
