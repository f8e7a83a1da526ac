-- Expressions inside a piece: what visiting one asks and promises. Ghost values are those of any reading: a function asks that there is one, and
-- promises for each.
use Rattle.std.specs.Prelude.{◌≡◌, List, ℕ, ◌+◌, ◌*◌, ◌≤◌, ◌<◌, ◌^◌, length}
use Rattle.reader_rules.specs.Limited.{LimitedExpr, LimitedExprs}
use Rattle.reader_rules.specs.Tree.{Expr, Exprs, expr_node, exprs_length}
use Rattle.reader_rules.specs.TreeNumbers.{expr_numbers, exprs_numbers}
use Rattle.types_rules.specs.Equations.{Pairs}
use Rattle.checker_rules.specs.Conditions.{types_of}
use Rattle.checker_rules.specs.Dictionary.{Dictionary}
use Rattle.checker_rules.specs.Items.{Items, ◌⨾◌}
use Rattle.checker_rules.specs.Rules.{expr_items, exprs_items}
use Rattle.checker_rules.specs.Scopes.{Scope}
use Rattle.checker_rules.specs.Unknowns.{slot}
use Rattle.types_cells.specs.Layout.{area_size}
use Rattle.types_cells.specs.Store.{run}
use Rattle.types_instances.specs.Clean.{Clean}
use Rattle.checker_pieces.specs.Piece.{Stops}
use Rattle.checker_pieces.specs.Stage.{Ghost, Stands, Uses, Advanced, node_cells}
use Rattle.checker_pieces.specs.Building.{Cells, Introduced}
use Rattle.checker_lookup.specs.Scoped.{Scoped}
use Rattle.checker_includes.specs.Storing.{Stored}
use Rattle.checker_contracts.specs.Visits.{Owned, Fresh, EachOnce, Spared}
use Rattle.checker_contracts.specs.Room.{Inside, node_type_words}

-- What holds at any expression of a piece, or at a list of them, whose nodes are l. The store has n cells and its runs end at `top`; the pool is clean
-- from `at` on, and the work area free from `free` on.
pub record Visiting (s d w : List ℕ) (rows n top at free h : ℕ) (l : List ℕ) : Type 0 where
  pub ghost : Ghost
  pub stands : Stands s d n top ghost
  pub scope : Scope
  pub dictionary : Dictionary
  pub scoped : Scoped s d w rows ghost scope dictionary
  pub fresh : Fresh l ghost.mentioned
  pub once : EachOnce l
  pub size : length s ≡ area_size
  pub clean : Clean s at
  pub room : Inside s w rows n top at free h (length l)

pub record ExprAsk (s d w : List ℕ) (rows n top at free : ℕ) (e : Expr) : Type 0 where
  pub height : ℕ
  pub texts : ℕ
  pub limited : LimitedExpr height texts e
  pub visiting : Visiting s d w rows n top at free height (expr_numbers e)

-- What visiting the nodes l leaves of the areas, where there is no finding.
pub record Visited (s s' : List ℕ) (n top n' top' at at' : ℕ) (l : List ℕ) : Type 0 where
  pub stored : Stored s s' at at'
  pub short : at' ≤ at + node_type_words * length l
  pub uses : Uses s s' n top n' top' (node_cells * length l)

-- Number 0: the items of the expression pass, and the cell has its type; otherwise they stop with this number at the place.
pub record ExprDone (s s' d w w' : List ℕ) (rows n top at free : ℕ) (e : Expr) (number place cell n' top' at' : ℕ) : Type 0 where
  pub spared : Spared w w' rows free
  pub areas : number ≡ 0 → Visited s s' n top n' top' at at' (expr_numbers e)
  pub goes : number ≡ 0 → (G : Ghost) → Stands s d n top G → (Γ : Scope) (D : Dictionary) → Scoped s d w rows G Γ D → Fresh (expr_numbers e) G.mentioned →
      Introduced s s' d n top n' top' G (expr_items e Γ) (Owned (expr_numbers e)) (slot (expr_node e) 0) cell
  pub stops : (number ≡ 0 → ⊥) → (G : Ghost) → Stands s d n top G → (Γ : Scope) (D : Dictionary) → Scoped s d w rows G Γ D → Fresh (expr_numbers e) G.mentioned →
      Stops G.before G.items (expr_items e Γ) number place

-- The ghost values after the items `own`.
abbrev pub ghost_after : Ghost → Items → Pairs ℕ → List ℕ → Pairs ℕ → Ghost
ghost_after G own P U ρ = record { equations = P; before = G.before; items = G.items ⨾ own; known = G.known; mentioned = U; cells = ρ }

-- OPERANDS one after another: their cells stand in the words `parts` from j on.
pub record ExprsAsk (s d w : List ℕ) (rows n top at free : ℕ) (xs : Exprs) (parts : List ℕ) (j : ℕ) : Type 0 where
  pub height : ℕ
  pub texts : ℕ
  pub limited : LimitedExprs height texts xs
  pub visiting : Visiting s d w rows n top at free height (exprs_numbers xs)
  pub wide : j + exprs_length xs ≤ length parts

pub record Gathered (s s' d : List ℕ) (n top n' top' : ℕ) (G : Ghost) (own : Items) (l cells : List ℕ) (xs : Exprs) : Type 0 where
  pub advanced : Advanced s s' d n top n' top' G own (Owned l)
  pub operands : Cells s' d n' (ghost_after G own advanced.equations advanced.mentioned advanced.cells) cells (types_of xs)

pub record ExprsDone (s s' d w w' : List ℕ) (rows n top at free : ℕ) (xs : Exprs) (parts parts' : List ℕ) (j number place n' top' at' : ℕ) : Type 0 where
  pub spared : Spared w w' rows free
  pub size : length parts' ≡ length parts
  pub earlier : run parts' 0 j ≡ run parts 0 j
  pub areas : number ≡ 0 → Visited s s' n top n' top' at at' (exprs_numbers xs)
  pub goes : number ≡ 0 → (G : Ghost) → Stands s d n top G → (Γ : Scope) (D : Dictionary) → Scoped s d w rows G Γ D → Fresh (exprs_numbers xs) G.mentioned →
      Gathered s s' d n top n' top' G (exprs_items xs Γ) (exprs_numbers xs) (run parts' j (exprs_length xs)) xs
  pub stops : (number ≡ 0 → ⊥) → (G : Ghost) → Stands s d n top G → (Γ : Scope) (D : Dictionary) → Scoped s d w rows G Γ D → Fresh (exprs_numbers xs) G.mentioned →
      Stops G.before G.items (exprs_items xs Γ) number place
