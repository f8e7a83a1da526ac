-- THE BINDING OF A SIGNATURE whose m rows stand at `base` in the words w: a settled cell for each place, then a binding over them.
use Rattle.std.specs.Prelude.{◌≡◌, List, ℕ, suc, ◌+◌, ◌*◌, ◌≤◌, ◌<◌, length, get_or}
use Rattle.types_rules.specs.Types.{Ty}
use Rattle.checker_rules.specs.Conditions.{typed}
use Rattle.checker_rules.specs.Unknowns.{slot, power_of}
use Rattle.checker_rules.specs.Signatures.{Signature, binding_of}
use Rattle.types_rules.specs.Equations.{Pairs}
use Rattle.types_cells.specs.Layout.{frozen_size}
use Rattle.types_cells.specs.Store.{frozen, load, Solved}
use Rattle.types_cells.specs.Calls.{Above}
use Rattle.types_solver.specs.Growth.{Builds}
use Rattle.types_cells.specs.Settled.{lower, heap, Reads, Readable, Obeys}
use Rattle.checker_signatures.specs.Rows.{rows}
use Rattle.checker_signatures.specs.Carried.{Carries}
use Rattle.checker_pieces.specs.Stage.{Ghost, Stands, Cell, Room, Uses, Unvisited, SlotOf}
use Rattle.checker_pieces.specs.Building.{Introduced}
use Rattle.checker_lookup.specs.Scoped.{SettledAt}
use Rattle.checker_lookup.specs.Enlarged.{Enlarged}

-- the place in row j
abbrev pub place_at : List ℕ → ℕ → ℕ → ℕ
place_at w base j = get_or w (base + 2 * j + 1) 0

-- The places of m rows may enter as cells n, n + 1, ..
pub record Places (s d w : List ℕ) (base m n : ℕ) : Type 0 where
  pub top : ℕ
  pub ghost : Ghost
  pub stands : Stands s d n top ghost
  pub room : Room s n top m
  pub table : base + 2 * m ≤ length w
  pub readable : (j : ℕ) → j < m → Readable (heap s d) (place_at w base j)

-- Cell n + j has the type at the place of row j.
pub record PlacesSettled (s s' d w : List ℕ) (base m n : ℕ) : Type 0 where
  pub enlarged : (top : ℕ) → Enlarged s s' d n top (n + m) top m
  pub fit : load (frozen s') (n + m) ≡ load (frozen s) n + m
  pub types : (j : ℕ) → j < m → (g : Ty) → Reads (heap s d) (place_at w base j) g → (σ : ℕ → Ty) → Obeys s' d (n + m) σ → σ (n + j) ≡ g

-- Row number j of m in the runs: the cell c in the run at `top`, the identifier in the run after it.
pub record RowPut (s s' : List ℕ) (n top m j c id : ℕ) : Type 0 where
  pub builds : (d : List ℕ) → Builds s s' d n n
  pub above : Above (frozen s') n top
  pub fit : load (frozen s') n ≡ load (frozen s) n
  pub part : get_or (frozen s') (top + j) 0 ≡ c
  pub name : get_or (frozen s') (top + m + j) 0 ≡ id
  pub others : (q : ℕ) → (q ≡ top + j → ⊥) → (q ≡ top + m + j → ⊥) → get_or (frozen s') q 0 ≡ get_or (frozen s) q 0

-- The cells `first`, `first` + 1, .. may stand as parts in the run at `top`, and the rows' identifiers in the run after it.
pub record PuttingRows (s w : List ℕ) (base m first n top : ℕ) : Type 0 where
  pub P₀ : Pairs ℕ
  pub L : Pairs ℕ
  pub solved : Solved s n P₀ L
  pub above : Above (frozen s) n top
  pub table : base + 2 * m ≤ length w
  pub made : first + m ≤ n
  pub room : top + m + m ≤ frozen_size

-- The first j of them do.
pub record RowsPut (s s' w : List ℕ) (base m first n top j : ℕ) : Type 0 where
  pub builds : (d : List ℕ) → Builds s s' d n n
  pub above : Above (frozen s') n top
  pub fit : load (frozen s') n ≡ load (frozen s) n
  pub parts : (i : ℕ) → i < j → get_or (frozen s') (top + i) 0 ≡ first + i
  pub names : (i : ℕ) → i < j → get_or (frozen s') (top + m + i) 0 ≡ get_or w (base + 2 * i) 0

-- A signature whose binding may be made.
pub record Binding (s d w : List ℕ) (base m n top : ℕ) : Type 0 where
  pub ghost : Ghost
  pub stands : Stands s d n top ghost
  pub signature : Signature
  pub carried : Carries (SettledAt s d ghost) signature (rows w base m)
  pub table : base + 2 * m ≤ length w
  pub room : Room s n top (suc m)

pub record Bound (s s' d w : List ℕ) (base m n top cell n' top' : ℕ) : Type 0 where
  pub enlarged : Enlarged s s' d n top n' top' (suc m)
  pub denoted : (G : Ghost) → Stands s d n top G → (r : Signature) → Carries (SettledAt s d G) r (rows w base m) → Cell s' d n' G cell (binding_of r)

-- SCHEMASET: a node's type is the power of the binding. There is room for it.
pub record SchemaSetAsked (s d w : List ℕ) (base m n top : ℕ) : Type 0 where
  pub binding : Binding s d w base m n top
  pub room : Room s n top (suc m + 1)

pub record SchemaSetTyped (s s' d w : List ℕ) (base m n top cell n' top' : ℕ) : Type 0 where
  pub low : lower s' ≡ lower s
  pub uses : Uses s s' n top n' top' (suc m + 1)
  pub typed : (G : Ghost) → Stands s d n top G → (r : Signature) → Carries (SettledAt s d G) r (rows w base m) → (k : ℕ) → Unvisited k G →
      Introduced s s' d n top n' top' G (typed k (power_of (binding_of r))) (SlotOf k) (slot k 0) cell
