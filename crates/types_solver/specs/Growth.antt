-- Stores that grow: new cells, and new words in the runs. What the solutions of the old store are to those of the new.
use Rattle.std.specs.Prelude.{◌≡◌, List, map, ℕ, zero, suc, ◌+◌, ◌*◌, ◌≤◌, ◌<◌, ◌^◌, length, get_or}
use Rattle.types_rules.specs.Equations.{In, Pairs}
use Rattle.types_rules.specs.Finite.{from_list}
use Rattle.types_rules.specs.Follows.{unk}
use Rattle.types_rules.specs.Formed.{part_count_type}
use Rattle.types_rules.specs.Instance.{instance, instances}
use Rattle.types_rules.specs.Types.{Ty, Tys, Terms, cons, nil, size, sizes, under, unders, unknown}
use Rattle.types_cells.specs.Layout.{max_cells, max_pending, frozen_size}
use Rattle.types_cells.specs.Store.{frozen, load, run, view, Solved}
use Rattle.types_cells.specs.Calls.{Above, Making, Made}
use Rattle.types_cells.specs.Parts.{Rest}
use Rattle.types_cells.specs.Settled.{lower, heap, Fits, Obeys, Pinned, Reads}

-- σ goes on in the store s of n' cells: the same below n.
pub record Extension (s d : List ℕ) (n n' : ℕ) (σ : ℕ → Ty) : Type 0 where
  pub τ : ℕ → Ty
  pub same : (i : ℕ) → i < n → τ i ≡ σ i
  pub fits : Fits (frozen s) n' τ
  pub obeys : Obeys s d n' τ

-- The store s of n cells has become s' of n' cells: the old cells are kept, what obeys s' obeys s, and what fits and obeys s goes on.
pub record Grows (s s' d : List ℕ) (n n' : ℕ) : Type 0 where
  pub wide : n ≤ n'
  pub low : lower s' ≡ lower s
  pub solved : (P₀ L : Pairs ℕ) → Solved s n P₀ L → Solved s' n' P₀ L
  pub old : (i : ℕ) → i < n → view (frozen s') n' i ≡ view (frozen s) n i
  pub pinned : Pinned s d n → Pinned s' d n'
  pub before : (σ : ℕ → Ty) → Obeys s' d n' σ → Obeys s d n σ
  pub extends : (σ : ℕ → Ty) → Fits (frozen s) n σ → Obeys s d n σ → Extension s' d n n' σ

-- The same where the new cells are formers: no unknown is new, and no settled cell.
pub record Builds (s s' d : List ℕ) (n n' : ℕ) : Type 0 where
  pub grows : Grows s s' d n n'
  pub shaped : (i : ℕ) → n ≤ i → i < n' → view (frozen s') n' i ≡ unk → ⊥
  pub after : (σ : ℕ → Ty) → Obeys s d n σ → Obeys s' d n' σ

-- The unknowns of k cells one after another, as actuals of a type's parameters.
unfoldable pub unknowns : ℕ → ℕ → Terms
unknowns first zero = nil
unknowns first (suc k) = cons (unknown first) (unknowns (suc first) k)

-- The cell of parameter v in this row plus 1, for the tag 6; 0: it is no parameter, or the row has no cell for it.
pub record InRow (t v first k r : ℕ) : Type 0 where
  pub some : (r ≡ 0 → ⊥) → (t ≡ 6) × (1 ≤ v) × (v ≤ k) × (r ≡ first + v)
  pub none : r ≡ 0 → t ≡ 6 → 1 ≤ v → v ≤ k → ⊥

-- The argument of a cell, by its tag: the word after the tag, or the place of the identifiers.
unfoldable pub arg_of : ℕ → ℕ → ℕ → ℕ
arg_of zero v ids = v
arg_of (suc zero) v ids = 0
arg_of (suc (suc zero)) v ids = v
arg_of (suc (suc (suc zero))) v ids = 0
arg_of (suc (suc (suc (suc zero)))) v ids = v
arg_of (suc (suc (suc (suc (suc zero))))) v ids = ids
arg_of (suc (suc (suc (suc (suc (suc t)))))) v ids = v

-- A former over the m cells that stand at `top`, its identifiers after them.
pub record Forming (s : List ℕ) (n top t v m : ℕ) : Type 0 where
  pub making : Making s n t (arg_of t v (top + m)) top m
  pub above : Above (frozen s) n top
  pub word : v < 2 ^ 32
  pub room : top + m + m ≤ frozen_size

pub record Formed (s s' : List ℕ) (n top t v m cell n' top' : ℕ) : Type 0 where
  pub made : Made s s' n t (arg_of t v (top + m)) top m
  pub is : cell ≡ n
  pub next : n' ≡ suc n
  pub above : Above (frozen s') (suc n) top'
  pub few : top' ≤ top + m + m

-- Part number j of m, the cell c, may be written to the run at `top`, and its identifier to the run after that.
pub record Putting (s : List ℕ) (n top m j c : ℕ) : Type 0 where
  pub P₀ : Pairs ℕ
  pub L : Pairs ℕ
  pub solved : Solved s n P₀ L
  pub above : Above (frozen s) n top
  pub made : c < n
  pub within : j < m
  pub room : top + m + m ≤ frozen_size

pub record PutPart (s s' d : List ℕ) (n top m j w at c : ℕ) : Type 0 where
  pub builds : Builds s s' d n n
  pub above : Above (frozen s') n top
  pub fit : load (frozen s') n ≡ load (frozen s) n
  pub part : get_or (frozen s') (top + j) 0 ≡ c
  pub name : w ≡ 1 → get_or (frozen s') (top + m + j) 0 ≡ get_or (heap s d) at 0
  pub others : (q : ℕ) → (q ≡ top + j → ⊥) → (q ≡ top + m + j → ⊥) → get_or (frozen s') q 0 ≡ get_or (frozen s) q 0

-- What entering asks of the store of n cells, whose runs end at `top`: room for x formers, and the k cells of the row.
pub record EnteringRoom (s d : List ℕ) (n top x row k : ℕ) : Type 0 where
  pub P₀ : Pairs ℕ
  pub L : Pairs ℕ
  pub solved : Solved s n P₀ L
  pub above : Above (frozen s) n top
  pub few : length d < 2 ^ 31
  pub row_made : row + k ≤ n
  pub cells : n + x ≤ max_cells
  pub words : top + 2 * x ≤ frozen_size
  pub fit : load (frozen s) n + 2 * x ≤ max_pending

-- The type at p may enter.
pub record Instancing (s d : List ℕ) (n top p row k : ℕ) : Type 0 where
  pub type : Ty
  pub reads : Reads (heap s d) p type
  pub room : EnteringRoom s d n top (size type) row k

-- ENTER: cell `cell` stands for the type g, with the row's cells for its parameters (document 01: a Ref has its name's type, and each parameter of a generic Ref
-- without actuals is an unknown type).
pub record Instance (s s' : List ℕ) (n top row k cell n' top' : ℕ) (g : Ty) : Type 0 where
  pub type : (σ : ℕ → Ty) → Fits (frozen s') n' σ → σ cell ≡ under σ (instance (unknowns row k) g)
  pub cells : n' ≤ n + size g
  pub words : top' + 2 ≤ top + 2 * size g
  pub fit : load (frozen s') n' + 1 ≤ load (frozen s) n + 2 * size g

pub record Instanced (s s' d : List ℕ) (n top p row k cell n' top' : ℕ) : Type 0 where
  pub builds : Builds s s' d n n'
  pub above : Above (frozen s') n' top'
  pub made : cell < n'
  pub is : (g : Ty) → Reads (heap s d) p g → Instance s s' n top row k cell n' top' g

-- The parts at `at`, from number j of m on, may enter.
pub record InstancingParts (s d : List ℕ) (n top at w m j row k : ℕ) : Type 0 where
  pub l : List ℕ
  pub gs : Tys
  pub e : ℕ
  pub rest : Rest (heap s d) w at l gs e
  pub count : part_count_type gs + j ≡ m
  pub room : EnteringRoom s d n top (sizes gs) row k
  pub ahead : top + 2 * sizes gs + 2 * j ≤ frozen_size

-- Their cells stand at top' + j, and their identifiers at top' + m + j.
pub record Instances (s s' : List ℕ) (n top w m j row k n' top' : ℕ) (l : List ℕ) (gs : Tys) : Type 0 where
  pub types : (σ : ℕ → Ty) → Fits (frozen s') n' σ → from_list (map σ (run (frozen s') (top' + j) (part_count_type gs))) ≡ unders σ (instances (unknowns row k) gs)
  pub older : (c : ℕ) → In c (run (frozen s') (top' + j) (part_count_type gs)) → c < n'
  pub names : w ≡ 1 → run (frozen s') (top' + m + j) (part_count_type gs) ≡ l
  pub cells : n' ≤ n + sizes gs
  pub words : top' + 2 * part_count_type gs ≤ top + 2 * sizes gs
  pub fit : load (frozen s') n' + part_count_type gs ≤ load (frozen s) n + 2 * sizes gs

pub record InstancedParts (s s' d : List ℕ) (n top at w m j row k n' top' : ℕ) : Type 0 where
  pub builds : Builds s s' d n n'
  pub above : Above (frozen s') n' top'
  pub are : (l : List ℕ) (gs : Tys) (e : ℕ) → Rest (heap s d) w at l gs e → part_count_type gs + j ≡ m → Instances s s' n top w m j row k n' top' l gs
