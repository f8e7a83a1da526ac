-- The steps of writing types into the caller's part: words of types in the work area, of one cell or of the rows that an Include brings, which are then
-- moved.
use Rattle.std.specs.Prelude.{◌≡◌, List, ◌⊎◌, ℕ, suc, ◌+◌, ◌*◌, ◌≤◌, ◌<◌, ◌^◌, length, get_or}
use Rattle.types_rules.specs.Types.{Ty, Tys, size}
use Rattle.types_rules.specs.Formed.{WellFormed}
use Rattle.types_rules.specs.Words.{words}
use Rattle.types_cells.specs.Layout.{area_size, pool_size, type_words}
use Rattle.types_cells.specs.Settled.{heap, Reads, Readable}
use Rattle.checker_signatures.specs.Rows.{rows}
use Rattle.checker_signatures.specs.Tables.{Finds}
use Rattle.types_instances.specs.Clean.{Clean}
use Rattle.types_instances.specs.Fill.{fill}
use Rattle.types_instances.specs.Filled.{Row, Actuals}
use Rattle.checker_merging.specs.Merging.{Rows}
use Rattle.checker_pieces.specs.Stage.{Ghost}
use Rattle.checker_pieces.specs.Closed.{Shut, Sizing}
use Rattle.checker_includes.specs.Components.{StandsFor}
use Rattle.checker_includes.specs.NewRows.{new_rows}
use Rattle.checker_includes.specs.Storing.{Stored, Scratch}

-- The words of g stand in w at p, and end by e.
pub record Written (w : List ℕ) (p e : ℕ) (g : Ty) : Type 0 where
  pub fits : p + length (words g) ≤ e
  pub words_at : (x : ℕ) → x < length (words g) → get_or w (p + x) 0 ≡ get_or (words g) x 0

-- ONE CELL: the words of its type, or of the stand-in, go to the words of w from `free` on.
pub record ShownAsk (s d w : List ℕ) (n c free : ℕ) : Type 0 where
  pub sizing : Sizing s d n c
  pub scratch : free + type_words ≤ length w
  pub near : free < 2 ^ 32

pub record ShownWords (s d w w' : List ℕ) (n c free e : ℕ) : Type 0 where
  pub scratch : Scratch w w' free
  pub more : free ≤ e
  pub short : e ≤ free + 95
  pub shows : (G : Ghost) (S : Shut s d n G) → WellFormed (S.type c) → (h : Ty) × WellFormed h × Written w' free e h × StandsFor h (S.type c)

-- The row at r has the place of the table's row with the same identifier, ..
pub record RowFound (w w' : List ℕ) (base m r : ℕ) : Type 0 where
  pub row : ℕ
  pub finds : Finds w base m (get_or w r 0) row
  pub among : row < m
  pub place : get_or w' (r + 1) 0 ≡ get_or w (base + 2 * row + 1) 0

-- .. or a place of its own, whose words stand at p in the work area.
pub record Fresh (s d w w' : List ℕ) (r : ℕ) (places : List ℕ) (own p e : ℕ) : Type 0 where
  pub place : get_or w' (r + 1) 0 ≡ own
  pub stands : (g : Ty) (hs : Tys) → Reads (heap s d) (get_or w (r + 1) 0) g → Row (heap s d) places hs → Written w' p e (fill hs g)

-- ONE ROW, at r; words more go to e.
pub record RowAsk (s d w : List ℕ) (base m r : ℕ) (places : List ℕ) (own e : ℕ) : Type 0 where
  pub actuals : Actuals s d places
  pub readable : Readable (heap s d) (get_or w (r + 1) 0)
  pub small : (g : Ty) (hs : Tys) → Reads (heap s d) (get_or w (r + 1) 0) g → Row (heap s d) places hs → size (fill hs g) ≤ 32
  pub table : base + 2 * m ≤ e
  pub row : r + 2 ≤ e
  pub room : e + 95 ≤ length w
  pub near : e < 2 ^ 33
  pub place : own < 2 ^ 32

pub record RowKept (s d w w' : List ℕ) (base m r : ℕ) (places : List ℕ) (own e e' : ℕ) : Type 0 where
  pub size : length w' ≡ length w
  pub words : (i : ℕ) → i < e → (i ≡ r + 1 → ⊥) → get_or w' i 0 ≡ get_or w i 0
  pub more : e ≤ e'
  pub short : e' ≤ e + 95 * new_rows (rows w r 1) (rows w base m)
  pub kept : RowFound w w' base m r ⊎ Fresh s d w w' r places own e e'

-- ALL ROWS: words more go to the words of w from `free` on; they are to stand at `at`.
pub record AllAsk (s d w : List ℕ) (base m source k : ℕ) (places : List ℕ) (at free : ℕ) : Type 0 where
  pub actuals : Actuals s d places
  pub rows : Rows s d w source k
  pub sizes : (j : ℕ) → j < k → (g : Ty) (hs : Tys) → Reads (heap s d) (get_or w (source + 2 * j + 1) 0) g → Row (heap s d) places hs → size (fill hs g) ≤ 32
  pub many : k ≤ 16
  pub room : at < pool_size
  pub scratch : free + type_words * 16 ≤ length w
  pub near : free < 2 ^ 32
  pub beside : (base + 2 * m ≤ free) × (source + 2 * k ≤ free)
  pub apart : (base + 2 * m ≤ source) ⊎ (source + 2 * k ≤ base)

pub record AllKept (s d w w' : List ℕ) (base m source k : ℕ) (places : List ℕ) (at free e : ℕ) : Type 0 where
  pub size : length w' ≡ length w
  pub words : (i : ℕ) → i < free → ((j : ℕ) → j < k → i ≡ source + 2 * j + 1 → ⊥) → get_or w' i 0 ≡ get_or w i 0
  pub more : free ≤ e
  pub short : e ≤ free + 95 * new_rows (rows w source k) (rows w base m)
  pub each : (j : ℕ) → j < k → RowFound w w' base m (source + 2 * j) ⊎ ((o : ℕ) × Fresh s d w w' (source + 2 * j) places (at + o) (free + o) e)

-- THE WORDS MOVED: k words of w at `free`, to `at`; what stood there, up to `end`, is wiped.
pub record MoveAsk (s w : List ℕ) (at end free k : ℕ) : Type 0 where
  pub size : length s ≡ area_size
  pub clean : Clean s end
  pub gap : (i : ℕ) → suc i ≡ at → get_or s i 0 ≡ 0
  pub before : at ≤ end
  pub room : end + k < pool_size
  pub inside : free + k ≤ length w
  pub near : free + k < 2 ^ 40

pub record Moved (s s' w : List ℕ) (at free k end' : ℕ) : Type 0 where
  pub stored : Stored s s' at end'
  pub words : (x : ℕ) → x < k → get_or s' (at + x) 0 ≡ get_or w (free + x) 0
  pub none : k ≡ 0 → end' ≡ at
  pub short : end' ≤ at + k + 1
