-- Types that a line declares, written into the caller's part of the area from `at` on, where it is clean.
use Rattle.std.specs.Prelude.{◌≡◌, Bool, true, false, List, ◌⊎◌, ℕ, suc, ◌+◌, ◌*◌, ◌≤◌, ◌<◌, ◌^◌, length, get_or}
use Rattle.types_rules.specs.Types.{Ty, Tys, Term, size}
use Rattle.types_rules.specs.Formed.{WellFormed}
use Rattle.checker_rules.specs.Unknowns.{Valuation}
use Rattle.checker_rules.specs.Items.{Items, Meets, Refuses, MeetsIn}
use Rattle.checker_rules.specs.Signatures.{Signature}
use Rattle.checker_rules.specs.Conditions.{merge_names, merge_declared, small_types}
use Rattle.types_cells.specs.Layout.{area_size, pool_size, type_words}
use Rattle.types_cells.specs.Settled.{heap, Reads}
use Rattle.checker_signatures.specs.Rows.{rows}
use Rattle.checker_signatures.specs.Carried.{Carries}
use Rattle.types_instances.specs.Clean.{Clean}
use Rattle.types_instances.specs.Fill.{fill}
use Rattle.types_instances.specs.Filled.{Row, Actuals}
use Rattle.types_instances.specs.Moved.{Below}
use Rattle.checker_merging.specs.Merging.{Rows}
use Rattle.checker_pieces.specs.Piece.{Steady, Walked, Settled}
use Rattle.checker_pieces.specs.Stage.{Ghost}
use Rattle.checker_pieces.specs.Closed.{Shut, Sizing}
use Rattle.checker_includes.specs.Components.{Placed, Fills, StandsFor, AllStandFor}
use Rattle.checker_includes.specs.NewRows.{new_rows}

-- Words written from `at` on: those before stay, and from `end` on the area is clean.
pub record Stored (s s' : List ℕ) (at end : ℕ) : Type 0 where
  pub size : length s' ≡ length s
  pub before : (i : ℕ) → i < at → get_or s' i 0 ≡ get_or s i 0
  pub after : Clean s' end
  pub more : at ≤ end

-- Words of a work area below `free` stay.
pub record Scratch (w w' : List ℕ) (free : ℕ) : Type 0 where
  pub size : length w' ≡ length w
  pub before : (i : ℕ) → i < free → get_or w' i 0 ≡ get_or w i 0

-- THE TYPE OF A CELL of a closed piece: cell c of n; there is room for it in both areas. The words between `at` and `end` are those of the piece's own inner
-- types; they are overwritten.
pub record StoreAsk (s d w : List ℕ) (n c at end free : ℕ) : Type 0 where
  pub sizing : Sizing s d n c
  pub size : length s ≡ area_size
  pub clean : Clean s end
  pub gap : (i : ℕ) → suc i ≡ at → get_or s i 0 ≡ 0
  pub some : 1 ≤ at
  pub before : at ≤ end
  pub room : end + type_words < pool_size
  pub scratch : free + type_words ≤ length w
  pub near : free < 2 ^ 32

-- Its words stand at `at`; of a type over size 32, those of another type over size 32. That the type is well formed follows from the piece's items, which
-- the caller has.
pub record TypeStored (s s' d w w' : List ℕ) (n c at free end' : ℕ) : Type 0 where
  pub stored : Stored s s' at end'
  pub scratch : Scratch w w' free
  pub short : end' ≤ at + type_words
  pub stands : (G : Ghost) (S : Shut s d n G) → WellFormed (S.type c) → (h : Ty) × Reads (heap s' d) at h × StandsFor h (S.type c)

-- 36 for a Decl whose type is over size 32: no identifier of it may be in the table, whose types are small.
pub record OverlapTold (s d w : List ℕ) (base m : ℕ) (is : List ℕ) (none : Bool) : Type 0 where
  pub goes : none ≡ true → (H : Items) (U : List ℕ) (n : ℕ) (t : Term) (r : Signature) → Steady H U → Carries (Placed s d H U) r (rows w base m) →
      Walked H (merge_declared n is t r) U U (λ x. ⊥)
  pub stops : none ≡ false → (H : Items) (U : List ℕ) (n : ℕ) (t : Term) (g : Ty) (r : Signature) → Steady H U → Settled H t g → 32 < size g →
      Carries (Placed s d H U) r (rows w base m) → Refuses (merge_declared n is t r) (MeetsIn H) 36 n

-- WHAT AN INCLUDE BRINGS, WRITTEN OUT: the k rows at `source` get places of their own types; those of identifiers that are in the table of m rows at
-- base get the places there. The actuals' words stand between `at` and `end`, and are overwritten.
pub record KeepAsk (s d w : List ℕ) (base m source k : ℕ) (places : List ℕ) (at end free : ℕ) : Type 0 where
  pub actuals : Actuals s d places
  pub rows : Rows s d w source k
  -- 38 has been decided
  pub sizes : (j : ℕ) → j < k → (g : Ty) (hs : Tys) → Reads (heap s d) (get_or w (source + 2 * j + 1) 0) g → Row (heap s d) places hs → size (fill hs g) ≤ 32
  pub table : Rows s d w base m
  -- the table's types were stored before the actuals: their words end by `at`
  pub below : (j : ℕ) → j < m → (g : Ty) → Reads (heap s d) (get_or w (base + 2 * j + 1) 0) g → Below at (get_or w (base + 2 * j + 1) 0) g
  pub many : k ≤ 16
  pub clean : Clean s end
  pub gap : (i : ℕ) → suc i ≡ at → get_or s i 0 ≡ 0
  pub some : 1 ≤ at
  pub before : at ≤ end
  pub room : end + type_words * 16 < pool_size
  pub scratch : free + type_words * 16 ≤ length w
  pub near : free < 2 ^ 32
  pub beside : (base + 2 * m ≤ free) × (source + 2 * k ≤ free)
  pub apart : (base + 2 * m ≤ source) ⊎ (source + 2 * k ≤ base)

pub record RowsKept (s s' d w w' : List ℕ) (base m source k : ℕ) (places : List ℕ) (at end free end' : ℕ) : Type 0 where
  pub stored : Stored s s' at end'
  pub size : length w' ≡ length w
  -- in the work area only the places of the rows at `source` and words from `free` on change
  pub words : (i : ℕ) → i < free → ((j : ℕ) → j < k → i ≡ source + 2 * j + 1 → ⊥) → get_or w' i 0 ≡ get_or w i 0
  -- only types of rows that the table does not have are written
  pub new : end' ≤ at + type_words * new_rows (rows w source k) (rows w base m)
  -- the rows' types, with the types gs for their parameters; types hs that stand for those are the actuals
  pub placed : (H : Items) (U : List ℕ) (n : ℕ) (q r : Signature) (hs gs : Tys) → Row (heap s d) places hs → AllStandFor hs gs → Carries (Fills s d H U gs) q (rows w source k) →
      Carries (Placed s d H U) r (rows w base m) → ((τ : Valuation) → Meets H τ → Meets (merge_names n q r) τ) → ((τ : Valuation) → Meets H τ → Meets (small_types n q) τ) →
      Steady H U → Carries (Placed s' d H U) q (rows w' source k)
