-- A cell that has a former, met with the type words at a place: the former compared, and the identifiers.
use Rattle.std.specs.Prelude.{◌≡◌, Bool, List, ℕ, ◌+◌, ◌<◌, get_or}
use Rattle.types_rules.specs.Former.{Former, binding}
use Rattle.types_rules.specs.Types.{Tys, node}
use Rattle.types_rules.specs.Formed.{part_count_type}
use Rattle.types_cells.specs.Layout.{max_cells}
use Rattle.types_cells.specs.Store.{frozen, tag_at, arg_at, count_at, run, former_at, Cell}
use Rattle.types_cells.specs.Calls.{Tells}
use Rattle.types_cells.specs.Settled.{heap, Reads, Readable, Areas}

-- Cell r has a former, and p is the place of a type.
pub record Meeting (s d : List ℕ) (r p : ℕ) : Type 0 where
  pub areas : Areas s d
  pub few : r < max_cells
  pub cell : Cell (frozen s) r
  pub shaped : 0 < tag_at (frozen s) r
  pub readable : Readable (heap s d) p

-- Cell r is a binding of n parts, as is the type at p.
pub record Naming (s d : List ℕ) (r p n : ℕ) : Type 0 where
  pub meeting : Meeting s d r p
  pub binds : tag_at (frozen s) r ≡ 5
  pub count : n ≡ count_at (frozen s) r
  pub tag_there : get_or (heap s d) p 0 ≡ 5
  pub parts_at : get_or (heap s d) (p + 1) 0 ≡ n

-- The answer tells whether the identifiers are the same.
pub record SameNames (s d : List ℕ) (r p n : ℕ) (b : Bool) : Type 0 where
  pub tells : (l : List ℕ) (gs : Tys) → Reads (heap s d) p (node (binding l) gs) → Tells b (run (frozen s) (arg_at (frozen s) r) n ≡ l)

-- The answer tells whether cell r has the former of the type at p, and as many parts.
pub record SameFormer (s d : List ℕ) (r p : ℕ) (b : Bool) : Type 0 where
  pub tells : (h : Former) (gs : Tys) → Reads (heap s d) p (node h gs) → Tells b ((former_at (frozen s) r ≡ h) × (count_at (frozen s) r ≡ part_count_type gs))
