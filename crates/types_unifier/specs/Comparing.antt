-- Two cells that have formers: compared, and their parts made pending.
use Rattle.std.specs.Prelude.{◌≡◌, List, ℕ, ◌+◌, ◌≤◌, ◌<◌, length, get_or}
use Rattle.std.proofs.Math.Option.{some}
use Rattle.types_rules.specs.Classes.{zip_n}
use Rattle.types_cells.specs.Layout.{max_cells, max_pending, pairs_at, frozen_size, area_size}
use Rattle.types_cells.specs.Store.{frozen, tag_at, count_at, parts_at, former_at, Cell, pending}

-- Two cells of which the runs can be compared.
pub record Two (w : List ℕ) (x y : ℕ) : Type 0 where
  pub size : length w ≡ frozen_size
  pub few_x : x < max_cells
  pub few_y : y < max_cells
  pub left : Cell w x
  pub right : Cell w y
  pub shaped_x : 0 < tag_at w x
  pub shaped_y : 0 < tag_at w y

abbrev pub Alike : List ℕ → ℕ → ℕ → Type 0
Alike w x y = (former_at w x ≡ former_at w y) × (count_at w x ≡ count_at w y)

pub record Pushing (s : List ℕ) (k x y : ℕ) : Type 0 where
  pub size : length s ≡ area_size
  pub two : Two (frozen s) x y
  pub same : count_at (frozen s) x ≡ count_at (frozen s) y
  pub fit : k + count_at (frozen s) x ≤ max_pending

-- The pairs of parts of x and y stand on the k pairs that were pending.
pub record Pushed (s s' : List ℕ) (k x y r : ℕ) : Type 0 where
  pub count : r ≡ k + count_at (frozen s) x
  pub still : frozen s' ≡ frozen s
  pub front : (i : ℕ) → i < pairs_at → get_or s' i 0 ≡ get_or s i 0
  pub pairs : zip_n (parts_at (frozen s) x) (parts_at (frozen s) y) (pending s k) ≡ some (pending s' r)
