-- A store that is built cell by cell, and what the functions that build it ask and promise.
use Rattle.std.specs.Prelude.{◌≡◌, Bool, true, List, ℕ, ◌+◌, ◌*◌, ◌-◌, ◌≤◌, ◌<◌, ◌^◌, length, get_or}
use Rattle.types_rules.specs.Equations.{Pairs}
use Rattle.types_cells.specs.Layout.{first_run, frozen_size, area_size, max_cells}
use Rattle.types_cells.specs.Store.{frozen, load, Solved}
use Rattle.types_cells.specs.Calls.{Above}
use Rattle.types_cells.specs.Settled.{Pinned}

-- The store s of n cells, whose runs end at `top`: the last k words of the runs are cells, the parts of the next one.
pub record TowerReady (s d : List ℕ) (n top k : ℕ) : Type 0 where
  pub P₀ : Pairs ℕ
  pub L : Pairs ℕ
  pub solved : Solved s n P₀ L
  pub pinned : Pinned s d n
  pub above : Above (frozen s) n top
  pub low : first_run + k ≤ top
  pub fit : load (frozen s) n + k + first_run ≤ n + top
  pub parts : (i : ℕ) → i < k → get_or (frozen s) (top - k + i) 0 < n

-- The m cells from `first` on, each `step` after the one before.
abbrev pub Row : ℕ → ℕ → ℕ → ℕ → Type 0
Row n first step m = (j : ℕ) → j < m → first + j * step < n

pub record Rowing (s : List ℕ) (n top first step m : ℕ) : Type 0 where
  pub d : List ℕ
  pub k : ℕ
  pub ready : TowerReady s d n top k
  pub row : Row n first step m
  pub short : step < max_cells
  pub room : top + m ≤ frozen_size

abbrev pub Rowed : List ℕ → List ℕ → ℕ → ℕ → ℕ → Type 0
Rowed s s' n top m = (d : List ℕ) (k : ℕ) → TowerReady s d n top k → TowerReady s' d n (top + m) (k + m)

-- Room for c cells more, with m parts.
pub record TowerRoom (s : List ℕ) (n top c m : ℕ) : Type 0 where
  pub d : List ℕ
  pub ready : TowerReady s d n top 0
  pub cells : n + c ≤ max_cells
  pub words : n + top + c + m < frozen_size

-- They are made.
abbrev pub Built : List ℕ → List ℕ → ℕ → ℕ → ℕ → ℕ → Type 0
Built s s' n top c m = (d : List ℕ) → TowerReady s d n top 0 → TowerReady s' d (n + c) (top + m) 0

-- A former over a row of cells, but no binding.
pub record Forming (s : List ℕ) (n top t a first step m : ℕ) : Type 0 where
  pub room : TowerRoom s n top 1 m
  pub row : Row n first step m
  pub short : step < max_cells
  pub tags : t ≤ 4
  pub plain : t < 2 → a ≡ 0
  pub powers : t ≡ 3 → a ≡ 0
  pub one : t ≡ 3 → m ≡ 1
  pub products : t ≡ 4 → a ≡ m

-- The application to cell x.
pub record Applying (s d : List ℕ) (n top x : ℕ) : Type 0 where
  pub ready : TowerReady s d n top 0
  pub cells : n + 11 ≤ max_cells
  pub words : n + top + 45 < frozen_size
  pub made : x < n
  pub few : length d < 2 ^ 31

abbrev pub Applied : List ℕ → List ℕ → List ℕ → ℕ → ℕ → Bool → Type 0
Applied s s' d n top fine = fine ≡ true → TowerReady s d n top 0 → TowerReady s' d (n + 11) (top + 34) 0

-- A tower of so many levels over ℤ (1) or an unknown (0).
pub record Towering (s d : List ℕ) (start levels : ℕ) : Type 0 where
  pub size : length s ≡ area_size
  pub few : length d < 2 ^ 31
  pub plain : start < 2
  pub some : 1 ≤ levels
  pub within : levels ≤ 32

abbrev pub Towered : List ℕ → List ℕ → ℕ → Bool → Type 0
Towered s d levels fine = fine ≡ true → TowerReady s d (1 + 11 * levels) (first_run + 34 * levels) 0

-- The store is built, and x one of its cells.
pub record Asked (s d : List ℕ) (n x : ℕ) : Type 0 where
  pub top : ℕ
  pub ready : TowerReady s d n top 0
  pub made : x < n
  pub few : length d < 2 ^ 31
