-- What merging asks and promises. The ghost values n, P₀, L are those of any reading of the area: a function asks that there is one, and promises for each.
-- The solutions of a store are the assignments σ of types, or of possibly infinite types, to its cells that fit the formers, solve the equations P₀, and obey the settled cells.
use Rattle.std.specs.Prelude.{◌≡◌, Bool, true, false, List, Option, MatchOption, ℕ, suc, ◌+◌, ◌*◌, ◌<◌, ◌^◌, length, get_or, set}
use Rattle.types_rules.specs.Equations.{Pairs, Solves, pair}
use Rattle.types_rules.specs.Trees.{Extent, Tree}
use Rattle.types_cells.specs.Layout.{max_cells, links_at, pairs_at, seconds_at, area_size}
use Rattle.types_cells.specs.Store.{frozen, weight, Held, Solved, Busy}
use Rattle.types_cells.specs.Calls.{Root}
use Rattle.types_cells.specs.Settled.{lower, Pinned, ObeysIn, FitsIn, Kept}

-- Some reading with k pending pairs.
pub record Open (s d : List ℕ) (k : ℕ) : Type 0 where
  pub n : ℕ
  pub P₀ : Pairs ℕ
  pub L : Pairs ℕ
  pub busy : Busy s n P₀ L k
  pub pinned : Pinned s d n
  pub few : length d < 2 ^ 31

pub record Next (s : List ℕ) (n : ℕ) (P₀ : Pairs ℕ) (k : ℕ) : Type 0 where
  pub L : Pairs ℕ
  pub busy : Busy s n P₀ L k

-- Among the assignments that fit and solve P₀, the same obey s and s'.
pub record Same (s s' d : List ℕ) (n : ℕ) (P₀ : Pairs ℕ) : Type 0 where
  pub pinned : Pinned s' d n
  pub to : (ε : Extent) (σ : ℕ → Tree ε) → FitsIn ε (frozen s) n σ → Solves σ P₀ → ObeysIn ε s d n σ → ObeysIn ε s' d n σ
  pub from : (ε : Extent) (σ : ℕ → Tree ε) → FitsIn ε (frozen s) n σ → Solves σ P₀ → ObeysIn ε s' d n σ → ObeysIn ε s d n σ

-- No assignment fits, solves P₀ and obeys s.
abbrev pub NoSolution : List ℕ → List ℕ → ℕ → Pairs ℕ → Type 0
NoSolution s d n P₀ = (ε : Extent) (σ : ℕ → Tree ε) → FitsIn ε (frozen s) n σ → Solves σ P₀ → ObeysIn ε s d n σ → ⊥

-- One turn, with k pairs pending before and r after.
pub record Turned (s s' d : List ℕ) (k : ℕ) (fine : Bool) (r : ℕ) : Type 0 where
  pub still : frozen s' ≡ frozen s
  pub low : lower s' ≡ lower s
  pub falls : fine ≡ true → weight s' max_cells + r < weight s max_cells + k
  pub goes : fine ≡ true → (n : ℕ) (P₀ L : Pairs ℕ) → Busy s n P₀ L k → Pinned s d n → Next s' n P₀ r
  pub same : fine ≡ true → (n : ℕ) (P₀ L : Pairs ℕ) → Busy s n P₀ L k → Pinned s d n → Same s s' d n P₀
  pub stops : fine ≡ false → (n : ℕ) (P₀ L : Pairs ℕ) → Busy s n P₀ L k → Pinned s d n → NoSolution s d n P₀

-- The same, by the answer: the number of pairs that are left, or none where there is no solution.
abbrev pub TurnedTo : List ℕ → List ℕ → List ℕ → ℕ → Option ℕ → Type 0
TurnedTo s s' d k o = MatchOption o (Turned s s' d k false 0) (Turned s s' d k true)

-- Two representatives, of the pair that was popped.
pub record Popped (s d : List ℕ) (k x y : ℕ) : Type 0 where
  pub reading : Open s d (suc k)
  pub left : Root s (get_or s (pairs_at + 2 * k) 0) x
  pub right : Root s (get_or s (seconds_at + 2 * k) 0) y
  pub apart : x ≡ y → ⊥

-- The unknown x, a representative, may be linked to y: with the link there is a reading.
pub record Tying (s d : List ℕ) (x y : ℕ) : Type 0 where
  pub n : ℕ
  pub L : Pairs ℕ
  pub size : length s ≡ area_size
  pub held : Held (set s (links_at + x) (suc y)) n L
  pub pinned : Pinned s d n
  pub few : length d < 2 ^ 31
  pub left : x < n
  pub right : y < n

-- x is linked to y, and y is given the type that x refers to, if it does.
pub record Tied (s s' d : List ℕ) (x y : ℕ) (fine : Bool) : Type 0 where
  pub kept : Kept (set s (links_at + x) (suc y)) s'
  pub same : fine ≡ true → (n : ℕ) (L : Pairs ℕ) → Held (set s (links_at + x) (suc y)) n L → Pinned s d n → x < n → y < n → (P₀ : Pairs ℕ) →
      ((ε : Extent) (σ : ℕ → Tree ε) → FitsIn ε (frozen s) n σ → Solves σ P₀ → Solves σ L × (σ x ≡ σ y)) → Same s s' d n P₀
  pub stops : fine ≡ false → (n : ℕ) (L : Pairs ℕ) → Held (set s (links_at + x) (suc y)) n L → Pinned s d n → x < n → y < n → (P₀ : Pairs ℕ) →
      ((ε : Extent) (σ : ℕ → Tree ε) → FitsIn ε (frozen s) n σ → Solves σ P₀ → Solves σ L × (σ x ≡ σ y)) → NoSolution s d n P₀

pub record Done (s : List ℕ) (n : ℕ) (P₀ : Pairs ℕ) : Type 0 where
  pub L : Pairs ℕ
  pub solved : Solved s n P₀ L

-- All that is pending, k pairs.
pub record Drained (s s' d : List ℕ) (k : ℕ) (fine : Bool) : Type 0 where
  pub still : frozen s' ≡ frozen s
  pub low : lower s' ≡ lower s
  pub goes : fine ≡ true → (n : ℕ) (P₀ L : Pairs ℕ) → Busy s n P₀ L k → Pinned s d n → Done s' n P₀
  pub same : fine ≡ true → (n : ℕ) (P₀ L : Pairs ℕ) → Busy s n P₀ L k → Pinned s d n → Same s s' d n P₀
  pub stops : fine ≡ false → (n : ℕ) (P₀ L : Pairs ℕ) → Busy s n P₀ L k → Pinned s d n → NoSolution s d n P₀

pub record Asking (s d : List ℕ) (x y : ℕ) : Type 0 where
  pub n : ℕ
  pub P₀ : Pairs ℕ
  pub L : Pairs ℕ
  pub solved : Solved s n P₀ L
  pub pinned : Pinned s d n
  pub few : length d < 2 ^ 31
  pub left : x < n
  pub right : y < n

-- MERGE: the equation x = y beside those solved before. True: they are solved, and the solutions are those before that also solve the new equation.
-- False: there is none.
pub record Merged (s s' d : List ℕ) (x y : ℕ) (fine : Bool) : Type 0 where
  pub still : frozen s' ≡ frozen s
  pub low : lower s' ≡ lower s
  pub goes : fine ≡ true → (n : ℕ) (P₀ L : Pairs ℕ) → Solved s n P₀ L → Pinned s d n → x < n → y < n → Done s' n (pair x y P₀)
  pub same : fine ≡ true → (n : ℕ) (P₀ L : Pairs ℕ) → Solved s n P₀ L → Pinned s d n → x < n → y < n → Same s s' d n (pair x y P₀)
  pub stops : fine ≡ false → (n : ℕ) (P₀ L : Pairs ℕ) → Solved s n P₀ L → Pinned s d n → x < n → y < n → NoSolution s d n (pair x y P₀)
