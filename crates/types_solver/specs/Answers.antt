-- Findings 34 and 35.
use Rattle.std.specs.Prelude.{◌≡◌, Bool, true, false, List, ℕ, suc, ◌-◌, ◌≤◌, ◌<◌, ◌^◌, eqb, length, get_or}
use Rattle.std.proofs.Math.Option.{some, none}
use Rattle.types_rules.specs.Classes.{rep}
use Rattle.types_rules.specs.Component.{component_type}
use Rattle.types_rules.specs.Equations.{In, Pairs, Solves}
use Rattle.types_rules.specs.Finite.{bounded}
use Rattle.types_rules.specs.Trees.{Extent, finite, Tree}
use Rattle.types_cells.specs.Layout.{settled_from}
use Rattle.types_cells.specs.Store.{frozen, link_at, tag_at, view, Held, Solved}
use Rattle.types_solver.specs.Written.{Resolved}
use Rattle.types_cells.specs.Settled.{heap, Readable, Pinned, ObeysIn, FitsIn, FoundType}

-- All cells have finite types.
abbrev pub Finite : List ℕ → ℕ → Pairs ℕ → Type 0
Finite w n L = (i : ℕ) → i < n → bounded (rep eqb L) (view w n) n i ≡ true

-- r is the first place of x in the list of k words, and k where it is not there.
pub record FirstPlace (l : List ℕ) (k x r : ℕ) : Type 0 where
  pub within : r ≤ k
  pub hit : r < k → get_or l r 0 ≡ x
  pub first : (j : ℕ) → j < r → get_or l j 0 ≡ x → ⊥
  pub none : r ≡ k → In x l → ⊥

-- A solution of a store with settled cells, of types or of possibly infinite types.
pub record SolutionIn (ε : Extent) (s d : List ℕ) (n : ℕ) (P₀ : Pairs ℕ) : Type 0 where
  pub σ : ℕ → Tree ε
  pub fits : FitsIn ε (frozen s) n σ
  pub sat : Solves σ P₀
  pub obeys : ObeysIn ε s d n σ

abbrev pub SolutionOf : List ℕ → List ℕ → ℕ → Pairs ℕ → Type 0
SolutionOf s d n P₀ = SolutionIn finite s d n P₀

pub record Differ (s d : List ℕ) (n : ℕ) (P₀ : Pairs ℕ) : Type 0 where
  pub one : SolutionOf s d n P₀
  pub other : SolutionOf s d n P₀
  pub cell : ℕ
  pub made : cell < n
  pub bare : tag_at (frozen s) cell ≡ 0
  pub differ : one.σ cell ≡ other.σ cell → ⊥

-- 34. True: two solutions differ at a cell. False: each cell's type is the same in all of them.
pub record Left (s : List ℕ) (n : ℕ) (free : Bool) : Type 0 where
  pub several : free ≡ true → (d : List ℕ) (P₀ L : Pairs ℕ) → Solved s n P₀ L → Pinned s d n → Finite (frozen s) n L → Differ s d n P₀
  pub one : free ≡ false → (d : List ℕ) (P₀ L : Pairs ℕ) → Solved s n P₀ L → Pinned s d n → Finite (frozen s) n L →
      (X Y : SolutionOf s d n P₀) → (i : ℕ) → i < n → X.σ i ≡ Y.σ i
  pub resolved : free ≡ false → (L : Pairs ℕ) → Held s n L → Resolved s n L

-- A solution where cell i is no binding with this identifier.
pub record Without (s d : List ℕ) (n : ℕ) (P₀ : Pairs ℕ) (i id : ℕ) : Type 0 where
  pub solution : SolutionOf s d n P₀
  pub lacks : component_type id (solution.σ i) ≡ none

-- What a function that looks at cell i asks.
pub record Looking (s d : List ℕ) (i : ℕ) : Type 0 where
  pub n : ℕ
  pub L : Pairs ℕ
  pub held : Held s n L
  pub pinned : Pinned s d n
  pub made : i < n
  pub few : length d < 2 ^ 31

-- The same of a representative.
pub record LookingRoot (s d : List ℕ) (i : ℕ) : Type 0 where
  pub looking : Looking s d i
  pub root : link_at s i ≡ 0

-- 35. c + 1, below settled_from: in every solution cell i is a binding where id has the type of cell c. settled_from + p: in every solution it is one where id
-- has the type whose words stand at p. 0: in some solution it is not.
pub record Looked (s d : List ℕ) (i id v : ℕ) : Type 0 where
  pub found : (c : ℕ) → v ≡ suc c → v < settled_from → (n : ℕ) (P₀ L : Pairs ℕ) → Solved s n P₀ L → i < n → (X : SolutionOf s d n P₀) → component_type id (X.σ i) ≡ some (X.σ c)
  pub below : (c : ℕ) → v ≡ suc c → v < settled_from → (n : ℕ) (L : Pairs ℕ) → Held s n L → i < n → c < n
  pub settled : settled_from ≤ v → (n : ℕ) (P₀ L : Pairs ℕ) → Solved s n P₀ L → Pinned s d n → i < n → (X : SolutionOf s d n P₀) → FoundType (heap s d) (v - settled_from) (component_type id (X.σ i))
  pub place : settled_from ≤ v → (n : ℕ) (L : Pairs ℕ) → Held s n L → Pinned s d n → i < n → Readable (heap s d) (v - settled_from)
  pub absent : v ≡ 0 → (n : ℕ) (P₀ L : Pairs ℕ) → Solved s n P₀ L → Pinned s d n → i < n → Finite (frozen s) n L → Without s d n P₀ i id
