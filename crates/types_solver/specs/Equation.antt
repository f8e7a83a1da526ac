-- Equations more, all together: what `equate` asks and promises.
use Rattle.std.specs.Prelude.{◌≡◌, Bool, true, false, List, [], ◌∷◌, ◌⊎◌, ℕ, ◌+◌, ◌≤◌, ◌<◌, ◌^◌, length}
use Rattle.types_rules.specs.Equations.{Pairs, pair}
use Rattle.types_rules.specs.Trees.{finite, infinite}
use Rattle.types_cells.specs.Store.{frozen, Solved}
use Rattle.types_cells.specs.Settled.{lower, Pinned}
use Rattle.types_unifier.specs.Merging.{Done, Same, NoSolution}
use Rattle.types_cells.specs.Flat.{Direct}
use Rattle.types_solver.specs.Sizes.{Marked}
use Rattle.types_solver.specs.Answers.{SolutionIn, SolutionOf}

-- The equations of the cells l with y, y + k, .., beside P₀.
unfoldable pub pairs_with : List ℕ → ℕ → ℕ → Pairs ℕ → Pairs ℕ
pairs_with [] y k P₀ = P₀
pairs_with (c ∷ l) y k P₀ = pairs_with l (y + k) k (pair c y P₀)

-- They are among the n.
unfoldable pub Within : ℕ → List ℕ → ℕ → ℕ → Type 0
Within n [] y k = Unit {0}
Within n (c ∷ l) y k = (c < n) × (y < n) × Within n l (y + k) k

-- These cells of the n may be equated.
pub record Equating (s d : List ℕ) (n : ℕ) (l : List ℕ) (y k : ℕ) : Type 0 where
  pub P₀ : Pairs ℕ
  pub L : Pairs ℕ
  pub solved : Solved s n P₀ L
  pub pinned : Pinned s d n
  pub few : length d < 2 ^ 31
  pub made : Within n l y k
  pub step : k ≤ 2

-- The equations are merged one after another, as `merge` does: what solutions are is not asked to be finite.
pub record MergedAll (s s' d : List ℕ) (l : List ℕ) (y k : ℕ) (fine : Bool) : Type 0 where
  pub still : frozen s' ≡ frozen s
  pub low : lower s' ≡ lower s
  pub goes : fine ≡ true → (n : ℕ) (P₀ L : Pairs ℕ) → Solved s n P₀ L → Pinned s d n → Within n l y k → Done s' n (pairs_with l y k P₀)
  pub same : fine ≡ true → (n : ℕ) (P₀ L : Pairs ℕ) → Solved s n P₀ L → Pinned s d n → Within n l y k → Same s s' d n (pairs_with l y k P₀)
  pub stops : fine ≡ false → (n : ℕ) (P₀ L : Pairs ℕ) → Solved s n P₀ L → Pinned s d n → Within n l y k → NoSolution s d n (pairs_with l y k P₀)

-- THE EQUATIONS beside those solved before. 0: they are solved, the solutions are those before that also solve the new equations, and there is one; every cell
-- is marked with its size, and every link is direct. 33: there is no solution, not even of possibly infinite types. 39: there is none, but there is one of such types.
pub record Equation (s s' d : List ℕ) (n : ℕ) (l : List ℕ) (y k number : ℕ) : Type 0 where
  pub still : frozen s' ≡ frozen s
  pub low : lower s' ≡ lower s
  pub numbers : (number ≡ 0) ⊎ ((number ≡ 33) ⊎ (number ≡ 39))
  pub goes : number ≡ 0 → (P₀ L : Pairs ℕ) → Solved s n P₀ L → Pinned s d n → Done s' n (pairs_with l y k P₀)
  pub same : number ≡ 0 → (P₀ L : Pairs ℕ) → Solved s n P₀ L → Pinned s d n → Same s s' d n (pairs_with l y k P₀)
  pub some : number ≡ 0 → (P₀ L : Pairs ℕ) → Solved s n P₀ L → Pinned s d n → SolutionOf s' d n (pairs_with l y k P₀)
  pub marked : number ≡ 0 → (P₀ L : Pairs ℕ) → Solved s' n P₀ L → Marked s' n L
  pub direct : number ≡ 0 → (i : ℕ) → i < n → Direct s' i
  pub apart : number ≡ 33 → (P₀ L : Pairs ℕ) → Solved s n P₀ L → Pinned s d n → NoSolution s d n (pairs_with l y k P₀)
  pub endless : number ≡ 39 → (P₀ L : Pairs ℕ) → Solved s n P₀ L → Pinned s d n →
      (SolutionIn finite s d n (pairs_with l y k P₀) → ⊥) × SolutionIn infinite s d n (pairs_with l y k P₀)
