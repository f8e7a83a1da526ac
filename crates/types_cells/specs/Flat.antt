-- Links made straight: the classes are kept.
use Rattle.std.specs.Prelude.{◌≡◌, List, ℕ, suc, ◌≤◌, ◌<◌, eqb}
use Rattle.types_rules.specs.Classes.{rep}
use Rattle.types_rules.specs.Equations.{Pairs}
use Rattle.types_cells.specs.Layout.{settled_from}
use Rattle.types_cells.specs.Store.{frozen, link_at, Solved}
use Rattle.types_cells.specs.Settled.{lower, word_at}

pub record Sound (s : List ℕ) (n : ℕ) : Type 0 where
  pub P₀ : Pairs ℕ
  pub L : Pairs ℕ
  pub solved : Solved s n P₀ L

pub record Kept (s : List ℕ) (n : ℕ) (P₀ L : Pairs ℕ) : Type 0 where
  pub L' : Pairs ℕ
  pub solved : Solved s n P₀ L'
  pub same : (i : ℕ) → rep eqb L' i ≡ rep eqb L i

-- The link of cell i, if it has one, leads to a representative.
abbrev pub Direct : List ℕ → ℕ → Type 0
Direct s i = (j : ℕ) → link_at s i ≡ suc j → link_at s j ≡ 0

-- The same cells refer to the same types.
pub record Refers (s s' : List ℕ) : Type 0 where
  pub low : lower s' ≡ lower s
  pub to : (j : ℕ) → settled_from ≤ word_at s j → word_at s' j ≡ word_at s j
  pub from : (j : ℕ) → settled_from ≤ word_at s' j → word_at s' j ≡ word_at s j

pub record Straight (s s' : List ℕ) (i n : ℕ) : Type 0 where
  pub refers : Refers s s'
  pub still : frozen s' ≡ frozen s
  pub direct : Direct s' i
  pub others : (j : ℕ) → (j ≡ i → ⊥) → link_at s' j ≡ link_at s j
  pub roots : link_at s i ≡ 0 → link_at s' i ≡ 0
  pub keeps : (P₀ L : Pairs ℕ) → Solved s n P₀ L → i < n → Kept s' n P₀ L

-- Every link is direct, so that a representative is found in two reads until the next merge.
pub record Flattened (s s' : List ℕ) (n : ℕ) : Type 0 where
  pub refers : Refers s s'
  pub still : frozen s' ≡ frozen s
  pub direct : (i : ℕ) → i < n → Direct s' i
  pub keeps : (P₀ L : Pairs ℕ) → Solved s n P₀ L → Kept s' n P₀ L
