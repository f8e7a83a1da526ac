-- Words moved into the caller's part of the area, and stores that are alike.
use Rattle.std.specs.Prelude.{◌≡◌, List, ◌++◌, ◌⊎◌, ℕ, ◌+◌, ◌*◌, ◌-◌, ◌≤◌, ◌<◌, ◌^◌, length, get_or}
use Rattle.std.proofs.lemmas.List.Edits.{sets}
use Rattle.types_rules.specs.Types.{Ty}
use Rattle.types_rules.specs.Words.{words}
use Rattle.types_rules.specs.Equations.{Pairs}
use Rattle.types_cells.specs.Layout.{max_cells, pool_size, links_at, records_at, settled_from, first_run, frozen_size, runs_at, area_size}
use Rattle.types_cells.specs.Store.{frozen, field_at, run, Solved}
use Rattle.types_cells.specs.Calls.{Above}
use Rattle.types_cells.specs.Settled.{heap, word_at, Reads, Pinned, Obeys}
use Rattle.types_solver.specs.Answers.{SolutionOf}

-- What saving the first n cells and the runs up to `top` asks, to the place `at`; and what restoring them from the words `from` asks.
abbrev pub SaveAsk : List ℕ → ℕ → ℕ → ℕ → Type 0
SaveAsk s n top at = (length s ≡ area_size) × (n ≤ max_cells) × (first_run ≤ top) × (top ≤ frozen_size) × (at < 2 ^ 39)

abbrev pub RestoreAsk : List ℕ → ℕ → ℕ → ℕ → Type 0
RestoreAsk from n top at = (n ≤ max_cells) × (first_run ≤ top) × (top ≤ frozen_size) × (at < 2 ^ 39) × (at + (5 * n + (top - first_run)) ≤ length from)

-- The words of g at p lie below `at`, or in the dictionary.
abbrev pub Below : ℕ → ℕ → Ty → Type 0
Below at p g = (p + length (words g) ≤ at) ⊎ (pool_size ≤ p)

-- So do those of each settled cell's type.
abbrev pub AllBelow : List ℕ → List ℕ → ℕ → ℕ → Type 0
AllBelow s d n at = (i : ℕ) → i < n → settled_from ≤ word_at s i → (g : Ty) → Reads (heap s d) (word_at s i - settled_from) g → Below at (word_at s i - settled_from) g

-- The words of each settled cell's type of s are still read in s'.
abbrev pub StillRead : List ℕ → List ℕ → List ℕ → ℕ → Type 0
StillRead s s' d n = (i : ℕ) → i < n → settled_from ≤ word_at s i → (g : Ty) → Reads (heap s d) (word_at s i - settled_from) g → Reads (heap s' d) (word_at s i - settled_from) g

-- s' has the first n cells of s, with their link words, and its runs below `top`.
pub record Alike (s s' : List ℕ) (n top : ℕ) : Type 0 where
  pub size : length s' ≡ length s
  pub links : (i : ℕ) → i < n → word_at s' i ≡ word_at s i
  pub fields : (i j : ℕ) → i < n → j < 4 → field_at (frozen s') i j ≡ field_at (frozen s) i j
  pub runs : (p : ℕ) → first_run ≤ p → p < top → get_or (frozen s') p 0 ≡ get_or (frozen s) p 0

-- The words of a store of n cells whose runs end at `top`: link words, cells, runs.
unfoldable pub saved : List ℕ → ℕ → ℕ → List ℕ
saved s n top = run s links_at n ++ (run s records_at (4 * n) ++ run s runs_at (top - first_run))

-- The area s with the store whose words stand in `from` at `at`.
unfoldable pub restored : List ℕ → ℕ → ℕ → List ℕ → ℕ → List ℕ
restored s n top from at = sets (sets (sets s links_at (run from at n)) records_at (run from (at + n) (4 * n))) runs_at (run from (at + n + 4 * n) (top - first_run))

-- The store s is taken up again in s', with the same cells, equations and solutions; its settled types lie below `base` or in the dictionary.
pub record Resumed (s s' d : List ℕ) (n top base : ℕ) : Type 0 where
  pub alike : Alike s s' n top
  pub solved : (P₀ L : Pairs ℕ) → Solved s n P₀ L → Solved s' n P₀ L
  pub above : Above (frozen s') n top
  pub pinned : Pinned s d n → Pinned s' d n
  pub below : Pinned s d n → AllBelow s' d n base
  pub obeys : (σ : ℕ → Ty) → Pinned s d n → Obeys s d n σ → Obeys s' d n σ
  pub obeyed : (σ : ℕ → Ty) → Obeys s' d n σ → Obeys s d n σ
  pub solutions : (P₀ L : Pairs ℕ) → Solved s n P₀ L → Pinned s d n → SolutionOf s d n P₀ → SolutionOf s' d n P₀
  pub solved_before : (P₀ L : Pairs ℕ) → Solved s n P₀ L → SolutionOf s' d n P₀ → SolutionOf s d n P₀
