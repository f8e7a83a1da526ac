-- THE INVARIANT OF A PIECE: the solutions of the store are the valuations that meet the items visited so far (document 01, typing rules: "a closed piece").
-- H are the items before the piece, with their unknowns U₀; t those of the piece so far, with all unknowns U. ρ pairs each unknown of the piece with its cell.
use Rattle.std.specs.Prelude.{◌≡◌, List, ◌⊎◌, ◌↔◌, ℕ, ◌<◌}
use Rattle.types_rules.specs.Equations.{AllP, In, InP, Pairs, Solves}
use Rattle.types_rules.specs.Types.{Ty, Term, under}
use Rattle.checker_rules.specs.Unknowns.{Valuation}
use Rattle.checker_rules.specs.Items.{Items, ◌⨾◌, Meets, MeetsIn, Agree, Any, Passes, Refuses}
use Rattle.types_cells.specs.Store.{frozen, tag_at, Solved}
use Rattle.types_cells.specs.Settled.{Pinned, Obeys, Fits}

-- σ gives the n cells types that fit their formers, solve the equations P₀ between them, and are those that settled cells refer to.
pub record Solution (s d : List ℕ) (n : ℕ) (P₀ : Pairs ℕ) (σ : ℕ → Ty) : Type 0 where
  pub fits : Fits (frozen s) n σ
  pub sat : Solves σ P₀
  pub obeys : Obeys s d n σ

-- Each unknown has the type of its cell.
abbrev pub Matches : Pairs ℕ → Valuation → (ℕ → Ty) → Type 0
Matches ρ τ σ = AllP (λ x c. τ x ≡ σ c) ρ

-- Two valuations agree on the unknowns U.
abbrev pub SameOn : List ℕ → Valuation → Valuation → Type 0
SameOn U τ τ' = (x : ℕ) → In x U → τ x ≡ τ' x

-- What the items ask of a valuation depends on the unknowns U alone.
abbrev pub Local : Items → List ℕ → Type 0
Local t U = (τ τ' : Valuation) → SameOn U τ τ' → Meets t τ → Meets t τ'

-- The items a pass after H and t, or they stop with the finding f at the node m.
abbrev pub Goes : Items → Items → Items → Type 0
Goes H t a = Passes a (MeetsIn (H ⨾ t))

abbrev pub Stops : Items → Items → Items → ℕ → ℕ → Type 0
Stops H t a f m = Refuses a (MeetsIn (H ⨾ t)) f m

-- Cell i is the cell of an unknown, or has one type in every solution.
abbrev pub Accounted : List ℕ → List ℕ → ℕ → Pairs ℕ → Pairs ℕ → ℕ → Type 0
Accounted s d n P₀ ρ i = ((x : ℕ) × InP x i ρ) ⊎ ((g : Ty) × ((σ : ℕ → Ty) → Solution s d n P₀ σ → σ i ≡ g))

pub record Piece (s d : List ℕ) (n : ℕ) (P₀ : Pairs ℕ) (H t : Items) (U₀ U : List ℕ) (ρ : Pairs ℕ) : Type 0 where
  pub L : Pairs ℕ
  pub solved : Solved s n P₀ L
  pub pinned : Pinned s d n
  pub tracked : AllP (λ x c. In x U × (c < n)) ρ
  pub more : (x : ℕ) → In x U₀ → In x U
  pub local : Local (H ⨾ t) U
  pub sound : (τ : Valuation) → Meets (H ⨾ t) τ → (σ : ℕ → Ty) × Solution s d n P₀ σ × Matches ρ τ σ
  -- every solution belongs to a valuation, whatever a valuation that meets H says of the unknowns before
  pub complete : (σ : ℕ → Ty) → Solution s d n P₀ σ → (τ₀ : Valuation) → Meets H τ₀ → (τ : Valuation) × Meets (H ⨾ t) τ × Matches ρ τ σ × SameOn U₀ τ τ₀
  pub some : (σ : ℕ → Ty) × Solution s d n P₀ σ
  pub start : (τ : Valuation) × Meets H τ
  pub opened : Passes H Any
  pub passes : Passes t (MeetsIn H)
  pub agree : (τ τ' : Valuation) → Agree t τ τ' ↔ AllP (λ x c. τ x ≡ τ' x) ρ
  pub open_cells : (i : ℕ) → i < n → tag_at (frozen s) i ≡ 0 → Accounted s d n P₀ ρ i

-- The cell c has the type of the term a, in every solution and valuation that belong together.
abbrev pub Denotes : List ℕ → List ℕ → ℕ → Pairs ℕ → Items → Items → Pairs ℕ → ℕ → Term → Type 0
Denotes s d n P₀ H t ρ c a = (τ : Valuation) → Meets (H ⨾ t) τ → (σ : ℕ → Ty) → Solution s d n P₀ σ → Matches ρ τ σ → σ c ≡ under τ a

-- A later state of the same piece: what held of cells and unknowns holds.
pub record Later (s s' d : List ℕ) (n n' : ℕ) (P₀ P₀' : Pairs ℕ) (H t t' : Items) (ρ ρ' : Pairs ℕ) : Type 0 where
  pub solutions : (σ : ℕ → Ty) → Solution s' d n' P₀' σ → Solution s d n P₀ σ
  pub items : (τ : Valuation) → Meets (H ⨾ t') τ → Meets (H ⨾ t) τ
  pub unknowns : (τ : Valuation) (σ : ℕ → Ty) → Matches ρ' τ σ → Matches ρ τ σ

-- Between pieces: the items H pass, some valuation meets them, and they depend on the unknowns U alone.
pub record Steady (H : Items) (U : List ℕ) : Type 0 where
  pub passes : Passes H Any
  pub local : Local H U
  pub some : (τ : Valuation) × Meets H τ

-- Every valuation that meets H can be changed outside U to one that meets c too.
abbrev pub Extends : Items → Items → List ℕ → Type 0
Extends H c U = (τ : Valuation) → Meets H τ → (τ' : Valuation) × Meets (H ⨾ c) τ' × SameOn U τ' τ

-- ITEMS BETWEEN PIECES: c passes after H, some valuation meets both, and nothing said before changes. U' are the unknowns mentioned then, the new ones Mine.
pub record Walked (H c : Items) (U U' : List ℕ) (Mine : ℕ → Type 0) : Type 0 where
  pub goes : Passes c (MeetsIn H)
  pub steady : Steady (H ⨾ c) U'
  pub extends : Extends H c U
  pub wider : (x : ℕ) → In x U → In x U'
  pub new : (x : ℕ) → In x U' → In x U ⊎ Mine x

-- The term a has the type g in every valuation that meets H.
abbrev pub Settled : Items → Term → Ty → Type 0
Settled H a g = (τ : Valuation) → Meets H τ → under τ a ≡ g
