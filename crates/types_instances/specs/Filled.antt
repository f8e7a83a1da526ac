-- Types with actuals for their parameters, from words: what is asked and promised.
use Rattle.std.specs.Prelude.{◌≡◌, List, [], ◌∷◌, ℕ, zero, suc, ◌+◌, ◌≤◌, ◌<◌, ◌^◌, length}
use Rattle.types_rules.specs.Types.{Ty, Tys, tnil, tcons, size}
use Rattle.types_rules.specs.Words.{words}
use Rattle.types_cells.specs.Settled.{heap, Reads, Areas}
use Rattle.types_solver.specs.Sizes.{cap}
use Rattle.types_solver.specs.Written.{Wrote}
use Rattle.types_instances.specs.Fill.{nth_type, actual_type, fill}

-- The words of the actuals' types hs stand at the places of the row, in order.
abbrev pub Row : List ℕ → List ℕ → Tys → Type 0
Row H [] tnil = Unit {0}
Row H [] (tcons h hs) = ⊥
Row H (q ∷ row) tnil = ⊥
Row H (q ∷ row) (tcons h hs) = Reads H q h × Row H row hs

-- The place of the i-th actual's type plus 1, and 0 where there is none.
unfoldable pub place_of : List ℕ → ℕ → ℕ
place_of [] i = 0
place_of (q ∷ row) zero = 0
place_of (q ∷ row) (suc zero) = suc q
place_of (q ∷ row) (suc (suc i)) = place_of row (suc i)

-- The areas, and a row of actuals.
pub record Actuals (s d row : List ℕ) : Type 0 where
  pub areas : Areas s d
  pub types : Tys
  pub stand : Row (heap s d) row types

-- The size of what the parameter i becomes.
pub record ActualSize (s d row : List ℕ) (i v : ℕ) : Type 0 where
  pub is : (hs : Tys) → Row (heap s d) row hs → v ≡ cap (size (actual_type (nth_type hs i) i tnil))
  pub few : v ≤ 33

-- A type stands at p, and a row of actuals.
pub record Filling (s d : List ℕ) (p : ℕ) (row : List ℕ) : Type 0 where
  pub actuals : Actuals s d row
  pub type : Ty
  pub reads : Reads (heap s d) p type

-- The size of the type at p with the actuals for its parameters.
pub record FilledSize (s d : List ℕ) (p : ℕ) (row : List ℕ) (v : ℕ) : Type 0 where
  pub is : (g : Ty) (hs : Tys) → Reads (heap s d) p g → Row (heap s d) row hs → v ≡ cap (size (fill hs g))
  pub few : v ≤ 33

-- The same with room for its words from `at` on, as far as numbers reach.
pub record FillWriting (s d : List ℕ) (p : ℕ) (row : List ℕ) (at : ℕ) : Type 0 where
  pub filling : Filling s d p row
  pub room : at + length (words (fill filling.actuals.types filling.type)) < 2 ^ 40

-- The words of the type at p, with the actuals for its parameters, stand at `at`.
pub record FillWrote (s d : List ℕ) (p : ℕ) (row out out' : List ℕ) (at e : ℕ) : Type 0 where
  pub is : (g : Ty) (hs : Tys) → Reads (heap s d) p g → Row (heap s d) row hs → Wrote out out' at e (words (fill hs g))
