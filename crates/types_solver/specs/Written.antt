-- A type as words, in prefix order, and the writer's contracts.
use Rattle.std.specs.Prelude.{◌≡◌, true, false, List, [], ◌∷◌, ◌++◌, ℕ, zero, suc, ◌+◌, ◌≤◌, ◌<◌, ◌^◌, eqb, length, get_or}
use Rattle.std.proofs.lemmas.List.Edits.{sets}
use Rattle.types_rules.specs.Classes.{rep}
use Rattle.types_rules.specs.Equations.{Pairs}
use Rattle.types_rules.specs.Words.{second, words}
use Rattle.types_rules.specs.Former.{tag, Former}
use Rattle.types_rules.specs.Types.{Ty}
use Rattle.types_cells.specs.Layout.{max_cells, settled_from}
use Rattle.types_cells.specs.Store.{frozen, tag_at, arg_at, first_at, count_at}
use Rattle.types_cells.specs.Settled.{heap, word_at, Reads}
use Rattle.types_solver.specs.Sizes.{mark_at, Model}

-- The first words of a type whose former has n parts.
abbrev pub lead : Former → ℕ → List ℕ
lead h n = tag h ∷ second h n

-- The same from the words of a cell.
unfoldable pub lead_of : ℕ → ℕ → ℕ → List ℕ
lead_of zero a k = 1 ∷ []
lead_of (suc zero) a k = 1 ∷ []
lead_of (suc (suc zero)) a k = 2 ∷ a ∷ []
lead_of (suc (suc (suc zero))) a k = 3 ∷ []
lead_of (suc (suc (suc (suc zero)))) a k = 4 ∷ a ∷ []
lead_of (suc (suc (suc (suc (suc zero))))) a k = 5 ∷ k ∷ []
lead_of (suc (suc (suc (suc (suc (suc t)))))) a k = 6 ∷ a ∷ []

abbrev pub lead_at : List ℕ → ℕ → List ℕ
lead_at w r = lead_of (tag_at w r) (arg_at w r) (count_at w r)

unfoldable pub name_at : List ℕ → ℕ → ℕ → List ℕ
name_at w r j = elim (eqb (tag_at w r) 5) [ true ↦ get_or w (arg_at w r + j) 0 ∷ [] | false ↦ [] ]

-- The parts from number j on, f of them.
unfoldable pub rest : (ℕ → Ty) → List ℕ → ℕ → ℕ → ℕ → List ℕ
rest T w r j zero = []
rest T w r j (suc f) = name_at w r j ++ (words (T (get_or w (first_at w r + j) 0)) ++ rest T w r (suc j) f)

-- ws stands at `at`, and e is where it ends.
pub record Wrote (out out' : List ℕ) (at e : ℕ) (ws : List ℕ) : Type 0 where
  pub area : out' ≡ sets out at ws
  pub end : e ≡ at + length ws

-- The words of the type at the place p stand at `at`.
pub record Copied (s d out out' : List ℕ) (at p e : ℕ) : Type 0 where
  pub is : (g : Ty) → Reads (heap s d) p g → Wrote out out' at e (words g)

-- Every cell has a former or refers to a type.
abbrev pub Resolved : List ℕ → ℕ → Pairs ℕ → Type 0
Resolved s n L = (i : ℕ) → i < n → tag_at (frozen s) (rep eqb L i) ≡ 0 → settled_from ≤ word_at s (rep eqb L i)

pub record Writing (s d : List ℕ) (at i : ℕ) : Type 0 where
  pub n : ℕ
  pub L : Pairs ℕ
  pub σ : ℕ → Ty
  pub model : Model s d n L σ
  pub resolved : Resolved s n L
  pub made : i < n
  pub few : length d < 2 ^ 31
  pub small : mark_at s i ≤ 32
  pub room : at + length (words (σ i)) < 2 ^ 40

-- The type of cell i in the solution stands at `at`.
abbrev pub Typed : List ℕ → List ℕ → List ℕ → List ℕ → ℕ → ℕ → ℕ → Type 0
Typed s d out out' at i e = (n : ℕ) (L : Pairs ℕ) (σ : ℕ → Ty) → Model s d n L σ → Resolved s n L → i < n → Wrote out out' at e (words (σ i))

pub record Leading (s : List ℕ) (r at : ℕ) : Type 0 where
  pub few : r < max_cells
  pub tags : tag_at (frozen s) r ≤ 6
  pub some : 0 < tag_at (frozen s) r
  pub room : at < 2 ^ 40
