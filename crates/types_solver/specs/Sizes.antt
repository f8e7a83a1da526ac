-- Marks: which cells have finite types, and how large they are.
use Rattle.std.specs.Prelude.{◌≡◌, Bool, true, false, List, map, ℕ, zero, suc, ◌+◌, ◌-◌, ◌≤◌, ◌<◌, ◌^◌, eqb, ltb, length, get_or}
use Rattle.types_rules.specs.Classes.{rep}
use Rattle.types_rules.specs.Equations.{In, Pairs, Solves}
use Rattle.types_rules.specs.Finite.{bounded, from_list, type_of}
use Rattle.types_rules.specs.Follows.{shape}
use Rattle.types_rules.specs.Former.{Former, int}
use Rattle.types_rules.specs.Types.{Ty, node, size, tnil}
use Rattle.types_cells.specs.Layout.{max_cells, marks_at, settled_from}
use Rattle.types_cells.specs.Store.{frozen, link_at, tag_at, count_at, parts_at, view, free, Held, Solved}
use Rattle.types_cells.specs.Settled.{lower, heap, word_at, Reads, Pinned, Obeys, Fits}

-- Sizes stop at 33.
unfoldable pub cap : ℕ → ℕ
cap x = elim (ltb x 33) [ true ↦ x | false ↦ 33 ]

-- The size of the type at the place p.
pub record TypeSize (s d : List ℕ) (p v : ℕ) : Type 0 where
  pub is : (g : Ty) → Reads (heap s d) p g → v ≡ cap (size g)
  pub few : v ≤ 33

unfoldable pub mark_at : List ℕ → ℕ → ℕ
mark_at s i = get_or s (marks_at + i) 0

-- The cells with no mark.
unfoldable pub bare : List ℕ → ℕ → ℕ
bare s zero = 0
bare s (suc i) = free (mark_at s i) 1 + bare s i

-- The number of parts, by the tag: an unknown has none.
unfoldable pub arity_of : ℕ → ℕ → ℕ
arity_of zero k = 0
arity_of (suc t) k = k

abbrev pub arity_at : List ℕ → ℕ → ℕ
arity_at w r = arity_of (tag_at w r) (count_at w r)

-- The type of cell i, with ℤ for what is unknown, under the links L.
unfoldable pub type_at : List ℕ → ℕ → Pairs ℕ → ℕ → Ty
type_at w n L i = type_of (rep eqb L) (view w n) (λ j. node int tnil) n i

-- Cell i has a finite type, and v is its size, at most 33.
pub record Sized (w : List ℕ) (n : ℕ) (L : Pairs ℕ) (i v : ℕ) : Type 0 where
  pub finite : bounded (rep eqb L) (view w n) n i ≡ true
  pub size : v ≡ cap (size (type_at w n L i))

-- Marks of cells that have been visited are right; 34 marks those that are being visited.
pub record Marks (s : List ℕ) (n : ℕ) (L : Pairs ℕ) : Type 0 where
  pub right : (i : ℕ) → i < n → (mark_at s i ≡ 0 → ⊥) → (mark_at s i ≡ 34 → ⊥) → Sized (frozen s) n L i (mark_at s i)

-- Cells and links are kept.
pub record Same (s s' : List ℕ) : Type 0 where
  pub size : length s' ≡ length s
  pub still : frozen s' ≡ frozen s
  pub links : (i : ℕ) → i < max_cells → link_at s' i ≡ link_at s i
  pub low : lower s' ≡ lower s
  pub refs : (i : ℕ) → i < max_cells → word_at s' i ≡ word_at s i

pub record Read (s : List ℕ) (n : ℕ) : Type 0 where
  pub L : Pairs ℕ
  pub held : Held s n L

-- m is one number for each class, and falls from a former to its parts: the sizes of a solution do so.
pub record Falls (w : List ℕ) (n : ℕ) (L : Pairs ℕ) (m : ℕ → ℕ) : Type 0 where
  pub classes : (i : ℕ) → m (rep eqb L i) ≡ m i
  pub parts : (r : ℕ) → r < n → 0 < tag_at w r → (c : ℕ) → In c (parts_at w r) → m c < m r

-- From s to s' cells were marked, and the visits that began since have ended.
pub record Onward (s s' : List ℕ) : Type 0 where
  pub same : Same s s'
  pub fewer : bare s' max_cells ≤ bare s max_cells
  pub kept : (i : ℕ) → (mark_at s i ≡ 0 → ⊥) → mark_at s' i ≡ mark_at s i
  pub ended : (i : ℕ) → mark_at s' i ≡ 34 → mark_at s i ≡ 34

-- The cell r has been visited.
pub record Reached (s s' : List ℕ) (r : ℕ) : Type 0 where
  pub onward : Onward s s'
  pub marked : mark_at s' r ≡ 0 → ⊥
  pub done : mark_at s' r ≡ 34 → ⊥
  pub marks : (n : ℕ) (L : Pairs ℕ) → Held s n L → r < n → Marks s n L → Marks s' n L

-- THE VISIT of cell r. False: a cell was met below itself, so that no m falls in this way.
pub record Visited (s s' : List ℕ) (r : ℕ) (fine : Bool) : Type 0 where
  pub same : Same s s'
  pub goes : fine ≡ true → Reached s s' r
  pub stops : fine ≡ false → (n : ℕ) (L : Pairs ℕ) → Held s n L → r < n → (m : ℕ → ℕ) → Falls (frozen s) n L m → ((i : ℕ) → i < n → mark_at s i ≡ 34 → m r < m i) → ⊥

-- No cell is being visited.
abbrev pub Calm : List ℕ → ℕ → Type 0
Calm s n = (i : ℕ) → i < n → mark_at s i ≡ 34 → ⊥

-- The visits of the n cells.
pub record Visits (s s' : List ℕ) (n : ℕ) (fine : Bool) : Type 0 where
  pub same : Same s s'
  pub goes : fine ≡ true → (L : Pairs ℕ) → Held s n L → Marks s n L → (i : ℕ) → i < n → Sized (frozen s) n L i (mark_at s' i)
  pub stops : fine ≡ false → (L : Pairs ℕ) → Held s n L → Calm s n → (m : ℕ → ℕ) → Falls (frozen s) n L m → ⊥

pub record Cleared (s s' : List ℕ) (n : ℕ) : Type 0 where
  pub same : Same s s'
  pub none : (i : ℕ) → i < n → mark_at s' i ≡ 0

-- A solution in finite types of the cells, and of the equations P₀.
pub record Solution (w : List ℕ) (n : ℕ) (P₀ : Pairs ℕ) : Type 0 where
  pub σ : ℕ → Ty
  pub fits : (i : ℕ) (h : Former) (cs : List ℕ) → view w n i ≡ shape h cs → σ i ≡ node h (from_list (map σ cs))
  pub sat : Solves σ P₀

-- THE TEST FOR FINITE TYPES. True: each cell has its size, where a cell without a former counts 1. False: the equations have no solution.
pub record TestedFinite (s s' : List ℕ) (n : ℕ) (fine : Bool) : Type 0 where
  pub same : Same s s'
  pub still : frozen s' ≡ frozen s
  pub grown : (P₀ L : Pairs ℕ) → Solved s n P₀ L → Solved s' n P₀ L
  pub sizes : fine ≡ true → (P₀ L : Pairs ℕ) → Solved s n P₀ L → (i : ℕ) → i < n → Sized (frozen s) n L i (mark_at s' i)
  pub solves : fine ≡ true → (P₀ L : Pairs ℕ) → Solved s n P₀ L → Solution (frozen s) n P₀
  pub endless : fine ≡ false → (P₀ L : Pairs ℕ) → Solved s n P₀ L → Solution (frozen s) n P₀ → ⊥

-- `finite` has answered true.
pub record Marked (s : List ℕ) (n : ℕ) (L : Pairs ℕ) : Type 0 where
  pub held : Held s n L
  pub sizes : (i : ℕ) → i < n → Sized (frozen s) n L i (mark_at s i)

-- σ is a solution.
pub record Model (s d : List ℕ) (n : ℕ) (L : Pairs ℕ) (σ : ℕ → Ty) : Type 0 where
  pub marked : Marked s n L
  pub pinned : Pinned s d n
  pub fits : Fits (frozen s) n σ
  pub sat : Solves σ L
  pub obeys : Obeys s d n σ

-- σ gives types of size 1 to the cells that are left open.
abbrev pub Least : List ℕ → ℕ → (ℕ → Ty) → Type 0
Least s n σ = (i : ℕ) → i < n → tag_at (frozen s) i ≡ 0 → link_at s i ≡ 0 → word_at s i < settled_from → size (σ i) ≡ 1

-- The size of the unknown r, which is no link.
pub record UnknownSize (s d : List ℕ) (r v : ℕ) : Type 0 where
  pub free : word_at s r < settled_from → v ≡ 1
  pub settled : settled_from ≤ word_at s r → TypeSize s d (word_at s r - settled_from) v
  pub few : v ≤ 33

pub record Measuring (s d : List ℕ) (i : ℕ) : Type 0 where
  pub n : ℕ
  pub L : Pairs ℕ
  pub marked : Marked s n L
  pub pinned : Pinned s d n
  pub made : i < n
  pub few : length d < 2 ^ 31

-- The size of the type of cell i, at most 33, where the cells that are left open count 1.
pub record Measured (s d : List ℕ) (i v : ℕ) : Type 0 where
  pub is : (n : ℕ) (L : Pairs ℕ) (σ : ℕ → Ty) → Model s d n L σ → Least s n σ → i < n → v ≡ cap (size (σ i))
  pub few : v ≤ 33
