-- Settled cells: an unknown cell whose link word refers to type words. The words stand in the caller's part of the area (places below dictionary_at) or in the
-- dictionary d (place dictionary_at + k is word k of d).
use Rattle.std.specs.Prelude.{◌≡◌, Bool, true, false, List, ◌++◌, map, ℕ, zero, suc, ◌+◌, ◌-◌, ◌≤◌, ◌<◌, ◌^◌, eqb, length, get_or, take, drop}
use Rattle.types_rules.specs.Former.{Former}
use Rattle.types_rules.specs.Trees.{Extent, finite, Tree, build, whole}
use Rattle.types_rules.specs.Types.{Ty}
use Rattle.types_rules.specs.Formed.{WellFormed}
use Rattle.std.proofs.Math.Option.{Option, some, none}
use Rattle.types_rules.specs.Component.{component_type}
use Rattle.types_rules.specs.Words.{words}
use Rattle.types_rules.specs.Equations.{Pairs, Solves}
use Rattle.types_rules.specs.Follows.{shape, unk}
use Rattle.types_cells.specs.Layout.{pool_size, links_at, marks_at, settled_from, first_run, area_size}
use Rattle.types_cells.specs.Store.{frozen, link_at, tag_at, view, load, Held, Solved}
use Rattle.types_cells.specs.Calls.{Above, Tells, Making}

unfoldable pub lower : List ℕ → List ℕ
lower s = take pool_size s

unfoldable pub heap : List ℕ → List ℕ → List ℕ
heap s d = lower s ++ d

-- The words of the type g stand at the place p.
pub record Reads (H : List ℕ) (p : ℕ) (g : Ty) : Type 0 where
  pub formed : WellFormed g
  pub after : List ℕ
  pub words_at : drop p H ≡ words g ++ after

pub record Readable (H : List ℕ) (p : ℕ) : Type 0 where
  pub type : Ty
  pub reads : Reads H p type

-- What a function that reads type words asks of the two areas.
pub record Areas (s d : List ℕ) : Type 0 where
  pub size : length s ≡ area_size
  pub few : length d < 2 ^ 32

pub record Reading (s d : List ℕ) (p : ℕ) : Type 0 where
  pub areas : Areas s d
  pub readable : Readable (heap s d) p

-- By the tag: the words before the parts, the words of a part's name.
unfoldable pub lead_words : ℕ → ℕ
lead_words zero = 2
lead_words (suc zero) = 1
lead_words (suc (suc zero)) = 2
lead_words (suc (suc (suc zero))) = 1
lead_words (suc (suc (suc (suc t)))) = 2

unfoldable pub name_words : ℕ → ℕ
name_words t = elim (eqb t 5) [ true ↦ 1 | false ↦ 0 ]

-- The number of parts, by the tag and the word after it.
unfoldable pub parts_of : ℕ → ℕ → ℕ
parts_of zero v = 0
parts_of (suc zero) v = 0
parts_of (suc (suc zero)) v = 0
parts_of (suc (suc (suc zero))) v = 1
parts_of (suc (suc (suc (suc zero)))) v = v
parts_of (suc (suc (suc (suc (suc zero))))) v = v
parts_of (suc (suc (suc (suc (suc (suc t)))))) v = 0

-- The type at p ends at e.
pub record Ends (s d : List ℕ) (p e : ℕ) : Type 0 where
  pub is : (g : Ty) → Reads (heap s d) p g → e ≡ p + length (words g)

-- The link word of cell i.
unfoldable pub word_at : List ℕ → ℕ → ℕ
word_at s i = get_or s (links_at + i) 0

-- Settled cells are unknowns, and refer to type words.
pub record Pinned (s d : List ℕ) (n : ℕ) : Type 0 where
  pub reads : (i : ℕ) → i < n → settled_from ≤ word_at s i → Readable (heap s d) (word_at s i - settled_from)
  pub bare : (i : ℕ) → i < n → settled_from ≤ word_at s i → tag_at (frozen s) i ≡ 0

-- σ gives each settled cell the type that it refers to. Here and below ε says whether σ gives types, or possibly infinite types (types_rules, specs/Trees).
abbrev pub ObeysIn : (ε : Extent) → List ℕ → List ℕ → ℕ → (ℕ → Tree ε) → Type 0
ObeysIn ε s d n σ = (i : ℕ) → i < n → settled_from ≤ word_at s i → (g : Ty) → Reads (heap s d) (word_at s i - settled_from) g → σ i ≡ whole ε g

abbrev pub Obeys : List ℕ → List ℕ → ℕ → (ℕ → Ty) → Type 0
Obeys s d n σ = ObeysIn finite s d n σ

-- σ gives each cell with a former the type that its parts make.
abbrev pub FitsIn : (ε : Extent) → List ℕ → ℕ → (ℕ → Tree ε) → Type 0
FitsIn ε w n σ = (i : ℕ) (h : Former) (cs : List ℕ) → view w n i ≡ shape h cs → σ i ≡ build ε h (map σ cs)

abbrev pub Fits : List ℕ → ℕ → (ℕ → Ty) → Type 0
Fits w n σ = FitsIn finite w n σ

pub record Readings (s d : List ℕ) (p q : ℕ) : Type 0 where
  pub areas : Areas s d
  pub left : Readable (heap s d) p
  pub right : Readable (heap s d) q

-- The answer tells whether the types at p and q are one.
pub record SameType (s d : List ℕ) (p q : ℕ) (b : Bool) : Type 0 where
  pub tells : (g k : Ty) → Reads (heap s d) p g → Reads (heap s d) q k → Tells b (g ≡ k)

-- Only link words of cells changed, and no link.
pub record Kept (s s' : List ℕ) : Type 0 where
  pub size : length s' ≡ length s
  pub low : lower s' ≡ lower s
  pub still : frozen s' ≡ frozen s
  pub links : (i : ℕ) → link_at s' i ≡ link_at s i
  pub rest : (i : ℕ) → marks_at ≤ i → get_or s' i 0 ≡ get_or s i 0

-- What `pin` asks: a store with settled cells, and the place of a type.
pub record Pinning (s d : List ℕ) (c p : ℕ) : Type 0 where
  pub n : ℕ
  pub L : Pairs ℕ
  pub held : Held s n L
  pub pinned : Pinned s d n
  pub made : c < n
  pub few : length d < 2 ^ 31
  pub readable : Readable (heap s d) p

-- σ obeys s' exactly where it obeys s and gives c the type g.
pub record Adds (ε : Extent) (s s' d : List ℕ) (n : ℕ) (c : ℕ) (g : Ty) (σ : ℕ → Tree ε) : Type 0 where
  pub before : ObeysIn ε s' d n σ → ObeysIn ε s d n σ
  pub type : ObeysIn ε s' d n σ → σ c ≡ whole ε g
  pub after : ObeysIn ε s d n σ → σ c ≡ whole ε g → ObeysIn ε s' d n σ

-- Cell c is given the type at p. True: the solutions are those before that give c this type. False: there is none.
pub record Pin (s s' d : List ℕ) (c p : ℕ) (fine : Bool) : Type 0 where
  pub kept : Kept s s'
  pub pinned : fine ≡ true → (n : ℕ) (L : Pairs ℕ) → Held s n L → Pinned s d n → c < n → Pinned s' d n
  pub goes : fine ≡ true → (n : ℕ) (L : Pairs ℕ) → Held s n L → Pinned s d n → c < n → (g : Ty) → Reads (heap s d) p g →
      (ε : Extent) (σ : ℕ → Tree ε) → FitsIn ε (frozen s) n σ → Solves σ L → Adds ε s s' d n c g σ
  pub stops : fine ≡ false → (n : ℕ) (L : Pairs ℕ) → Held s n L → Pinned s d n → c < n → (g : Ty) → Reads (heap s d) p g →
      (ε : Extent) (σ : ℕ → Tree ε) → FitsIn ε (frozen s) n σ → Solves σ L → ObeysIn ε s d n σ → σ c ≡ whole ε g → ⊥

-- The same for an unknown that is its own representative.
pub record Settling (s d : List ℕ) (r p : ℕ) : Type 0 where
  pub pinning : Pinning s d r p
  pub open_cell : tag_at (frozen s) r ≡ 0
  pub root : link_at s r ≡ 0

-- A settled type may enter as cell n.
pub record Entering (s d : List ℕ) (n p : ℕ) : Type 0 where
  pub making : Making s n 0 0 first_run 0
  pub pinned : Pinned s d n
  pub few : length d < 2 ^ 31
  pub readable : Readable (heap s d) p

-- Cell n is made, and refers to the type at p: the solutions are those before, with that type at n.
pub record Entered (s s' d : List ℕ) (n p : ℕ) : Type 0 where
  pub low : lower s' ≡ lower s
  pub grown : (P₀ L : Pairs ℕ) → Solved s n P₀ L → Solved s' (suc n) P₀ L
  pub old : (i : ℕ) → i < n → view (frozen s') (suc n) i ≡ view (frozen s) n i
  pub new : view (frozen s') (suc n) n ≡ unk
  pub pinned : Pinned s d n → Pinned s' d (suc n)
  pub before : (σ : ℕ → Ty) → Obeys s' d (suc n) σ → Obeys s d n σ
  pub type : (g : Ty) → Reads (heap s d) p g → (σ : ℕ → Ty) → Obeys s' d (suc n) σ → σ n ≡ g
  pub after : (g : Ty) → Reads (heap s d) p g → (σ : ℕ → Ty) → Obeys s d n σ → σ n ≡ g → Obeys s' d (suc n) σ
  pub fit : load (frozen s') (suc n) ≡ load (frozen s) n + 1
  pub above : (top : ℕ) → Above (frozen s) n top → Above (frozen s') (suc n) top

-- The type of the option stands at r.
pub record FoundType (H : List ℕ) (r : ℕ) (o : Option Ty) : Type 0 where
  pub type : Ty
  pub is : o ≡ some type
  pub reads : Reads H r type

-- The component id of the type at p: r is the place of its type, and 0 where there is none (the place 0 is never the type of a component).
pub record Component (s d : List ℕ) (p id r : ℕ) : Type 0 where
  pub none : r ≡ 0 → (g : Ty) → Reads (heap s d) p g → component_type id g ≡ none
  pub some : (r ≡ 0 → ⊥) → (g : Ty) → Reads (heap s d) p g → FoundType (heap s d) r (component_type id g)
