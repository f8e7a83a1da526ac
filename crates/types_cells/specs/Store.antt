-- The store of cells, in the caller's work area (specs/Layout has the places and how they follow from the capacity):
--   0          the pool, the caller's part: scopes, signatures, and type words that cells refer to
--   links_at    link of cell i: 0 none, j + 1 to cell j; settled_from + p: the cell is settled, and its type words stand at the place p
--   marks_at    mark of cell i: 0 not marked, 34 being visited, else the size of its type, at most 33
--   pairs_at    pending pairs, two words each
--   records_at  cell i at 4 i: tag, argument, first part, number of parts     (from here on: the frozen part, which no solving changes)
--   runs_at     runs: the parts of cells, the identifiers of bindings; places in it count from records_at
-- Tags are those of type words: 1 ℤ, 2 given, 3 power, 4 product, 5 binding (argument: the place of its identifiers), 6 parameter; 0 is an unknown.
use Rattle.std.specs.Prelude.{◌≡◌, true, false, List, ℕ, zero, suc, ◌+◌, ◌*◌, ◌≤◌, ◌<◌, eqb, ltb, length, get_or, take, drop}
use Rattle.std.proofs.Math.Option.{Option, some, none}
use Rattle.types_rules.specs.Classes.{Closed, Wf, next}
use Rattle.types_rules.specs.Equations.{AllP, In, Pairs, end, pair}
use Rattle.types_rules.specs.Follows.{Follows, View, shape, unk}
use Rattle.types_rules.specs.Former.{former_of, Former}
use Rattle.types_cells.specs.Layout.{max_cells, max_pending, links_at, pairs_at, seconds_at, records_at, settled_from, first_run, area_size}

unfoldable pub frozen : List ℕ → List ℕ
frozen s = drop records_at s

-- A link word that is no link leaves the cell a representative.
unfoldable pub link_part : ℕ → ℕ
link_part v = elim (ltb v settled_from) [ true ↦ v | false ↦ 0 ]

unfoldable pub link_at : List ℕ → ℕ → ℕ
link_at s i = link_part (get_or s (links_at + i) 0)

-- Word j of cell i.
unfoldable pub field_at : List ℕ → ℕ → ℕ → ℕ
field_at w i j = get_or w (4 * i + j) 0

abbrev pub tag_at : List ℕ → ℕ → ℕ
tag_at w i = field_at w i 0

abbrev pub arg_at : List ℕ → ℕ → ℕ
arg_at w i = field_at w i 1

abbrev pub first_at : List ℕ → ℕ → ℕ
first_at w i = field_at w i 2

abbrev pub count_at : List ℕ → ℕ → ℕ
count_at w i = field_at w i 3

unfoldable pub run : List ℕ → ℕ → ℕ → List ℕ
run w at k = take k (drop at w)

abbrev pub parts_at : List ℕ → ℕ → List ℕ
parts_at w i = run w (first_at w i) (count_at w i)

unfoldable pub former_at : List ℕ → ℕ → Former
former_at w i = former_of (tag_at w i) (arg_at w i) (run w (arg_at w i) (count_at w i))

unfoldable pub view_of : ℕ → Former → List ℕ → View ℕ
view_of zero h ps = unk
view_of (suc t) h ps = shape h ps

-- The nodes of the theory are the numbers of cells. Past the last cell there are unknowns.
unfoldable pub view : List ℕ → ℕ → ℕ → View ℕ
view w n i = elim (ltb i n) [ true ↦ view_of (tag_at w i) (former_at w i) (parts_at w i) | false ↦ unk ]

-- What a cell keeps to: its runs lie in the area, its parts are older, a power has one part, and equal formers have equal words.
pub record Cell (w : List ℕ) (i : ℕ) : Type 0 where
  pub tags : tag_at w i ≤ 6
  pub plain : tag_at w i < 2 → arg_at w i ≡ 0
  pub powers : tag_at w i ≡ 3 → arg_at w i ≡ 0
  pub products : tag_at w i ≡ 4 → arg_at w i ≡ count_at w i
  pub one : tag_at w i ≡ 3 → count_at w i ≡ 1
  pub low : first_run ≤ first_at w i
  pub room : first_at w i + count_at w i ≤ length w
  pub named_low : tag_at w i ≡ 5 → first_run ≤ arg_at w i
  pub named : tag_at w i ≡ 5 → arg_at w i + count_at w i ≤ length w
  pub older : (c : ℕ) → In c (parts_at w i) → c < i

-- The cells, with their parts.
unfoldable pub load : List ℕ → ℕ → ℕ
load w zero = 0
load w (suc i) = 1 + count_at w i + load w i

unfoldable pub free : ℕ → ℕ → ℕ
free zero x = x
free (suc l) x = 0

-- The same, of the cells that have no link: bounds the merges and the pending pairs.
unfoldable pub weight : List ℕ → ℕ → ℕ
weight s zero = 0
weight s (suc i) = free (link_at s i) (1 + count_at (frozen s) i) + weight s i

unfoldable pub link_of : ℕ → Option ℕ
link_of zero = none
link_of (suc j) = some j

abbrev pub Both : ℕ → ℕ → ℕ → Type 0
Both n a b = (a < n) × (b < n)

-- The area s holds n cells, and the links L.
pub record Held (s : List ℕ) (n : ℕ) (L : Pairs ℕ) : Type 0 where
  pub size : length s ≡ area_size
  pub few : n ≤ max_cells
  pub room : load (frozen s) n < max_pending
  pub cells : (i : ℕ) → i < n → Cell (frozen s) i
  pub links : (i : ℕ) → i < n → next eqb L i ≡ link_of (link_at s i)
  pub wf : Wf eqb L
  pub inside : AllP (Both n) L

-- THE INVARIANT: the links solve the equations P₀ between the cells.
pub record Solved (s : List ℕ) (n : ℕ) (P₀ L : Pairs ℕ) : Type 0 where
  pub held : Held s n L
  pub closed : Closed eqb (view (frozen s) n) P₀ L end
  pub follows : AllP (Follows (view (frozen s) n) P₀) L
  pub asked : AllP (Both n) P₀

-- The k pending pairs, the newest first.
unfoldable pub pending : List ℕ → ℕ → Pairs ℕ
pending s zero = end
pending s (suc k) = pair (get_or s (pairs_at + 2 * k) 0) (get_or s (seconds_at + 2 * k) 0) (pending s k)

-- The invariant while k pairs are pending.
pub record Busy (s : List ℕ) (n : ℕ) (P₀ L : Pairs ℕ) (k : ℕ) : Type 0 where
  pub held : Held s n L
  pub closed : Closed eqb (view (frozen s) n) P₀ L (pending s k)
  pub follows : AllP (Follows (view (frozen s) n) P₀) L
  pub due : AllP (Follows (view (frozen s) n) P₀) (pending s k)
  pub cells : AllP (Both n) (pending s k)
  pub asked : AllP (Both n) P₀
  pub fit : weight s n + k ≤ max_pending
