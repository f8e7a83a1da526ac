-- What the functions of a piece ask and promise. The ghost values are those of any reading of the store: a function asks that there is one, and promises
-- for each.
use Rattle.std.specs.Prelude.{◌≡◌, List, [], ◌∷◌, ◌⊎◌, ℕ, ◌+◌, ◌*◌, ◌≤◌, ◌<◌, ◌^◌, length}
use Rattle.types_rules.specs.Equations.{In, InP, Pairs, end, pair}
use Rattle.types_rules.specs.Types.{Term, Each}
use Rattle.checker_rules.specs.Unknowns.{slot}
use Rattle.checker_rules.specs.Items.{Items, ◌⨾◌, equations}
use Rattle.types_cells.specs.Layout.{max_pending, frozen_size, max_cells}
use Rattle.types_cells.specs.Store.{frozen, load}
use Rattle.types_cells.specs.Settled.{lower}
use Rattle.types_cells.specs.Calls.{Above}
use Rattle.types_solver.specs.Equation.{pairs_with, Within}
use Rattle.checker_pieces.specs.Piece.{Piece, Denotes, Later, Goes, Stops}

pub record Ghost : Type 0 where
  pub equations : Pairs ℕ
  pub before : Items
  pub items : Items
  pub known : List ℕ
  pub mentioned : List ℕ
  pub cells : Pairs ℕ

-- The piece G stands in the store s of n cells, whose runs end at `top`.
pub record Stands (s d : List ℕ) (n top : ℕ) (G : Ghost) : Type 0 where
  pub piece : Piece s d n G.equations G.before G.items G.known G.mentioned G.cells
  pub above : Above (frozen s) n top
  pub few : length d < 2 ^ 31

pub record StandsReady (s d : List ℕ) (n top : ℕ) : Type 0 where
  pub ghost : Ghost
  pub stands : Stands s d n top ghost

-- The same where the function does not look at the runs, nor at the cells l and y, y + k, .. beyond their being among the n.
pub record Comparing (s d : List ℕ) (n : ℕ) (l : List ℕ) (y k : ℕ) : Type 0 where
  pub top : ℕ
  pub ready : StandsReady s d n top
  pub made : Within n l y k
  pub step : k ≤ 2

-- The cells that the rule of one node makes, at most.
abbrev pub node_cells : ℕ
node_cells = 40

-- Room for x cells more, of two words each.
pub record Room (s : List ℕ) (n top x : ℕ) : Type 0 where
  pub cells : n + x ≤ max_cells
  pub words : top + 2 * x ≤ frozen_size
  pub fit : load (frozen s) n + 2 * x < max_pending

-- The term a is the type of the cell c, which is one of the n.
pub record Cell (s d : List ℕ) (n : ℕ) (G : Ghost) (c : ℕ) (a : Term) : Type 0 where
  pub made : c < n
  pub denotes : Denotes s d n G.equations G.before G.items G.cells c a
  pub over : Each (λ x. In x G.mentioned) a

-- No unknown of node k is mentioned yet.
abbrev pub Unvisited : ℕ → Ghost → Type 0
Unvisited k G = (j : ℕ) → j < 8 → In (slot k j) G.mentioned → ⊥

-- The piece with the items `own` more.
pub record Advanced (s s' d : List ℕ) (n top n' top' : ℕ) (G : Ghost) (own : Items) (Mine : ℕ → Type 0) : Type 0 where
  pub equations : Pairs ℕ
  pub mentioned : List ℕ
  pub cells : Pairs ℕ
  pub wide : n ≤ n'
  pub goes : Goes G.before G.items own
  pub piece : Piece s' d n' equations G.before (G.items ⨾ own) G.known mentioned cells
  pub above : Above (frozen s') n' top'
  pub later : Later s s' d n n' G.equations equations G.before G.items (G.items ⨾ own) G.cells cells
  pub wider : (x : ℕ) → In x G.mentioned → In x mentioned
  pub new : (x : ℕ) → In x mentioned → In x G.mentioned ⊎ Mine x

-- The unknowns of node k.
abbrev pub SlotOf : ℕ → ℕ → Type 0
SlotOf k x = (j : ℕ) × (j < 8) × (x ≡ slot k j)

-- The room that is left when x cells were used.
abbrev pub Uses : List ℕ → List ℕ → ℕ → ℕ → ℕ → ℕ → ℕ → Type 0
Uses s s' n top n' top' x = (y : ℕ) → Room s n top (x + y) → Room s' n' top' y

-- A NODE'S RULE: number 0, the items `own` pass, and the cell has the type of node k; otherwise they stop with this number at k.
pub record Ruled (s s' d : List ℕ) (n top k number cell n' top' : ℕ) (G : Ghost) (own : Items) : Type 0 where
  pub stops : (number ≡ 0 → ⊥) → Stops G.before G.items own number k
  pub goes : number ≡ 0 → Advanced s s' d n top n' top' G own (SlotOf k)
  pub typed : (e : number ≡ 0) → InP (slot k 0) cell (goes e).cells

-- R of each of the cells l and its term, and of y, y + k, .. and theirs: the terms of an equation stand in a pair.
unfoldable pub SidesBy : (ℕ → Term → Type 0) → List ℕ → ℕ → ℕ → Pairs Term → Type 0
SidesBy R [] y k end = Unit {0}
SidesBy R [] y k (pair a b es) = ⊥
SidesBy R (c ∷ l) y k end = ⊥
SidesBy R (c ∷ l) y k (pair a b es) = R c a × R y b × SidesBy R l (y + k) k es

-- The equations es are those of the cells l with y, y + k, ..
abbrev pub Sides : List ℕ → List ℕ → ℕ → Ghost → List ℕ → ℕ → ℕ → Pairs Term → Type 0
Sides s d n G l y k es = SidesBy (Cell s d n G) l y k es

-- EQUAL: these equations, all together. Number 0: they pass; otherwise they stop with this number at any node m.
pub record Equated (s s' d : List ℕ) (n : ℕ) (l : List ℕ) (y k number : ℕ) : Type 0 where
  pub low : lower s' ≡ lower s
  pub still : frozen s' ≡ frozen s
  pub goes : number ≡ 0 → (top : ℕ) (G : Ghost) → Stands s d n top G → (es : Pairs Term) → Sides s d n G l y k es → (m : ℕ) →
      Goes G.before G.items (equations m es)
      × Piece s' d n (pairs_with l y k G.equations) G.before (G.items ⨾ equations m es) G.known G.mentioned G.cells
      × Later s s' d n n G.equations (pairs_with l y k G.equations) G.before G.items (G.items ⨾ equations m es) G.cells G.cells
  pub stops : (number ≡ 0 → ⊥) → (top : ℕ) (G : Ghost) → Stands s d n top G → (es : Pairs Term) → Sides s d n G l y k es → (m : ℕ) →
      Stops G.before G.items (equations m es) number m
