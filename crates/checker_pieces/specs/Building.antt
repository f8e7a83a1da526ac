-- New cells with formers: ℤ, a power, a product. What the functions that build them ask and promise.
use Rattle.std.specs.Prelude.{◌≡◌, List, [], ◌∷◌, map, ℕ, suc, ◌+◌, ◌<◌, length}
use Rattle.types_rules.specs.Equations.{In, InP, Pairs}
use Rattle.types_rules.specs.Finite.{from_list}
use Rattle.types_rules.specs.Former.{Former}
use Rattle.types_rules.specs.Types.{Ty, node, Term, unknown, Terms, nil, cons}
use Rattle.checker_rules.specs.Conditions.{equation}
use Rattle.checker_rules.specs.Items.{Items, ◌⨾◌, fresh}
use Rattle.checker_rules.specs.Unknowns.{power_of}
use Rattle.types_cells.specs.Store.{frozen, load, run, Solved}
use Rattle.types_cells.specs.Calls.{Above}
use Rattle.types_solver.specs.Growth.{Builds}
use Rattle.types_cells.specs.Settled.{lower, Fits}
use Rattle.checker_pieces.specs.Piece.{Stops}
use Rattle.checker_pieces.specs.Stage.{Ghost, Stands, Cell, Advanced, Room, Uses}

-- A former may be built over the cells l of the n, in the room of x cells.
pub record Building (s : List ℕ) (n top x : ℕ) (l : List ℕ) : Type 0 where
  pub P₀ : Pairs ℕ
  pub L : Pairs ℕ
  pub solved : Solved s n P₀ L
  pub above : Above (frozen s) n top
  pub room : Room s n top x
  pub older : (c : ℕ) → In c l → c < n

-- The words l stand in the runs, from `top` on.
pub record Laid (s s' : List ℕ) (n top : ℕ) (l : List ℕ) : Type 0 where
  pub builds : (d : List ℕ) → Builds s s' d n n
  pub above : Above (frozen s') n (top + length l)
  pub words : run (frozen s') top (length l) ≡ l
  pub fit : load (frozen s') n ≡ load (frozen s) n

-- Cell n is the former h of the cells l. It took the room of x cells.
pub record Built (s s' : List ℕ) (n top top' x : ℕ) (h : Former) (l : List ℕ) : Type 0 where
  pub builds : (d : List ℕ) → Builds s s' d n (suc n)
  pub above : Above (frozen s') (suc n) top'
  pub type : (σ : ℕ → Ty) → Fits (frozen s') (suc n) σ → σ n ≡ node h (from_list (map σ l))
  pub uses : Uses s s' n top (suc n) top' x

-- The same for ℤ, which has no words in the runs: these may end anywhere.
pub record Integer (s s' : List ℕ) (n : ℕ) (h : Former) (l : List ℕ) : Type 0 where
  pub built : (top : ℕ) → Above (frozen s) n top → Built s s' n top top 1 h l

-- The terms are the types of the cells, one by one.
unfoldable pub Cells : List ℕ → List ℕ → ℕ → Ghost → List ℕ → Terms → Type 0
Cells s d n G [] nil = Unit {0}
Cells s d n G [] (cons t ts) = ⊥
Cells s d n G (c ∷ l) nil = ⊥
Cells s d n G (c ∷ l) (cons t ts) = Cell s d n G c t × Cells s d n G l ts

-- The piece with the items `own` more, among whose unknowns x has the cell c.
pub record Introduced (s s' d : List ℕ) (n top n' top' : ℕ) (G : Ghost) (own : Items) (Mine : ℕ → Type 0) (x c : ℕ) : Type 0 where
  pub advanced : Advanced s s' d n top n' top' G own Mine
  pub placed : InP x c advanced.cells

-- A piece stands, the cells l have types, and there is room for x cells.
pub record Working (s d : List ℕ) (n top x : ℕ) (l : List ℕ) : Type 0 where
  pub ghost : Ghost
  pub stands : Stands s d n top ghost
  pub terms : Terms
  pub cells : Cells s d n ghost l terms
  pub room : Room s n top x

-- The unknown x is new, and the term a is the power of it, at node m.
abbrev pub power_items : ℕ → ℕ → Term → Items
power_items x m a = fresh x ⨾ equation m a (power_of (unknown x))

-- IS_POWER: the type of cell c is a power, of the new unknown cell n.
pub record Powered (s s' d : List ℕ) (n top c number : ℕ) : Type 0 where
  pub low : lower s' ≡ lower s
  pub uses : Uses s s' n top (n + 2) (top + 1) 2
  pub goes : number ≡ 0 → (G : Ghost) → Stands s d n top G → (x : ℕ) → (In x G.mentioned → ⊥) → (m : ℕ) (a : Term) → Cell s d n G c a →
      Introduced s s' d n top (n + 2) (top + 1) G (power_items x m a) (λ y. y ≡ x) x n
  pub stops : (number ≡ 0 → ⊥) → (G : Ghost) → Stands s d n top G → (x : ℕ) → (In x G.mentioned → ⊥) → (m : ℕ) (a : Term) → Cell s d n G c a →
      Stops G.before G.items (power_items x m a) number m
