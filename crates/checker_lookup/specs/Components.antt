-- THE COMPONENTS OF A RECORDED BINDING as rows: each identifier, and the place where the words of its type stand.
use Rattle.std.specs.Prelude.{◌≡◌, List, [], ◌∷◌, ℕ, ◌+◌, ◌*◌, ◌≤◌, ◌<◌, ◌^◌, length}
use Rattle.types_rules.specs.Former.{binding}
use Rattle.types_rules.specs.Instance.{instance}
use Rattle.types_rules.specs.Types.{Ty, Tys, node, tnil, tcons, Term, Terms}
use Rattle.types_rules.specs.Words.{words}
use Rattle.checker_rules.specs.Signatures.{components_of}
use Rattle.types_cells.specs.Settled.{heap, Reads, Areas}
use Rattle.checker_signatures.specs.Rows.{rows}
use Rattle.checker_signatures.specs.Tables.{Table}
use Rattle.checker_signatures.specs.Carried.{Carries}

-- The rows of components whose words begin at `at`: identifier, words of its type, the next one.
unfoldable pub component_rows : ℕ → List ℕ → Tys → List (ℕ × ℕ)
component_rows at [] gs = []
component_rows at (i ∷ ids) tnil = []
component_rows at (i ∷ ids) (tcons g gs) = (i, at + 1) ∷ component_rows (at + 1 + length (words g)) ids gs

-- The place q has the type of a component; t is that type with the terms X for its parameters.
pub record Component (s d : List ℕ) (X : Terms) (t : Term) (q : ℕ) : Type 0 where
  pub type : Ty
  pub reads : Reads (heap s d) q type
  pub means : t ≡ instance X type

-- Every place has P.
unfoldable pub EachPlace : (ℕ → Type 0) → List (ℕ × ℕ) → Type 0
EachPlace P [] = Unit {0}
EachPlace P (r ∷ rs) = P r.1 × EachPlace P rs

-- A binding stands at p, and there is room for its rows. Places are words.
pub record ComponentsAsked (s d w : List ℕ) (p base : ℕ) : Type 0 where
  pub areas : Areas s d
  pub few : length d < 2 ^ 31
  pub identifiers : List ℕ
  pub types : Tys
  pub reads : Reads (heap s d) p (node (binding identifiers) types)
  pub table : base + 2 * length identifiers ≤ length w

-- Its m rows are written at base, whatever terms its parameters stand for.
pub record ComponentsOf (s d w w' : List ℕ) (p base m : ℕ) (ids : List ℕ) (gs : Tys) : Type 0 where
  pub count : m ≡ length ids
  pub table : Table w w' base (component_rows (p + 2) ids gs) m
  pub carries : (X : Terms) → Carries (Component s d X) (components_of (instance X (node (binding ids) gs))) (rows w' base m)
  pub after : EachPlace (λ q. p < q) (rows w' base m)

pub record ComponentRows (s d w w' : List ℕ) (p base m : ℕ) : Type 0 where
  pub of : (ids : List ℕ) (gs : Tys) → Reads (heap s d) p (node (binding ids) gs) → ComponentsOf s d w w' p base m ids gs
