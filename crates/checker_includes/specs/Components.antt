-- What an Include brings (document 01, "Include"): components of a recorded schema (checker_lookup/specs/Components), whose parameters
-- stand for the actuals' element types.
use Rattle.std.specs.Prelude.{◌≡◌, List, ◌⊎◌, ℕ, suc, ◌≤◌, ◌<◌}
use Rattle.types_rules.specs.Equations.{In}
use Rattle.types_rules.specs.Types.{Ty, Tys, tnil, tcons, Term, Each, unders, size}
use Rattle.checker_rules.specs.Unknowns.{Valuation, slot, row}
use Rattle.checker_rules.specs.Items.{Items, Meets}
use Rattle.types_cells.specs.Settled.{heap, Reads}
use Rattle.checker_pieces.specs.Piece.{Settled}
use Rattle.types_instances.specs.Fill.{fill}
use Rattle.types_instances.specs.Filled.{Row}
use Rattle.checker_merging.specs.Merging.{TypedAt}

-- A settled term whose type's words stand at p, of size 32 at most: what tables and scopes hold.
pub record Placed (s d : List ℕ) (H : Items) (U : List ℕ) (t : Term) (p : ℕ) : Type 0 where
  pub typed : TypedAt s d H U t p
  pub small : size typed.type ≤ 32

-- A type stands at p; with the types gs for its parameters it is the type of the settled term t.
pub record Fills (s d : List ℕ) (H : Items) (U : List ℕ) (gs : Tys) (t : Term) (p : ℕ) : Type 0 where
  pub type : Ty
  pub reads : Reads (heap s d) p type
  pub settled : Settled H t (fill gs type)
  pub over : Each (λ x. In x U) t

-- The type h stands for g: it is g, or both are over size 32 (38), where no component may mention either.
abbrev pub StandsFor : Ty → Ty → Type 0
StandsFor h g = (h ≡ g) ⊎ ((32 < size h) × (32 < size g))

unfoldable pub AllStandFor : Tys → Tys → Type 0
AllStandFor tnil tnil = Unit {0}
AllStandFor tnil (tcons g gs) = ⊥
AllStandFor (tcons h hs) tnil = ⊥
AllStandFor (tcons h hs) (tcons g gs) = StandsFor h g × AllStandFor hs gs

-- The actuals of the Include at node k, q of them: their element types are settled, and types that stand for them stand at the places of the row.
pub record ActualTypes (s d : List ℕ) (H : Items) (U : List ℕ) (k q : ℕ) (places : List ℕ) : Type 0 where
  pub types : Tys
  pub settled : (τ : Valuation) → Meets H τ → unders τ (row k 1 q) ≡ types
  pub shown : Tys
  pub stand : Row (heap s d) places shown
  pub alike : AllStandFor shown types
  pub over : (j : ℕ) → j < q → In (slot k (suc j)) U
