-- Types, finite or possibly infinite, under one name: what holds of both is said once.
use Rattle.std.specs.Prelude.{ℕ, List}
use Rattle.std.proofs.Math.Option.{Option}
use Rattle.types_rules.specs.Component.{component_type}
use Rattle.types_rules.specs.Finite.{from_list}
use Rattle.types_rules.specs.Former.{Former}
use Rattle.types_rules.specs.Infinite.{Inf, component_inf, mk_i, under_inf, whole as wholeInf}
use Rattle.types_rules.specs.Types.{Term, Ty, node, under}

pub data Extent : Type 0 where
  finite : Extent
  infinite : Extent

abbrev pub Tree : Extent → Type 0
Tree finite = Ty
Tree infinite = Inf

-- The former h of some types; a type of the document; what the types σ make of a term; the type of a component.
abbrev pub build : (w : Extent) → Former → List (Tree w) → Tree w
build finite h gs = node h (from_list gs)
build infinite h gs = mk_i h gs

abbrev pub whole : (w : Extent) → Ty → Tree w
whole finite g = g
whole infinite g = wholeInf g

abbrev pub under_in : (w : Extent) → (ℕ → Tree w) → Term → Tree w
under_in finite σ t = under σ t
under_in infinite σ t = under_inf σ t

abbrev pub component_in : (w : Extent) → ℕ → Tree w → Option (Tree w)
component_in finite c g = component_type c g
component_in infinite c g = component_inf c g
