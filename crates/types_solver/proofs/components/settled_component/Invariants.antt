use Rattle.types_rules.specs.Types.{Ty}
use Rattle.types_rules.specs.Component.{component_type}
use Rattle.types_cells.specs.Settled.{heap, Reads}
use Rattle.types_cells.proofs.Reading.{Seeking}
use Rattle.types_solver.proofs.components.settled_component.Given as goal

abbrev pub invariant-loop-j : goal.invariant-loop-j
invariant-loop-j l = (g : Ty) → Reads (heap l.a l.d) l.p g → Seeking (heap l.a l.d) l.at l.n l.j l.id (component_type l.id g)
