use Prim.Native.Nat.{◌+◌, ◌*◌, ◌-◌}
use lib.ListN.{length}
use Rattle.types_cells.specs.Settled.{heap}
use Rattle.types_solver.proofs.entering.+enter_enter_parts.Given as goal

abbrev pub decreases-enter : goal.decreases-enter
decreases-enter l = 2 * (length (heap l.a.now l.d.now) - l.p)

abbrev pub decreases-enter_parts : goal.decreases-enter_parts
decreases-enter_parts l = 2 * (length (heap l.a.now l.d.now) - l.at) + 1
