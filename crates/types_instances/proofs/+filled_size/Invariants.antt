use Prim.Native.Nat.{◌+◌, ◌-◌, ◌≤◌, ◌<◌}
use lib.ListN.{length}
use Rattle.types_rules.specs.Types.{Ty, Tys, size}
use Rattle.types_rules.specs.Words.{words}
use Rattle.types_cells.specs.Settled.{heap, Reads}
use Rattle.types_instances.specs.Fill.{fill}
use Rattle.types_instances.specs.Filled.{Row}
use Rattle.types_instances.proofs.FillSizes.{Totalling}
use Rattle.types_instances.proofs.+filled_size.Given as goal

abbrev pub decreases-filled_size : goal.decreases-filled_size
decreases-filled_size l = length (heap l.a.now l.d.now) - l.p

abbrev pub invariant-loop-j : goal.invariant-loop-j
invariant-loop-j l = (l.p < l.at) × (l.sum ≤ 33) × ((g : Ty) (hs : Tys) → Reads (heap l.a l.d) l.p g → Row (heap l.a l.d) l.row hs → Totalling (heap l.a l.d) hs l.w l.at l.n l.j l.sum (size (fill hs g)) (l.p + length (words g)))
