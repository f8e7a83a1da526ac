use Prim.Native.Nat.{◌-◌, ◌<◌}
use lib.ListN.{length}
use Rattle.types_rules.specs.Types.{Ty, Tys}
use Rattle.types_cells.specs.Settled.{heap, Reads}
use Rattle.types_instances.specs.Filled.{Row}
use Rattle.checker_includes.proofs.SameLaws.{Matching}
use Rattle.checker_includes.proofs.filling.+same_filled.Given as goal

abbrev pub decreases-same_filled : goal.decreases-same_filled
decreases-same_filled l = length (heap l.a.now l.d.now) - l.p

abbrev pub invariant-loop-j : goal.invariant-loop-j
invariant-loop-j l = (l.p < l.at) × ((g h : Ty) (hs : Tys) → Reads (heap l.a l.d) l.p g → Reads (heap l.a l.d) l.q h → Row (heap l.a l.d) l.row hs → Matching (heap l.a l.d) hs l.w l.at l.to l.n l.j g h)
