use Prim.Native.Nat.{◌-◌, ◌≤◌}
use lib.ListN.{length}
use Rattle.types_rules.specs.Types.{Ty, size}
use Rattle.types_cells.specs.Settled.{heap, Reads}
use Rattle.types_solver.proofs.Summing.{Summing}
use Prim.Native.Nat.{◌<◌}
use Rattle.types_solver.proofs.sizes.+type_size.Given as goal

abbrev pub decreases-type_size : goal.decreases-type_size
decreases-type_size l = length (heap l.a.now l.d.now) - l.p

abbrev pub invariant-loop-j : goal.invariant-loop-j
invariant-loop-j l = (l.p < l.at) × (l.sum ≤ 33) × ((g : Ty) → Reads (heap l.a l.d) l.p g → Summing (heap l.a l.d) l.w l.at l.n l.j l.sum (size g))
