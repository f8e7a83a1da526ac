use Prim.Native.Nat.{◌+◌, ◌*◌}
use Rattle.types_solver.specs.Sizes.{bare}
use Rattle.types_cells.proofs.LinkLaws.{far}
use Rattle.types_solver.proofs.Visiting.{Parts}
use Rattle.types_cells.specs.Layout.{max_cells}
use Rattle.types_solver.proofs.acyclicity.+visit.Given as goal

abbrev pub decreases-visit : goal.decreases-visit
decreases-visit l = (2 + max_cells) * bare l.a.now max_cells + far l.a.now (1 + max_cells) l.i

abbrev pub invariant-loop-j : goal.invariant-loop-j
invariant-loop-j l = Parts l.initial.a l.a l.i l.k l.j l.sum
