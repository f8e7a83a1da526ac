use Prim.Native.Nat.{◌+◌, ◌*◌}
use Rattle.types_cells.specs.Layout.{first_run}
use Rattle.tower.proofs.Building.{Levels}
use Rattle.tower.proofs.build.Given as goal

abbrev pub invariant-loop-i : goal.invariant-loop-i
invariant-loop-i l = Levels l.a l.d (1 + 11 * l.i) (first_run + 34 * l.i) l.x l.i
