use Rattle.types_solver.specs.Sizes.{Cleared}
use Rattle.types_solver.proofs.acyclicity.clear_marks.Given as goal

abbrev pub invariant-loop-i : goal.invariant-loop-i
invariant-loop-i l = Cleared l.initial.a l.a l.i
