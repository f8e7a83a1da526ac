use Rattle.types_solver.proofs.Testing.{Seen}
use Rattle.types_solver.proofs.acyclicity.visit_all.Given as goal

abbrev pub invariant-loop-i : goal.invariant-loop-i
invariant-loop-i l = Seen l.initial.a l.a l.n l.i
