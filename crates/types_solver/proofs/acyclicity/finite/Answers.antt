use Rattle.types_solver.proofs.Marking.{same_held}
use Rattle.types_solver.proofs.Testing.{tested}
use Rattle.types_solver.proofs.acyclicity.finite.Goals as goal

pub visit_all-requires : goal.visit_all-requires
visit_all-requires c = let P = c.requires in record { L = P.L; held = same_held _ _ c.clear_marks.ensures.same _ _ P.held }

pub returns : goal.returns
returns c = tested _ _ _ _ c.clear_marks.ensures _ c.visit_all.ensures
