use Rattle.types_solver.proofs.Visiting.{visited_as}
use Rattle.types_solver.proofs.Testing.{seen_known, seen_step, seen_stop}
use Rattle.types_solver.proofs.acyclicity.visit_all.Goals as goal

pub visit-requires : goal.visit-requires
visit-requires c = seen_known _ _ _ _ c.loop-i.invariant c.requires c.loop-i-test.true

pub loop-i-preserved : goal.loop-i-preserved
loop-i-preserved c = seen_step _ _ _ _ c.loop-i.invariant c.requires c.loop-i-test.true _ (visited_as _ _ _ _ _ c.if-not-visit.false c.visit.ensures)

pub returns-then-not-visit : goal.returns-then-not-visit
returns-then-not-visit c = seen_stop _ _ _ _ c.loop-i.invariant c.requires c.loop-i-test.true _ (visited_as _ _ _ _ _ c.if-not-visit.true c.visit.ensures)
