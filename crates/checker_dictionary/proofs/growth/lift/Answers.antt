use Rattle.std.proofs.Common.{sym, ◌∙◌}
use Rattle.checker_dictionary.proofs.LiftLaws.{lifted_go, lifted_end}
use Rattle.checker_dictionary.proofs.growth.lift.Goals as goal

pub loop-i-preserved : goal.loop-i-preserved
loop-i-preserved c = c.loop-i.invariant ∙ lifted_go _ _ _ c.loop-i-test.true ∙ rw (← c.word-moved.ensures.0, ← c.store.ensures)

pub returns : goal.returns
returns c = sym (c.loop-i.invariant ∙ lifted_end _ _ _ c.loop-i-test.false)
