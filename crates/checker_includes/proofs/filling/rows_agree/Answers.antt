use Rattle.checker_includes.proofs.AgreeLaws.{agreeing_start, agreeing_stop, agreeing_next, agreeing_end}
use Rattle.checker_includes.proofs.filling.rows_agree.Goals as goal

pub loop-j-init : goal.loop-j-init
loop-j-init c = agreeing_start _ _ _ _ _ _ _ _ c.requires

pub returns-then-not-agrees : goal.returns-then-not-agrees
returns-then-not-agrees c = agreeing_stop _ _ _ _ _ _ _ _ _ c.loop-j-test.true c.loop-j.invariant _ _ c.word.ensures.0 c.word-in-loop-j.ensures.0 _ c.agrees.ensures c.if-not-agrees.true

pub loop-j-preserved : goal.loop-j-preserved
loop-j-preserved c = agreeing_next _ _ _ _ _ _ _ _ _ c.loop-j-test.true c.loop-j.invariant _ _ c.word.ensures.0 c.word-in-loop-j.ensures.0 _ c.agrees.ensures c.if-not-agrees.false

pub returns : goal.returns
returns c = agreeing_end _ _ _ _ _ _ _ _ _ c.loop-j-test.false c.loop-j.invariant
