use Rattle.words.proofs.Lists.{drop_done}
use Rattle.checker_merging.proofs.MergeLaws.{declared_none, declared_go, declared_stop}
use Rattle.checker_merging.proofs.declared_agree.Goals as goal

pub returns-then-not-agrees : goal.returns-then-not-agrees
returns-then-not-agrees c = c.loop-i.invariant _ (declared_stop _ _ _ _ _ _ _ _ _ c.loop-i-test.true c.word.ensures.0 _ c.agrees.ensures c.if-not-agrees.true)

pub loop-i-preserved : goal.loop-i-preserved
loop-i-preserved c = λ b N. c.loop-i.invariant b (declared_go _ _ _ _ _ _ _ _ _ c.loop-i-test.true c.word.ensures.0 _ c.agrees.ensures c.if-not-agrees.false b N)

pub returns : goal.returns
returns c = c.loop-i.invariant _ (declared_none _ _ _ _ _ _ _ (drop_done _ _ c.loop-i-test.false))
