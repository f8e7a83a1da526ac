use Rattle.std.proofs.Common.{arith}
use Rattle.checker_merging.proofs.MergeLaws.{rows_none, rows_go, rows_stop}
use Rattle.checker_merging.proofs.rows_agree.Goals as goal

pub returns-then-not-agrees : goal.returns-then-not-agrees
returns-then-not-agrees c = c.loop-i.invariant _ (rows_stop _ _ _ _ _ _ _ _ c.loop-i-test.true _ _ c.word-id.ensures.0 c.word-place.ensures.0 _ c.agrees.ensures c.if-not-agrees.true)

pub loop-i-preserved : goal.loop-i-preserved
loop-i-preserved c = λ b N. c.loop-i.invariant b (rows_go _ _ _ _ _ _ _ _ c.loop-i-test.true _ _ c.word-id.ensures.0 c.word-place.ensures.0 _ c.agrees.ensures c.if-not-agrees.false b N)

pub returns : goal.returns
returns c = c.loop-i.invariant _ (rows_none _ _ _ _ _ _ _ (omega arith))
