use Rattle.std.proofs.Common.{arith}
use Rattle.checker_merging.proofs.NewLaws.{rows_end, rows_go, rows_stop}
use Rattle.checker_merging.proofs.rows_new.Goals as goal

pub returns-then-find_name-ne0 : goal.returns-then-find_name-ne0
returns-then-find_name-ne0 c = c.loop-i.invariant _ (rows_stop _ _ _ _ _ _ c.loop-i-test.true c.word.ensures.0 _ c.find_name.ensures c.if-find_name-ne0.true)

pub loop-i-preserved : goal.loop-i-preserved
loop-i-preserved c = λ b N. c.loop-i.invariant b (rows_go _ _ _ _ _ _ c.loop-i-test.true c.word.ensures.0 _ c.find_name.ensures c.if-find_name-ne0.false b N)

pub returns : goal.returns
returns c = c.loop-i.invariant _ (rows_end _ _ _ _ (omega arith))
