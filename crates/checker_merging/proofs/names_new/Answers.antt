use Rattle.words.proofs.Lists.{drop_done}
use Rattle.checker_merging.proofs.NewLaws.{new_none, names_go, names_stop}
use Rattle.checker_merging.proofs.names_new.Goals as goal

pub returns-then-find_name-ne0 : goal.returns-then-find_name-ne0
returns-then-find_name-ne0 c = c.loop-i.invariant _ (names_stop _ _ _ _ _ c.loop-i-test.true c.word.ensures.0 _ c.find_name.ensures c.if-find_name-ne0.true)

pub loop-i-preserved : goal.loop-i-preserved
loop-i-preserved c = λ b N. c.loop-i.invariant b (names_go _ _ _ _ _ c.loop-i-test.true c.word.ensures.0 _ c.find_name.ensures c.if-find_name-ne0.false b N)

pub returns : goal.returns
returns c = c.loop-i.invariant _ (new_none _ _ _ (drop_done _ _ c.loop-i-test.false))
