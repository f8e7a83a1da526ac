use mathlib.Core.Bool.{true, false}
use Rattle.words.proofs.Lists.{drop_done}
use Rattle.checker_includes.proofs.OverlapLaws.{overlap_end, overlap_stop, overlap_go}
use Rattle.checker_includes.proofs.storing.none_declared.Goals as goal

pub returns-then-find-m : goal.returns-then-find-m
returns-then-find-m c = c.loop-i.invariant false (overlap_stop _ _ _ _ _ _ c.loop-i-test.true c.word.ensures.0 _ c.find.ensures c.if-find-m.true)

pub loop-i-preserved : goal.loop-i-preserved
loop-i-preserved c = λ b N. c.loop-i.invariant b (overlap_go _ _ _ _ _ _ c.loop-i-test.true c.word.ensures.0 _ c.find.ensures c.if-find-m.false b N)

pub returns : goal.returns
returns c = c.loop-i.invariant true (overlap_end _ _ _ c.args.part.now c.loop-i.i (drop_done _ _ c.loop-i-test.false))
