use Rattle.checker_includes.proofs.SmallLaws.{so_far_stop, so_far_next, so_far_end}
use Rattle.checker_includes.proofs.filling.rows_small.Goals as goal

pub returns-then-filled_size-gt-SIZE : goal.returns-then-filled_size-gt-SIZE
returns-then-filled_size-gt-SIZE c = so_far_stop _ _ _ _ _ _ _ c.loop-j-test.true c.loop-j.invariant _ c.word.ensures.0 _ c.filled_size.ensures.0 c.if-filled_size-gt-SIZE.true

pub loop-j-preserved : goal.loop-j-preserved
loop-j-preserved c = so_far_next _ _ _ _ _ _ _ c.loop-j-test.true c.loop-j.invariant _ c.word.ensures.0 _ c.filled_size.ensures.0 c.if-filled_size-gt-SIZE.false

pub returns : goal.returns
returns c = so_far_end _ _ _ _ _ _ _ c.loop-j-test.false c.loop-j.invariant
