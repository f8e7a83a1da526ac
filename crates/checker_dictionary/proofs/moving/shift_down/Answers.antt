use Rattle.std.proofs.Common.{◌∙◌}
use Rattle.checker_dictionary.proofs.MovingLaws.{down_next}
use Rattle.checker_dictionary.proofs.moving.shift_down.Goals as goal

pub loop-i-preserved : goal.loop-i-preserved
loop-i-preserved c =
    let p = c.requires in
    c.store.ensures ∙ rw c.word-moved.ensures.0 (rw c.loop-i.invariant (down_next _ _ _ _ _ p.0 p.1 c.loop-i-test.true))
