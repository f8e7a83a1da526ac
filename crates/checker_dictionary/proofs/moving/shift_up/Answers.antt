use Rattle.std.proofs.Common.{◌∙◌}
use Rattle.checker_dictionary.proofs.MovingLaws.{up_step}
use Rattle.checker_dictionary.proofs.moving.shift_up.Goals as goal

pub loop-i-preserved : goal.loop-i-preserved
loop-i-preserved c =
    let l = c.loop-i in
    let p = c.requires in
    c.store.ensures ∙ rw c.word-moved.ensures.0 (rw l.invariant (up_step _ _ _ _ _ p.0 p.1 l.auto.i c.loop-i-test.true))
