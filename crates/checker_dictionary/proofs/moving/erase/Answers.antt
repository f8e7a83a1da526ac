use Rattle.std.proofs.Common.{◌∙◌, arith}
use Rattle.checker_dictionary.proofs.MovingLaws.{erase_step}
use Rattle.checker_dictionary.proofs.moving.erase.Goals as goal

pub loop-i-preserved : goal.loop-i-preserved
loop-i-preserved c =
    let a = c.args in
    (omega arith, c.store.ensures ∙ rw c.loop-i.invariant.1 (erase_step a.d.now a.at c.loop-i.i (omega arith)))
