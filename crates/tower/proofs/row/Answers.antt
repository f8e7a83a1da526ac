use Rattle.tower.proofs.Building.{row_adding, row_step}
use Rattle.tower.proofs.row.Goals as goal

pub add_word-requires : goal.add_word-requires
add_word-requires c = row_adding _ _ _ _ _ _ _ _ _ c.requires c.loop-j.invariant c.loop-j-test.true

pub loop-j-preserved : goal.loop-j-preserved
loop-j-preserved c = row_step _ _ _ _ _ _ _ _ _ c.requires c.loop-j.invariant c.loop-j-test.true _ c.add_word.ensures
