use Rattle.checker_pieces.proofs.FreshRows.{row_start, row_ask, row_next}
use Rattle.checker_pieces.proofs.rows.fresh_row.Goals as goal

pub loop-j-init : goal.loop-j-init
loop-j-init c = row_start _ _ _ c.requires

pub new_unknown-requires : goal.new_unknown-requires
new_unknown-requires c = row_ask _ _ _ c.requires _ _ c.loop-j-test.true c.loop-j.invariant

pub loop-j-preserved : goal.loop-j-preserved
loop-j-preserved c = row_next _ _ _ c.requires _ _ c.loop-j-test.true c.loop-j.invariant _ c.new_unknown.ensures
