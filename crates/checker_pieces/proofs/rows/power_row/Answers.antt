use Rattle.checker_pieces.proofs.PowerRows.{powers_start, powers_ask, powers_next}
use Rattle.checker_pieces.proofs.rows.power_row.Goals as goal

pub loop-j-init : goal.loop-j-init
loop-j-init c = powers_start _ _ _ _ _ c.requires

pub power-requires : goal.power-requires
power-requires c = powers_ask _ _ _ _ _ c.requires _ _ c.loop-j-test.true c.loop-j.invariant

pub loop-j-preserved : goal.loop-j-preserved
loop-j-preserved c = powers_next _ _ _ _ _ c.requires _ _ c.loop-j-test.true c.loop-j.invariant _ c.power.ensures
