use Rattle.checker_pieces.proofs.PowerRows.{powers_asked, sides_asked, are_powers_lem, rows_length_lem}
use Rattle.checker_pieces.proofs.powers.are_powers.Goals as goal

pub power_row-requires : goal.power_row-requires
power_row-requires c = powers_asked _ _ _ _ _ _ (rows_length_lem _ _ c.requires.0) c.requires.1 _ c.fresh_row.ensures

pub all_equal-requires : goal.all_equal-requires
all_equal-requires c = (c.requires.0, sides_asked _ _ _ _ _ _ (rows_length_lem _ _ c.requires.0) c.requires.1 _ c.fresh_row.ensures _ c.power_row.ensures)

pub returns : goal.returns
returns c = are_powers_lem _ _ _ _ _ _ (rows_length_lem _ _ c.requires.0) c.requires.1 _ c.fresh_row.ensures _ c.power_row.ensures _ _ c.all_equal.ensures
