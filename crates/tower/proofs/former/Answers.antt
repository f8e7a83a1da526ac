use Rattle.tower.proofs.Building.{forming_cell, formed}
use Rattle.tower.proofs.former.Goals as goal

pub new_cell-requires : goal.new_cell-requires
new_cell-requires c = forming_cell _ _ _ _ _ _ _ _ c.requires _ c.row.ensures

pub returns : goal.returns
returns c = formed _ _ _ _ _ _ _ _ c.requires _ _ c.row.ensures c.new_cell.ensures
