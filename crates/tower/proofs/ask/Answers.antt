use Rattle.tower.proofs.Building.{measuring, tested_as}
use Rattle.tower.proofs.ask.Goals as goal

pub cell_size-requires : goal.cell_size-requires
cell_size-requires c = let P = c.requires in measuring _ _ _ _ P.top _ P.ready P.made P.few (tested_as _ _ _ _ _ c.if-finite.true c.finite.ensures)
