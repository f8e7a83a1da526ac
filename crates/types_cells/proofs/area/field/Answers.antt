use Rattle.types_cells.specs.Store.{field_at}
use Rattle.types_cells.proofs.area.field.Goals as goal

pub returns : goal.returns
unfolding field_at
returns c = c.held.ensures
