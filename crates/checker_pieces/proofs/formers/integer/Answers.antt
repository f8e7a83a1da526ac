use Rattle.checker_pieces.proofs.Forming.{integer_built}
use Rattle.checker_pieces.proofs.formers.integer.Goals as goal

pub returns : goal.returns
returns c = integer_built _ _ _ c.requires c.new_cell.ensures
