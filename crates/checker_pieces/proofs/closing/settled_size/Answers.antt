use Rattle.checker_pieces.proofs.Closed.{size_is}
use Rattle.checker_pieces.proofs.closing.settled_size.Goals as goal

pub returns : goal.returns
returns c = size_is _ _ _ _ _ c.requires.made c.cell_size.ensures
