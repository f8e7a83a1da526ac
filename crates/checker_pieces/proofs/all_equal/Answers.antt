use Rattle.checker_pieces.proofs.Comparing.{answered}
use Rattle.checker_pieces.proofs.all_equal.Goals as goal

pub returns : goal.returns
returns c = answered _ _ _ _ _ _ c.requires.1 _ _ c.equate.ensures
