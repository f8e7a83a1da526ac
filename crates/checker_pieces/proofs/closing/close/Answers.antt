use Rattle.checker_pieces.proofs.Closed.{closed_several, closed_one}
use Rattle.checker_pieces.proofs.closing.close.Goals as goal

pub returns-then-left_open : goal.returns-then-left_open
returns-then-left_open c = closed_several _ _ _ _ _ c.finite.ensures _ c.left_open.ensures c.if-left_open.true

pub returns : goal.returns
returns c = closed_one _ _ _ _ _ c.finite.ensures _ c.left_open.ensures c.if-left_open.false
