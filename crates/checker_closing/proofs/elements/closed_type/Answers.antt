use Rattle.checker_closing.proofs.ElementLaws.{closed_one}
use Rattle.checker_closing.proofs.elements.closed_type.Goals as goal

pub returns : goal.returns
returns c = closed_one c.close.ensures c.if-not-close.false c.kept_type.ensures
