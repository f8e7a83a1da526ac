use Rattle.checker_closing.specs.Actuals.{went}
use Rattle.checker_closing.proofs.actual.actual.Goals as goal

pub returns : goal.returns
returns c = went c.if-x-ne0.false c.placed.ensures
