use Rattle.checker_closing.specs.Relations.{went}
use Rattle.checker_closing.proofs.relation.relation.Goals as goal

pub returns : goal.returns
returns c = went c.if-y-ne0.false c.ruled.ensures
