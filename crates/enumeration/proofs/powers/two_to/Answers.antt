use Rattle.enumeration.proofs.Laws.{shifted}
use Rattle.enumeration.proofs.powers.two_to.Goals as goal

pub returns : goal.returns
returns c = shifted c.args.n c.requires
