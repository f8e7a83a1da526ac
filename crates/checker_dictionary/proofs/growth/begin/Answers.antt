use Rattle.std.proofs.Common.{sym, subst}
use Rattle.checker_rules.specs.Dictionary.{blank}
use Rattle.checker_dictionary.specs.Holds.{Holds}
use Rattle.checker_dictionary.proofs.GrowthLaws.{blank_held}
use Rattle.checker_dictionary.proofs.growth.begin.Goals as goal

pub returns : goal.returns
returns c h = subst (Holds blank) (sym c.clear.ensures) (blank_held _ h)
