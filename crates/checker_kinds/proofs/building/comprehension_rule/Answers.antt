use Rattle.checker_kinds.proofs.FormerLaws.{comprehension_ruled}
use Rattle.checker_kinds.proofs.building.comprehension_rule.Goals as goal

pub returns : goal.returns
returns c = comprehension_ruled _ _ _ _ _ c.power.ensures
