use Rattle.checker_kinds.proofs.FormerLaws.{tuple_ruled}
use Rattle.checker_kinds.proofs.building.tuple_rule.Goals as goal

pub returns : goal.returns
returns c = tuple_ruled _ _ _ _ _ _ c.product.ensures
