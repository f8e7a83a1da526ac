use Rattle.std.proofs.Common.{ap, ◌∙◌, is_eq}
use Rattle.values.specs.Order.{same, is_same}
use Rattle.values.proofs.order.same.Goals as goal

pub returns : goal.returns
unfolding same is_same
returns c = c.is_eq.ensures ∙ ap is_eq c.compare.ensures
