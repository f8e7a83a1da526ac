use mathlib.Core.Path.{◌∙◌, ap}
use Rattle.values.specs.Held.{keep}
use Rattle.evaluator_operations.proofs.collections.member_at.Goals as goal

pub returns : goal.returns
returns c = c.hold.ensures ∙ ap keep c.span.ensures
