use mathlib.Core.Path.{◌∙◌}
use Rattle.values.specs.SetValues.{same_value}
use Rattle.evaluator_operations.proofs.OperationLaws.{held_whole}
use Rattle.evaluator_operations.proofs.collections.equal.Goals as goal

pub returns : goal.returns
unfolding same_value
returns c = λ x y hx hy. rw (c.span.ensures ∙ held_whole _ x hx, c.span-2.ensures ∙ held_whole _ y hy) at c.same.ensures
