use mathlib.Core.Path.{◌∙◌, ap}
use Rattle.values.specs.Span.{span}
use Rattle.evaluator_operations.proofs.collections.length_at.Goals as goal

pub returns : goal.returns
returns c = (c.span.ensures.0 ∙ ap span c.from.ensures, c.span.ensures.1)
