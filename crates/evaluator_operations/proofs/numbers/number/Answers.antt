use mathlib.Core.Path.{◌∙◌, ap}
use Rattle.values.specs.Numbers.{number_of}
use Rattle.evaluator_operations.proofs.OperationLaws.{held_whole}
use Rattle.evaluator_operations.proofs.numbers.number.Goals as goal

pub returns : goal.returns
returns c = λ x h. record { integer = c.number_of.ensures ∙ ap number_of (c.span.ensures ∙ held_whole _ x h); narrow = h.narrow }
