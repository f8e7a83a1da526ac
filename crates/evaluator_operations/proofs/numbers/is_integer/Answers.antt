use mathlib.Core.Path.{◌∙◌, sym}
use Rattle.evaluator_operations.proofs.OperationLaws.{test_integer, test_other}
use Rattle.evaluator_operations.proofs.numbers.is_integer.Goals as goal

pub returns-in-None : goal.returns-in-None
returns-in-None c = λ x h. let i = c.number-x.ensures x h in test_other _ 0 x x c.refusal.ensures (sym c.in-None.is ∙ i.integer)

pub returns-in-Some : goal.returns-in-Some
returns-in-Some c = λ x h. let i = c.number-x.ensures x h in test_integer _ 0 x x h.narrow _ (sym c.in-Some.is ∙ i.integer)
