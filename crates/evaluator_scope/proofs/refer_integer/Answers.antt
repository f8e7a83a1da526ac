use mathlib.Core.Path.{◌∙◌, ap}
use Rattle.values.specs.Numbers.{number_of}
use Rattle.evaluator_operations.proofs.ToldLaws.{fine_told, stopped_told, exit_told}
use Rattle.evaluator_scope.proofs.refer_integer.Goals as goal

pub returns-in_err-referred : goal.returns-in_err-referred
returns-in_err-referred c = λ scope s xs a. exit_told c.from_residual.ensures.1 (stopped_told (c.in_err-referred.ensures scope s xs a))

pub returns : goal.returns
returns c = λ scope s xs a. fine_told (λ v t. record { integer = c.number_of.ensures ∙ ap number_of t.words; narrow = t.narrow }) (c.in_ok-referred.ensures scope s xs a)
