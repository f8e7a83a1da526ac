use mathlib.Core.Path.{◌∙◌, ap}
use Rattle.values.specs.Held.{keep}
use Rattle.evaluator_operations.proofs.ToldLaws.{fine_told, stopped_told, exit_told}
use Rattle.evaluator_scope.proofs.refer.Goals as goal

pub returns-in_err-referred : goal.returns-in_err-referred
returns-in_err-referred c = λ scope s xs a. exit_told c.from_residual.ensures.1 (stopped_told (c.in_err-referred.ensures scope s xs a))

pub returns : goal.returns
returns c = λ scope s xs a. fine_told (λ v t. record { words = c.hold.ensures ∙ ap keep t.words; short = t.short; narrow = t.narrow }) (c.in_ok-referred.ensures scope s xs a)
