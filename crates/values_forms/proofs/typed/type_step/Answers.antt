use native.Mathlib.Omega.{arith}
use Rattle.values.specs.Typed.{type_step}
use Rattle.values_forms.proofs.typed.type_step.Goals as goal

pub returns-then-own : goal.returns-then-own
unfolding type_step
returns-then-own c = (rw c.if-own.true c.type_length.ensures.0, c.type_length.ensures.1)

pub returns : goal.returns
unfolding type_step
returns c = (rw c.if-own.false, omega arith)
