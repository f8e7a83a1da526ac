use mathlib.Core.Bool.{true, false}
use Rattle.evaluator_operations.proofs.OperationLaws.{forall_verdict}
use Rattle.evaluator_operations.specs.Steps.{verdict_of}
use Rattle.evaluator_operations.proofs.logic.verdict.Goals as goal

pub returns-then-q-eq-EXISTS : goal.returns-then-q-eq-EXISTS
unfolding verdict_of
returns-then-q-eq-EXISTS c = rw c.if-q-eq-EXISTS.true

pub returns-then-b : goal.returns-then-b
returns-then-b c = rw c.if-b.true (forall_verdict _ c.if-q-eq-EXISTS.false true)

pub returns : goal.returns
returns c = rw c.if-b.false (forall_verdict _ c.if-q-eq-EXISTS.false false)
