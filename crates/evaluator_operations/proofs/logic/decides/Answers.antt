use Rattle.evaluator_operations.proofs.OperationLaws.{right_side_lem, decided_false}
use Rattle.evaluator_operations.specs.Steps.{decision_of}
use Rattle.evaluator_operations.proofs.logic.decides.Goals as goal

pub returns-then-left : goal.returns-then-left
unfolding decision_of
returns-then-left c = rw (c.if-q-eq-OR.true, c.if-left.true)

pub returns-then-q-eq-OR : goal.returns-then-q-eq-OR
unfolding decision_of
returns-then-q-eq-OR c = rw (c.if-q-eq-OR.true, c.if-left.false)

pub returns-then-left-2 : goal.returns-then-left-2
returns-then-left-2 c = rw c.if-left-2.true (right_side_lem _ c.if-q-eq-OR.false)

pub returns-then-q-eq-IMPLIES : goal.returns-then-q-eq-IMPLIES
unfolding decision_of
returns-then-q-eq-IMPLIES c = rw (c.if-q-eq-IMPLIES.true, c.if-left-2.false)

pub returns : goal.returns
returns c = rw c.if-left-2.false (decided_false _ c.if-q-eq-OR.false c.if-q-eq-IMPLIES.false)
