use Rattle.evaluator_operations.proofs.OperationLaws.{other_plus}
use mir.Syntax.{w32}
use mir.ValLaws.{to_z-of_z}
use Rattle.evaluator_rules.specs.Operations.{calculate}
use Rattle.evaluator_operations.proofs.numbers.calculate.Goals as goal

pub returns-in-42 : goal.returns-in-42
unfolding calculate
returns-in-42 c = rw c.in-42.is (rw (to_z-of_z w32 _ c.ranges.a, to_z-of_z w32 _ c.ranges.b) at c.subtract.ensures)

pub returns-in-43 : goal.returns-in-43
unfolding calculate
returns-in-43 c = rw c.in-43.is (rw (to_z-of_z w32 _ c.ranges.a, to_z-of_z w32 _ c.ranges.b) at c.multiply.ensures)

pub returns-in-44 : goal.returns-in-44
unfolding calculate
returns-in-44 c = rw c.in-44.is (rw (to_z-of_z w32 _ c.ranges.a, to_z-of_z w32 _ c.ranges.b) at c.divide.ensures)

pub returns-in-45 : goal.returns-in-45
unfolding calculate
returns-in-45 c = rw c.in-45.is (rw (to_z-of_z w32 _ c.ranges.a, to_z-of_z w32 _ c.ranges.b) at c.modulo.ensures)

pub returns-in_default : goal.returns-in_default
unfolding calculate
returns-in_default c =
    let r = c.in_default.in_default-own.rest in
    rw (other_plus _ r.0.0.0.1 r.0.0.1 r.0.1 r.1) (rw (to_z-of_z w32 _ c.ranges.a, to_z-of_z w32 _ c.ranges.b) at c.add.ensures)
