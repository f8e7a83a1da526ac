use native.Mathlib.Omega.{arith}
use mir.Syntax.{w32}
use mir.ValLaws.{to_z-of_z}
use Rattle.values.specs.Value.{encode}
use Rattle.evaluator_operations.specs.Worked.{narrow}
use Rattle.evaluator_operations.proofs.numbers.whole.Goals as goal

pub returns : goal.returns
unfolding encode narrow
returns c =
    λ v d.
    rw d.value (record { words = rw (to_z-of_z w32 _ c.ranges.z) at c.integer_value.ensures; short = omega arith; narrow = d.narrow })
