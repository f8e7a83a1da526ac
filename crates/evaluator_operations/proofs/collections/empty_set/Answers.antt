use mathlib.Core.Path.{refl}
use native.Mathlib.Omega.{arith}
use Rattle.values.specs.Value.{encode, count}
use Rattle.evaluator_operations.specs.Worked.{narrow}
use Rattle.evaluator_operations.proofs.collections.empty_set.Goals as goal

pub returns : goal.returns
unfolding encode narrow count
returns c = record { words = c.hold.ensures; short = omega arith; narrow = refl }
