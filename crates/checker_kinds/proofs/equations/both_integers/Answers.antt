use native.Mathlib.Omega.{arith}
use Rattle.types_cells.specs.Store.{run}
use Rattle.checker_kinds.proofs.Integers.{integer_making, few_operands, both_asks, both_told}
use Rattle.checker_kinds.proofs.equations.both_integers.Goals as goal

pub integer-requires : goal.integer-requires
integer-requires c = integer_making _ _ _ _ _ c.requires

pub overflow_cast-sides : goal.overflow_cast-sides
overflow_cast-sides c = let z = few_operands _ _ _ _ _ _ c.requires in omega (arith, z.0)

pub overflow_cast-sides-2 : goal.overflow_cast-sides-2
overflow_cast-sides-2 c = let z = few_operands _ _ _ _ _ _ c.requires in omega (arith, z.1)

pub all_equal-requires : goal.all_equal-requires
unfolding run
all_equal-requires c = (omega arith, both_asks _ _ _ _ _ _ c.requires c.integer.ensures _ (omega arith))

pub returns : goal.returns
unfolding run
returns c = both_told _ _ _ _ _ _ c.requires c.integer.ensures _ _ _ c.all_equal.ensures (omega arith)
