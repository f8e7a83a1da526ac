use native.Mathlib.Omega.{arith}
use Rattle.types_cells.specs.Store.{run}
use Rattle.checker_pieces.proofs.Stages.{few_side}
use Rattle.checker_pieces.proofs.equal.Goals as goal

pub overflow_cast-side : goal.overflow_cast-side
overflow_cast-side c = let z = few_side _ _ _ _ _ c.requires in omega arith

pub all_equal-requires : goal.all_equal-requires
unfolding run
all_equal-requires c = (omega arith, c.requires)

pub returns : goal.returns
unfolding run
returns c = c.all_equal.ensures
