use native.Mathlib.Omega.{arith}
use Rattle.checker_pieces.proofs.Forming.{power_built, power_make, power_word}
use Rattle.checker_pieces.proofs.formers.power.Goals as goal

pub overflow_cast-c : goal.overflow_cast-c
overflow_cast-c c = let z = power_word _ _ _ _ c.requires in omega arith

pub new_cell-requires : goal.new_cell-requires
new_cell-requires c = power_make _ _ _ _ c.requires _ c.add_word.ensures

pub returns : goal.returns
returns c = power_built _ _ _ _ c.requires _ c.add_word.ensures _ c.new_cell.ensures
