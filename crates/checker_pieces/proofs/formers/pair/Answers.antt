use native.Mathlib.Omega.{arith}
use Rattle.checker_pieces.proofs.Forming.{pair_built, pair_make, pair_words_lem}
use Rattle.checker_pieces.proofs.formers.pair.Goals as goal

pub overflow_cast-x : goal.overflow_cast-x
overflow_cast-x c = let z = pair_words_lem _ _ _ _ _ c.requires in let u = z.0 in omega arith

pub overflow_cast-y : goal.overflow_cast-y
overflow_cast-y c = let z = pair_words_lem _ _ _ _ _ c.requires in let u = z.1 in omega arith

pub new_cell-requires : goal.new_cell-requires
new_cell-requires c = pair_make _ _ _ _ _ c.requires _ c.add_word.ensures _ c.add_word-2.ensures

pub returns : goal.returns
returns c = pair_built _ _ _ _ _ c.requires _ c.add_word.ensures _ c.add_word-2.ensures _ c.new_cell.ensures
