use Rattle.types_cells.specs.Store.{run}
use Rattle.types_solver.proofs.Equating.{merged_as, tested_as, merged_sound, flat_read, equation, equation_endless, merged_not}
use Rattle.types_solver.proofs.equate.Goals as goal

pub merge_all-requires : goal.merge_all-requires
unfolding run
merge_all-requires c = (_, c.requires.1)

pub flatten-requires : goal.flatten-requires
flatten-requires c = merged_sound _ _ _ _ _ _ c.requires.1 _ (merged_as _ _ c.merge_all.ensures c.if-merge_all.true)

pub finite-requires : goal.finite-requires
finite-requires c = flat_read _ _ _ _ _ _ c.requires.1 _ (merged_as _ _ c.merge_all.ensures c.if-merge_all.true) _ c.flatten.ensures

pub returns-then-finite : goal.returns-then-finite
returns-then-finite c = equation _ _ _ _ _ _ c.requires.1 _ (merged_as _ _ c.merge_all.ensures c.if-merge_all.true) _ c.flatten.ensures _ (tested_as c.finite.ensures c.if-finite.true)

pub returns-then-merge_all : goal.returns-then-merge_all
returns-then-merge_all c = equation_endless _ _ _ _ _ _ c.requires.1 _ (merged_as _ _ c.merge_all.ensures c.if-merge_all.true) _ c.flatten.ensures _ (tested_as c.finite.ensures c.if-finite.false)

pub returns : goal.returns
returns c = merged_not _ _ _ _ _ _ c.requires.1 _ (merged_as _ _ c.merge_all.ensures c.if-merge_all.false)
