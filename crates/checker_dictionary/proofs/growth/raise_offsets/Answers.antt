use Rattle.std.proofs.Common.{sym, ◌∙◌}
use Rattle.words.proofs.Loops.{run_go, run_end}
use Rattle.checker_dictionary.specs.Growth.{offset_raised}
use Rattle.checker_dictionary.proofs.growth.raise_offsets.Goals as goal

pub loop-k-preserved : goal.loop-k-preserved
unfolding offset_raised
loop-k-preserved c = c.loop-k.invariant ∙ run_go _ _ _ _ c.loop-k-test.true ∙ rw (← c.raise.ensures)

pub returns : goal.returns
returns c = sym (c.loop-k.invariant ∙ run_end _ _ _ _ c.loop-k-test.false)
