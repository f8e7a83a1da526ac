use Rattle.std.proofs.Common.{◌∙◌}
use Rattle.checker_dictionary.specs.Growth.{grown}
use Rattle.checker_dictionary.proofs.growth.grow.Goals as goal

pub returns : goal.returns
unfolding grown
returns c = c.copy.ensures ∙ rw (c.add_pair.ensures, c.raise_offsets.ensures, c.lift.ensures)
