use Rattle.std.proofs.Common.{◌∙◌}
use Rattle.checker_dictionary.specs.Growth.{pair_added}
use Rattle.checker_dictionary.proofs.growth.add_pair.Goals as goal

pub returns : goal.returns
unfolding pair_added
returns c = c.store-2.ensures ∙ rw (c.store.ensures, c.raise.ensures)
