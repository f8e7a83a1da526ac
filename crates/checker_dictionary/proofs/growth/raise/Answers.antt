use Rattle.std.proofs.Common.{◌∙◌}
use Rattle.checker_dictionary.specs.Growth.{raised}
use Rattle.checker_dictionary.proofs.growth.raise.Goals as goal

pub returns : goal.returns
unfolding raised
returns c = c.store.ensures ∙ rw (c.wrapping_add_u32.ensures.value, c.word-x.ensures.0)
