use mir.Syntax.{w32}
use mir.ValLaws.{to_z-of_z}
use Rattle.values_integers.specs.Integer.{word_of}
use Rattle.values_integers.proofs.integer.word_of.Goals as goal

pub returns : goal.returns
unfolding word_of
returns c = rw (to_z-of_z w32 _ c.ranges.z) at c.cast_unsigned.ensures
