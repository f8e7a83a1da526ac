use mir.Syntax.{w32}
use mir.ValLaws.{to_z-of_z}
use Rattle.values_integers.specs.Integer.{signed}
use Rattle.values_integers.proofs.integer.signed.Goals as goal

pub returns : goal.returns
unfolding signed
returns c = rw (to_z-of_z w32 _ (record { sfits = c.cast_signed.type_inv })) c.cast_signed.ensures
