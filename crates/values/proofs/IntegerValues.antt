-- An integer's words are read back as that integer.
use Rattle.std.proofs.Common.{◌≡◌, true, ℤ, Some, ap, w32}
use mir.ValLaws.{to_z-of_z}
use Rattle.values_integers.specs.Integer.{signed, word_of, in32}
use Rattle.values.specs.Numbers.{number_of}
use Rattle.values.specs.Value.{int, encode}
use Rattle.values.proofs.Unique.{fits32}

pub number_value : (z : ℤ) → in32 z ≡ true → number_of (encode (int z)) ≡ Some z
unfolding number_of encode signed word_of
number_value z h = ap Some (to_z-of_z w32 z (fits32 z h))
