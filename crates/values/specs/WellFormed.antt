-- Which values are well formed, as document 01 says it of states. The laws of values_forms/proofs/Decoding.antt and Reading.antt say that `is_value`
-- of specs/Form.antt tests exactly this on words, and those of proofs/Unique.antt that such words are one value's and no other's.
use Rattle.std.specs.Prelude.{ℕ, Bool, true, ◌&&◌, List, [], nat_le, nat_lt}
use Rattle.values_integers.specs.Integer.{in32}
use Rattle.values.specs.Order.{compare, is_less}
use Rattle.values.specs.Value.{Value, int, element, set, tuple, Values, nil, cons, count, encode}

-- each value above the one before it, the first above p
unfoldable pub ascends : List ℕ → Values → Bool
ascends p nil = true
ascends p (cons v vs) = is_less (compare p (encode v)) && ascends (encode v) vs

unfoldable mutual
  pub well_formed : (ℕ → ℕ) → Value → Bool
  well_formed size (int z) = in32 z
  well_formed size (element g k) = nat_lt k (size g)
  well_formed size (set vs) = all_well_formed size vs && ascends [] vs
  well_formed size (tuple vs) = all_well_formed size vs && (nat_le 2 (count vs) && nat_le (count vs) 6)

  pub all_well_formed : (ℕ → ℕ) → Values → Bool
  all_well_formed size nil = true
  all_well_formed size (cons v vs) = well_formed size v && all_well_formed size vs
