-- What it is to list all values of a sort: a well-formed set, whose members ascend and are distinct, that has exactly those. Power and Product are both shown to
-- do so (proofs/Enumerates), and that two such sets are the same value: so `subsets` and `tuples` can be read as their names.
use Rattle.std.specs.Prelude.{◌≡◌, Bool, true, List, [], ◌∷◌, ℕ, ◌<◌, ◌^◌, length}
use Rattle.values.specs.Value.{Value, set, Values, encode, encodes}
use Rattle.values.specs.WellFormed.{well_formed}
use Rattle.values.specs.SetValues.{is_in}

pub record Enumerates (size : ℕ → ℕ) (is : Value → Bool) (vs : Values) : Type 0 where
  pub ascending : well_formed size (set vs) ≡ true
  pub exactly : (v : Value) → well_formed size v ≡ true → length (encode v) < 2 ^ 32 → is_in v vs ≡ is v

-- the operands of a product: well-formed sets of less than 2^32 words
pub data Operands (size : ℕ → ℕ) : List Values → Type 0 where
  no_operand : Operands size []
  an_operand : {vs : Values} {vss : List Values} → well_formed size (set vs) ≡ true → length (encodes vs) < 2 ^ 32 → Operands size vss → Operands size (vs ∷ vss)
