-- When an application has a value: "In Z an application has a value only where the relation pairs the argument with exactly one result" (document 02, ask 5).
use Rattle.std.specs.Prelude.{◌≡◌, true, false}
use Rattle.values.specs.Value.{Value, tuple, Values, nil, cons}
use Rattle.values.specs.SetValues.{same_value}

abbrev pub pair : Value → Value → Value
pair x z = tuple (cons x (cons z nil))

-- a tuple of other than 2 parts is no pair, nor is what is no tuple
abbrev pub NoPair : Value → Type 0
NoPair v = (x z : Value) → v ≡ pair x z → ⊥

-- one of the values is no pair; or all are, and zs are the second parts of those whose first part is a
pub data SomeNoPair : Values → Type 0 where
  this_no_pair : {v : Value} {vs : Values} → NoPair v → SomeNoPair (cons v vs)
  later_no_pair : {v : Value} {vs : Values} → SomeNoPair vs → SomeNoPair (cons v vs)

pub data Images (a : Value) : Values → Values → Type 0 where
  no_images : Images a nil nil
  one_image : {x z : Value} {vs zs : Values} → same_value x a ≡ true → Images a vs zs → Images a (cons (pair x z) vs) (cons z zs)
  other_pair : {x z : Value} {vs zs : Values} → same_value x a ≡ false → Images a vs zs → Images a (cons (pair x z) vs) zs

-- w is one of vs
pub data Among (w : Value) : Values → Type 0 where
  here : {vs : Values} → Among w (cons w vs)
  later : {v : Value} {vs : Values} → Among w vs → Among w (cons v vs)

abbrev pub AllPairs : Values → Type 0
AllPairs vs = (w : Value) → Among w vs → (x : Value) × ((z : Value) × (w ≡ pair x z))

-- all members of vs are pairs, one has the first part a and the second part v, and no other has that first part
pub record OnlyPair (a : Value) (vs : Values) (v : Value) : Type 0 where
  pub pairs : AllPairs vs
  pub first : Value
  pub argument : same_value first a ≡ true
  pub member : Among (pair first v) vs
  pub only : (x z : Value) → Among (pair x z) vs → same_value x a ≡ true → pair x z ≡ pair first v
