-- The members of a power and of a product, in ascending order. Both are lists of rows: a row is the members of a subset, or the parts of a tuple.
use Rattle.std.specs.Prelude.{Bool, true, false, ◌&&◌, List, [], ◌∷◌, ◌++◌, ℕ, zero, suc}
use Rattle.values.specs.Value.{Value, int, element, set, tuple, Values, nil, cons, count}
use Rattle.values.specs.SetValues.{is_in}

-- v before each of the rows
unfoldable pub before : Value → List Values → List Values
before v [] = []
before v (r ∷ rs) = cons v r ∷ before v rs

-- the rows that begin with a member of vs, in the members' order; `more` gives what goes on after a member, from the members that follow it
unfoldable pub rows : Values → (Values → List Values) → List Values
rows nil more = []
rows (cons v vs) more = before v (more vs) ++ rows vs more

-- all choices of k of the members
unfoldable pub choices : ℕ → Values → List Values
choices zero vs = nil ∷ []
choices (suc k) vs = rows vs (choices k)

-- n sizes of choices from k on: a set's count goes before its members
unfoldable pub choices_from : ℕ → ℕ → Values → List Values
choices_from k zero vs = []
choices_from k (suc n) vs = choices k vs ++ choices_from (suc k) n vs

-- one member of each operand
unfoldable pub picks : List Values → List Values
picks [] = nil ∷ []
picks (vs ∷ vss) = rows vs (λ us. picks vss)

unfoldable pub each : (Values → Value) → List Values → Values
each f [] = nil
each f (r ∷ rs) = cons (f r) (each f rs)

-- the members of the power of the set of vs
unfoldable pub subsets : Values → Values
subsets vs = each set (choices_from 0 (suc (count vs)) vs)

-- the members of the product of the sets of vss
unfoldable pub tuples : List Values → Values
tuples vss = each tuple (picks vss)

-- every one of ws is a member of vs
unfoldable pub all_in : Values → Values → Bool
all_in nil vs = true
all_in (cons w ws) vs = is_in w vs && all_in ws vs

-- as many parts as operands, each a member of its own
unfoldable pub each_in : Values → List Values → Bool
each_in nil [] = true
each_in nil (vs ∷ vss) = false
each_in (cons w ws) [] = false
each_in (cons w ws) (vs ∷ vss) = is_in w vs && each_in ws vss

-- who is a member: a set whose members are all members, a tuple of that many parts, each a member of its operand; no other value
unfoldable pub in_power : Value → Values → Bool
in_power (int z) vs = false
in_power (element g k) vs = false
in_power (set ws) vs = all_in ws vs
in_power (tuple ws) vs = false

unfoldable pub in_product : Value → List Values → Bool
in_product (int z) vss = false
in_product (element g k) vss = false
in_product (set ws) vss = false
in_product (tuple ws) vss = each_in ws vss
