-- What the operations do with the values of their operands.
use Rattle.std.specs.Prelude.{Bool, true, false, List, [], ◌∷◌, ℕ, ℤ, leb, eqb, None, Ok, Err}
use Rattle.values.specs.Value.{Value, int, element, set, tuple, Values, nil, cons}
use Rattle.values_integers.specs.Integer.{integer_finding, sum, difference, product, quotient, remainder}
use Rattle.values.specs.Numbers.{number_finding}
use Rattle.values.specs.Sets.{apply_finding}
use Rattle.values_integers.specs.Integer.{Computed}
use Rattle.values_integers.specs.declared.integer.ArithmeticError.TheVariants.{Undefined, Outside}
use Rattle.values.specs.Applied as Applied
use Rattle.reader_rules.specs.Tree.{Operator, plus, minus, times, Connective, and, or, implies}
use Rattle.reader_rules.specs.Tree as Tree
use Rattle.values.specs.SetValues.{insert_value, Image, found, misfit, undefined, apply_value}
use Rattle.evaluator_rules.specs.WordCount.{word_count}
use Rattle.evaluator_rules.specs.Outcomes.{Outcome, ◌>>=◌, pure, stop, keep}

-- 51: a value of a sort that the operation at node n cannot use. The numbers of what arithmetic gives, of no integer and of Apply stand in `integer_finding`, `number_finding`, `apply_finding`.
unfoldable pub as_integer : ℕ → Value → Outcome ℤ
as_integer n (int z) = pure z
as_integer n (element g k) = stop (number_finding None) n
as_integer n (set vs) = stop (number_finding None) n
as_integer n (tuple vs) = stop (number_finding None) n

unfoldable pub as_set : ℕ → Value → Outcome Values
as_set n (int z) = stop 51 n
as_set n (element g k) = stop 51 n
as_set n (set vs) = pure vs
as_set n (tuple vs) = stop 51 n

unfoldable pub as_tuple : ℕ → Value → Outcome Values
as_tuple n (int z) = stop 51 n
as_tuple n (element g k) = stop 51 n
as_tuple n (set vs) = stop 51 n
as_tuple n (tuple vs) = pure vs

-- a Product's operands, which must all be sets
unfoldable pub as_sets : ℕ → Values → Outcome (List Values)
as_sets n nil = pure []
as_sets n (cons v vs) = as_set n v >>= λ ws. as_sets n vs >>= λ wss. pure (ws ∷ wss)

-- Set members are added one at a time (R24): 55 at node n where the set passes 64 words
unfoldable pub add_if : Bool → ℕ → Values → Outcome Values
add_if true n vs = pure vs
add_if false n vs = stop 55 n

unfoldable pub add : ℕ → Value → Values → Outcome Values
add n v vs = let r = insert_value v vs in add_if (leb (word_count (set r)) 64) n r

-- Apply: a member that is no pair is 51; then the one pair whose first part is the argument a gives its second part, and none or more than one is 52
unfoldable pub image : ℕ → Image → Outcome Value
image n (found v) = pure v
image n misfit = stop (apply_finding Applied.Misfit) n
image n undefined = stop (apply_finding Applied.Undefined) n

unfoldable pub find_pair : ℕ → Value → Values → Outcome Value
find_pair n a vs = image n (apply_value a vs)

-- arithmetic: 52 where there is no result, then 53 where it is outside 32 bits signed (R23)
unfoldable pub keep_integer : ℕ → Computed → Outcome Value
keep_integer n (Ok z) = keep n (int z)
keep_integer n (Err Undefined) = stop (integer_finding (Err Undefined)) n
keep_integer n (Err Outside) = stop (integer_finding (Err Outside)) n

unfoldable pub calculate : Operator → ℤ → ℤ → Computed
calculate plus a b = sum a b
calculate minus a b = difference a b
calculate times a b = product a b
calculate Tree.quotient a b = quotient a b
calculate Tree.remainder a b = remainder a b

-- and, or, implies skip the right side when the left decides
unfoldable pub connect : Connective → Bool → (Unit {0} → Outcome Bool) → Outcome Bool
connect and true right = right tt
connect and false right = pure false
connect or true right = pure true
connect or false right = right tt
connect implies true right = right tt
connect implies false right = pure true

-- Power's test: every member passes, the first miss ends it
unfoldable pub all_pass : Values → (Value → Outcome Bool) → Outcome Bool
all_pass nil f = pure true
all_pass (cons v vs) f = f v >>= λ b. elim b [ true ↦ all_pass vs f | false ↦ pure false ]

-- Product's test: as many parts, otherwise 51 at the Product
unfoldable pub count_if : Bool → ℕ → Outcome (Unit {0})
count_if true n = pure tt
count_if false n = stop 51 n

unfoldable pub same_count : ℕ → ℕ → ℕ → Outcome (Unit {0})
same_count n a b = count_if (eqb a b) n
