-- The steps of the evaluation rules that the code's functions take: what follows the operands' values.
use Rattle.std.specs.Prelude.{Bool, true, false, not, ℕ, Option, Some, None}
use Rattle.std.specs.Int.Signed.{le_z}
use Rattle.values.specs.Value.{Value, set, Values}
use Rattle.enumeration_rules.specs.Enumeration.{subsets, tuples}
use Rattle.reader_rules.specs.Tree.{Connective, and, or, implies, Quantifier, forall, exists}
use Rattle.reader_rules.specs.Decode.{operator_of}
use Rattle.evaluator_rules.specs.Outcomes.{Outcome, ◌>>=◌, pure, keep}
use Rattle.evaluator_rules.specs.Operations.{as_integer, as_set, as_sets, find_pair, keep_integer, calculate}

-- arithmetic of kind q, ≤, ℤ's test, Apply
unfoldable pub arithmetic_of : ℕ → ℕ → Value → Value → Outcome Value
arithmetic_of k q x y = as_integer k x >>= λ i. as_integer k y >>= λ j. keep_integer k (calculate (operator_of q) i j)

unfoldable pub at_most_of : ℕ → Value → Value → Outcome Bool
at_most_of k x y = as_integer k x >>= λ i. as_integer k y >>= λ j. pure (le_z i j)

unfoldable pub integer_test : ℕ → Value → Outcome Bool
integer_test k x = as_integer k x >>= λ z. pure true

unfoldable pub image_of : ℕ → Value → Value → Outcome Value
image_of k x y = as_set k x >>= λ vs. find_pair k y vs >>= λ v. keep k v

-- Power; Product, of all its operands' values
unfoldable pub power_of : ℕ → Value → Outcome Value
power_of k x = as_set k x >>= λ vs. keep k (set (subsets vs))

unfoldable pub product_of : ℕ → Values → Outcome Value
product_of k vs = as_sets k vs >>= λ vss. keep k (set (tuples vss))

-- what the left side of and, or, implies decides, or that the right side does
unfoldable pub decision_of : Connective → Bool → Option Bool
decision_of and true = None
decision_of and false = Some false
decision_of or true = Some true
decision_of or false = None
decision_of implies true = None
decision_of implies false = Some true

-- whether forall or exists stops at a truth value; and what it is where it was stopped, or not
unfoldable pub verdict_of : Quantifier → Bool → Bool
verdict_of forall b = not b
verdict_of exists b = b
