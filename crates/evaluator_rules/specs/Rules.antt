-- The evaluation rules (document 01, "Evaluation is left to right, operands first, and stops at the first trouble").
use Rattle.std.specs.Prelude.{List, Bool, true, false, not, ℕ, pos}
use Rattle.std.specs.Int.Signed.{le_z}
use Rattle.values.specs.Value.{Value, int, Values, nil, cons, count}
use Rattle.values.specs.Value as Value
use Rattle.reader_rules.specs.Tree.{Expr, reference, number, integers, set, tuple, product, power, application, selection, theta, schema_set, arithmetic}
use Rattle.reader_rules.specs.Tree.{comprehension, Exprs, none, more, Pred, truth, equal, member, at_most, connected, quantified, Text, text, Lines, end}
use Rattle.reader_rules.specs.Tree.{declaration, inclusion, Include, include, exprs_length}
use Rattle.reader_rules.specs.Tree as Tree
use Rattle.values.specs.SetValues.{same_value, is_in}
use Rattle.enumeration_rules.specs.Enumeration.{subsets, tuples}
use Rattle.evaluator_rules.specs.Outcomes.{Outcome, ◌>>=◌, pure, stop, keep}
use Rattle.evaluator_rules.specs.Environment.{Environment, lookup, refer}
use Rattle.evaluator_rules.specs.Operations.{as_integer, as_set, as_sets, as_tuple, add, find_pair, keep_integer, calculate, connect, all_pass, same_count}
use Rattle.evaluator_rules.specs.Assignments.{Domains, no_more, domains, Flow, go, Body, assign, flow_of, truth_of, gathered}

-- Member against any other E than ℤ, Power, Product: s is its value, which must be a set, 51 at its node n (R26: words are compared)
unfoldable pub among_members : ℕ → Value → Value → Outcome Bool
among_members n v s = as_set n s >>= λ vs. pure (is_in v vs)

-- an Include line is 54 when its turn comes (R25)
unfoldable pub stop_include : {A : Type 0} → Include → Outcome A
stop_include (include n s k xs rs) = stop 54 n

unfoldable mutual
  -- As values ℤ, Select, Theta, SchemaSet are 54 before their operands.
  pub eval_expr : Expr → Environment → Outcome Value
  eval_expr (reference n i xs) scope = eval_exprs xs scope >>= λ vs. refer n xs (lookup i scope)
  eval_expr (number n k) scope = keep n (int (pos k))
  eval_expr (integers n) scope = stop 54 n
  eval_expr (set n xs) scope = eval_members xs n scope nil >>= λ vs. keep n (Value.set vs)
  eval_expr (tuple n xs) scope = eval_exprs xs scope >>= λ vs. keep n (Value.tuple vs)
  eval_expr (product n xs) scope = eval_exprs xs scope >>= λ vs. as_sets n vs >>= λ vss. keep n (Value.set (tuples vss))
  eval_expr (power n a) scope = eval_expr a scope >>= λ v. as_set n v >>= λ vs. keep n (Value.set (subsets vs))
  eval_expr (application n f a) scope =
      eval_expr f scope >>= λ x. eval_expr a scope >>= λ y. as_set n x >>= λ vs. find_pair n y vs >>= λ v. keep n v
  eval_expr (selection n a i) scope = stop 54 n
  eval_expr (theta n s k) scope = stop 54 n
  eval_expr (schema_set n i) scope = stop 54 n
  eval_expr (arithmetic n o a b) scope =
      eval_expr a scope >>= λ x. eval_expr b scope >>= λ y. as_integer n x >>= λ j. as_integer n y >>= λ k. keep_integer n (calculate o j k)
  eval_expr (comprehension n t a) scope =
      over_text t (λ scope' s. eval_expr a scope' >>= λ v. add n v s >>= λ s'. pure (go s')) scope nil >>= λ f. keep n (Value.set (gathered f))

  pub eval_exprs : Exprs → Environment → Outcome Values
  eval_exprs none scope = pure nil
  eval_exprs (more a xs) scope = eval_expr a scope >>= λ v. eval_exprs xs scope >>= λ vs. pure (cons v vs)

  -- a Set's members, each added to s as it is worked out (R24)
  pub eval_members : Exprs → ℕ → Environment → Values → Outcome Values
  eval_members none n scope s = pure s
  eval_members (more a xs) n scope s = eval_expr a scope >>= λ v. add n v s >>= λ s'. eval_members xs n scope s'

  pub eval_pred : Pred → Environment → Outcome Bool
  eval_pred (truth n) scope = pure true
  eval_pred (equal n a b) scope = eval_expr a scope >>= λ x. eval_expr b scope >>= λ y. pure (same_value x y)
  eval_pred (member n a b) scope = eval_expr a scope >>= λ x. test_expr b (λ scope'. eval_expr b scope') x scope
  eval_pred (at_most n a b) scope =
      eval_expr a scope >>= λ x. eval_expr b scope >>= λ y. as_integer n x >>= λ j. as_integer n y >>= λ k. pure (le_z j k)
  eval_pred (Tree.not n p) scope = eval_pred p scope >>= λ b. pure (not b)
  eval_pred (connected n o p q) scope = eval_pred p scope >>= λ b. connect o b (λ _. eval_pred q scope)
  eval_pred (quantified n q t p) scope =
      over_text t (λ scope' s. eval_pred p scope' >>= λ b. pure (flow_of q b)) scope nil >>= λ f. pure (truth_of q f)

  -- the body, over the assignments at which the Text's predicate is true
  pub over_text : Text → Body → Environment → Values → Outcome Flow
  over_text (text n p ls) body scope s =
      eval_lines ls scope >>= λ ds.
      assign ds (λ scope' s'. eval_pred p scope' >>= λ b. elim b [ true ↦ body scope' s' | false ↦ pure (go s') ]) scope s

  -- A Text's Decl sets are worked out once, all lines; one that is no set is 51 at the Decl, before the next line (R25).
  -- The lines do not see the Text's own identifiers.
  pub eval_lines : Lines → Environment → Outcome Domains
  eval_lines end scope = pure no_more
  eval_lines (declaration n a xs ls) scope =
      eval_expr a scope >>= λ v. as_set n v >>= λ vs. eval_lines ls scope >>= λ ds. pure (domains xs vs ds)
  eval_lines (inclusion i ls) scope = stop_include i

  -- Member's test of v against an expression: ℤ needs an integer, Power a set whose members pass, Product a tuple of that many parts that pass, any
  -- other E is worked out anew and must be a set; a wrong sort or number of parts is 51 at the node tested against. ℤ, Power and Product leave no
  -- entry in the list (R26). `value` is the expression's own evaluation, handed in because a structural block calls itself on operands only.
  pub test_expr : Expr → (Environment → Outcome Value) → Value → Environment → Outcome Bool
  test_expr (reference n i xs) value v scope = value scope >>= among_members n v
  test_expr (number n k) value v scope = value scope >>= among_members n v
  test_expr (integers n) value v scope = as_integer n v >>= λ z. pure true
  test_expr (set n xs) value v scope = value scope >>= among_members n v
  test_expr (tuple n xs) value v scope = value scope >>= among_members n v
  test_expr (product n xs) value v scope = as_tuple n v >>= λ vs. same_count n (exprs_length xs) (count vs) >>= λ _. test_exprs xs vs scope
  test_expr (power n a) value v scope = as_set n v >>= λ vs. all_pass vs (λ w. test_expr a (λ scope'. eval_expr a scope') w scope)
  test_expr (application n f a) value v scope = value scope >>= among_members n v
  test_expr (selection n a i) value v scope = value scope >>= among_members n v
  test_expr (theta n s k) value v scope = value scope >>= among_members n v
  test_expr (schema_set n i) value v scope = value scope >>= among_members n v
  test_expr (arithmetic n o a b) value v scope = value scope >>= among_members n v
  test_expr (comprehension n t a) value v scope = value scope >>= among_members n v

  -- part by part, the first miss ends it; there are as many parts as expressions, else `sameCount` has stopped, so neither list ends first
  pub test_exprs : Exprs → Values → Environment → Outcome Bool
  test_exprs none vs scope = pure true
  test_exprs (more a xs) nil scope = pure true
  test_exprs (more a xs) (cons v vs) scope =
      test_expr a (λ scope'. eval_expr a scope') v scope >>= λ b. elim b [ true ↦ test_exprs xs vs scope | false ↦ pure false ]

-- whether v passes the test against the expression
abbrev pub test : Expr → Environment → Value → Outcome Bool
test a scope v = test_expr a (eval_expr a) v scope
