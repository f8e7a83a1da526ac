-- The evaluation rules list only values of at most 64 words, and stop only with 51 to 55.
use mathlib.Core.Path.{◌≡◌, refl}
use mathlib.Core.Bool.{Bool, true, false}
use Prim.Native.Nat.{ℕ, ◌≤◌}
use native.Mathlib.Omega.{arith}
use lib.Dec.{leb}
use borrow.Author.Tests.{leb-true}
use Rattle.values.specs.Value.{Value, int, element, Values, nil, cons}
use Rattle.values_integers.specs.Integer.{Computed}
use Rattle.std.proofs.Common.{Ok, Err}
use Rattle.values_integers.specs.declared.integer.ArithmeticError.TheVariants.{Undefined, Outside}
use Rattle.reader_rules.specs.Tree.{Connective, and, or, implies, Expr, reference, number, integers, set, tuple, product, power, application, selection, theta, schema_set, arithmetic}
use Rattle.reader_rules.specs.Tree.{comprehension, Exprs, none, more, Pred, truth, equal, member, at_most, connected, quantified, Text, text, Lines, end}
use Rattle.reader_rules.specs.Tree.{declaration, inclusion, Include, include}
use Rattle.reader_rules.specs.Tree as Tree
use Rattle.values.specs.SetValues.{Image, found, misfit, undefined, apply_value}
use Rattle.evaluator_rules.specs.WordCount.{word_count}
use Rattle.evaluator_rules.specs.Outcomes.{Outcome, ◌>>=◌, stop, keep_if, keep}
use Rattle.evaluator_rules.specs.Environment.{Environment, Meaning, valued, generic, unknown, refer}
use Rattle.evaluator_rules.specs.Operations.{as_integer, as_set, as_sets, as_tuple, add_if, add, image, find_pair, keep_integer, connect, all_pass, count_if, same_count}
use Rattle.evaluator_rules.specs.Assignments.{Domains, no_more, domain, Flow, go, halt, Body, next, each, assign}
use Rattle.evaluator_rules.specs.Rules.{among_members, stop_include, eval_expr, eval_exprs, eval_members, eval_pred, over_text, eval_lines, test_expr, test_exprs}
use Rattle.evaluator_rules.specs.Claims.{empty, entry, Good, finished, Short, Trouble}
use Rattle.evaluator_rules.proofs.Outcomes.{bind_good, pure_good, stop_good, choose_good}

-- an outcome of which only this is said
abbrev pub Fine : {A : Type 0} → Outcome A → Type 0
Fine m = Good Short Trouble (λ a. Unit {0}) m

pub bind_fine : {A B : Type 0} {m : Outcome A} {f : A → Outcome B} → Fine m → ((a : A) → Fine (f a)) → Fine (m >>= f)
bind_fine h k = bind_good h (λ a _. k a)

trouble : {A : Type 0} {w n : ℕ} → 51 ≤ w → w ≤ 55 → Fine {A = A} (stop w n)
trouble p q = stop_good (p, q)

keep_if_fine : (b : Bool) (n : ℕ) (v : Value) → leb (word_count v) 64 ≡ b → Fine (keep_if b n v)
unfolding keep_if
keep_if_fine true n v e = finished (entry (leb-true (word_count v) 64 e) empty) tt
keep_if_fine false n v e = trouble (omega arith) (omega arith)

keep_fine : (n : ℕ) (v : Value) → Fine (keep n v)
unfolding keep
keep_fine n v = keep_if_fine (leb (word_count v) 64) n v refl

refer_fine : (n : ℕ) (xs : Exprs) (m : Meaning) → Fine (refer n xs m)
unfolding refer
refer_fine n none (valued v) = keep_fine n v
refer_fine n (more a xs) (valued v) = trouble (omega arith) (omega arith)
refer_fine n none generic = trouble (omega arith) (omega arith)
refer_fine n (more a xs) generic = trouble (omega arith) (omega arith)
refer_fine n none unknown = trouble (omega arith) (omega arith)
refer_fine n (more a xs) unknown = trouble (omega arith) (omega arith)

integer_fine : (n : ℕ) (v : Value) → Fine (as_integer n v)
unfolding as_integer
integer_fine n (int z) = pure_good tt
integer_fine n (element g k) = trouble (omega arith) (omega arith)
integer_fine n (Value.set vs) = trouble (omega arith) (omega arith)
integer_fine n (Value.tuple vs) = trouble (omega arith) (omega arith)

set_fine : (n : ℕ) (v : Value) → Fine (as_set n v)
unfolding as_set
set_fine n (int z) = trouble (omega arith) (omega arith)
set_fine n (element g k) = trouble (omega arith) (omega arith)
set_fine n (Value.set vs) = pure_good tt
set_fine n (Value.tuple vs) = trouble (omega arith) (omega arith)

sets_fine : (n : ℕ) (vs : Values) → Fine (as_sets n vs)
unfolding as_sets
sets_fine n nil = pure_good tt
sets_fine n (cons v vs) = bind_fine (set_fine n v) (λ ws. bind_fine (sets_fine n vs) (λ wss. pure_good tt))

tuple_fine : (n : ℕ) (v : Value) → Fine (as_tuple n v)
unfolding as_tuple
tuple_fine n (int z) = trouble (omega arith) (omega arith)
tuple_fine n (element g k) = trouble (omega arith) (omega arith)
tuple_fine n (Value.set vs) = trouble (omega arith) (omega arith)
tuple_fine n (Value.tuple vs) = pure_good tt

add_if_fine : (b : Bool) (n : ℕ) (vs : Values) → Fine (add_if b n vs)
unfolding add_if
add_if_fine true n vs = pure_good tt
add_if_fine false n vs = trouble (omega arith) (omega arith)

add_fine : (n : ℕ) (v : Value) (vs : Values) → Fine (add n v vs)
unfolding add
add_fine n v vs = add_if_fine _ n _

image_fine : (n : ℕ) (i : Image) → Fine (image n i)
unfolding image
image_fine n (found v) = pure_good tt
image_fine n misfit = trouble (omega arith) (omega arith)
image_fine n undefined = trouble (omega arith) (omega arith)

pair_fine : (n : ℕ) (a : Value) (vs : Values) → Fine (find_pair n a vs)
unfolding find_pair
pair_fine n a vs = image_fine n (apply_value a vs)

whole_fine : (n : ℕ) (i : Computed) → Fine (keep_integer n i)
unfolding keep_integer
whole_fine n (Ok z) = keep_fine n _
whole_fine n (Err Undefined) = trouble (omega arith) (omega arith)
whole_fine n (Err Outside) = trouble (omega arith) (omega arith)

connect_fine : (o : Connective) (b : Bool) (right : Unit {0} → Outcome Bool) → Fine (right tt) → Fine (connect o b right)
unfolding connect
connect_fine and true right h = h
connect_fine and false right h = pure_good tt
connect_fine or true right h = pure_good tt
connect_fine or false right h = h
connect_fine implies true right h = h
connect_fine implies false right h = pure_good tt

pass_fine : (vs : Values) (f : Value → Outcome Bool) → ((v : Value) → Fine (f v)) → Fine (all_pass vs f)
unfolding all_pass
pass_fine nil f h = pure_good tt
pass_fine (cons v vs) f h = bind_fine (h v) (λ b. choose_good b (pass_fine vs f h) (pure_good tt))

count_fine : (b : Bool) (n : ℕ) → Fine (count_if b n)
unfolding count_if
count_fine true n = pure_good tt
count_fine false n = trouble (omega arith) (omega arith)

among_fine : (n : ℕ) (v s : Value) → Fine (among_members n v s)
unfolding among_members
among_fine n v s = bind_fine (set_fine n s) (λ vs. pure_good tt)

pub include_fine : {A : Type 0} (i : Include) → Fine {A = A} (stop_include i)
unfolding stop_include
include_fine (include n s k xs rs) = trouble (omega arith) (omega arith)

-- assignments
abbrev FineBody : Body → Type 0
FineBody k = (scope : Environment) (s : Values) → Fine (k scope s)

next_fine : (k : Values → Outcome Flow) (f : Flow) → ((s : Values) → Fine (k s)) → Fine (next k f)
unfolding next
next_fine k (go s) h = h s
next_fine k halt h = pure_good tt

each_fine : (i : ℕ) (vs : Values) (k : Body) (scope : Environment) (s : Values) → FineBody k → Fine (each i vs k scope s)
unfolding each
each_fine i nil k scope s h = pure_good tt
each_fine i (cons v vs) k scope s h = bind_fine (h _ s) (λ f. next_fine _ f (λ s'. each_fine i vs k scope s' h))

assign_fine : (ds : Domains) (k : Body) (scope : Environment) (s : Values) → FineBody k → Fine (assign ds k scope s)
unfolding assign
assign_fine no_more k scope s h = h scope s
assign_fine (domain i vs ds) k scope s h = each_fine i vs _ scope s (λ scope' s'. assign_fine ds k scope' s' h)

mutual
  unfolding eval_expr same_count

  pub expr_fine : (a : Expr) (scope : Environment) → Fine (eval_expr a scope)
  expr_fine (reference n i xs) scope = bind_fine (exprs_fine xs scope) (λ vs. refer_fine n xs _)
  expr_fine (number n k) scope = keep_fine n _
  expr_fine (integers n) scope = trouble (omega arith) (omega arith)
  expr_fine (set n xs) scope = bind_fine (members_fine xs n scope nil) (λ vs. keep_fine n _)
  expr_fine (tuple n xs) scope = bind_fine (exprs_fine xs scope) (λ vs. keep_fine n _)
  expr_fine (product n xs) scope = bind_fine (exprs_fine xs scope) (λ vs. bind_fine (sets_fine n vs) (λ vss. keep_fine n _))
  expr_fine (power n a) scope = bind_fine (expr_fine a scope) (λ v. bind_fine (set_fine n v) (λ vs. keep_fine n _))
  expr_fine (application n f a) scope =
      bind_fine (expr_fine f scope) (λ x. bind_fine (expr_fine a scope) (λ y. bind_fine (set_fine n x) (λ vs. bind_fine (pair_fine n y vs) (λ v. keep_fine n v))))
  expr_fine (selection n a i) scope = trouble (omega arith) (omega arith)
  expr_fine (theta n s k) scope = trouble (omega arith) (omega arith)
  expr_fine (schema_set n i) scope = trouble (omega arith) (omega arith)
  expr_fine (arithmetic n o a b) scope =
      bind_fine (expr_fine a scope) (λ x. bind_fine (expr_fine b scope) (λ y. bind_fine (integer_fine n x) (λ j. bind_fine (integer_fine n y) (λ k. whole_fine n _))))
  expr_fine (comprehension n t a) scope =
      bind_fine (text_fine t _ scope nil (λ scope' s. bind_fine (expr_fine a scope') (λ v. bind_fine (add_fine n v s) (λ s'. pure_good tt)))) (λ f. keep_fine n _)

  pub exprs_fine : (xs : Exprs) (scope : Environment) → Fine (eval_exprs xs scope)
  exprs_fine none scope = pure_good tt
  exprs_fine (more a xs) scope = bind_fine (expr_fine a scope) (λ v. bind_fine (exprs_fine xs scope) (λ vs. pure_good tt))

  pub members_fine : (xs : Exprs) (n : ℕ) (scope : Environment) (s : Values) → Fine (eval_members xs n scope s)
  members_fine none n scope s = pure_good tt
  members_fine (more a xs) n scope s = bind_fine (expr_fine a scope) (λ v. bind_fine (add_fine n v s) (λ s'. members_fine xs n scope s'))

  pub pred_fine : (p : Pred) (scope : Environment) → Fine (eval_pred p scope)
  pred_fine (truth n) scope = pure_good tt
  pred_fine (equal n a b) scope = bind_fine (expr_fine a scope) (λ x. bind_fine (expr_fine b scope) (λ y. pure_good tt))
  pred_fine (member n a b) scope = bind_fine (expr_fine a scope) (λ x. test_fine b _ x scope (λ scope'. expr_fine b scope'))
  pred_fine (at_most n a b) scope =
      bind_fine (expr_fine a scope) (λ x. bind_fine (expr_fine b scope) (λ y. bind_fine (integer_fine n x) (λ j. bind_fine (integer_fine n y) (λ k. pure_good tt))))
  pred_fine (Tree.not n p) scope = bind_fine (pred_fine p scope) (λ b. pure_good tt)
  pred_fine (connected n o p q) scope = bind_fine (pred_fine p scope) (λ b. connect_fine o b _ (pred_fine q scope))
  pred_fine (quantified n q t p) scope = bind_fine (text_fine t _ scope nil (λ scope' s. bind_fine (pred_fine p scope') (λ b. pure_good tt))) (λ f. pure_good tt)

  pub text_fine : (t : Text) (k : Body) (scope : Environment) (s : Values) → FineBody k → Fine (over_text t k scope s)
  text_fine (text n p ls) k scope s h =
      bind_fine (lines_fine ls scope) (λ ds. assign_fine ds _ scope s (λ scope' s'. bind_fine (pred_fine p scope') (λ b. choose_good b (h scope' s') (pure_good tt))))

  pub lines_fine : (ls : Lines) (scope : Environment) → Fine (eval_lines ls scope)
  lines_fine end scope = pure_good tt
  lines_fine (declaration n a xs ls) scope = bind_fine (expr_fine a scope) (λ v. bind_fine (set_fine n v) (λ vs. bind_fine (lines_fine ls scope) (λ ds. pure_good tt)))
  lines_fine (inclusion i ls) scope = include_fine i

  pub test_fine : (a : Expr) (f : Environment → Outcome Value) (v : Value) (scope : Environment) → ((scope' : Environment) → Fine (f scope')) → Fine (test_expr a f v scope)
  test_fine (reference n i xs) f v scope h = bind_fine (h scope) (λ s. among_fine n v s)
  test_fine (number n k) f v scope h = bind_fine (h scope) (λ s. among_fine n v s)
  test_fine (integers n) f v scope h = bind_fine (integer_fine n v) (λ z. pure_good tt)
  test_fine (set n xs) f v scope h = bind_fine (h scope) (λ s. among_fine n v s)
  test_fine (tuple n xs) f v scope h = bind_fine (h scope) (λ s. among_fine n v s)
  test_fine (product n xs) f v scope h = bind_fine (tuple_fine n v) (λ vs. bind_fine (count_fine _ n) (λ _. tests_fine xs vs scope))
  test_fine (power n a) f v scope h = bind_fine (set_fine n v) (λ vs. pass_fine vs _ (λ w. test_fine a _ w scope (λ scope'. expr_fine a scope')))
  test_fine (application n g a) f v scope h = bind_fine (h scope) (λ s. among_fine n v s)
  test_fine (selection n a i) f v scope h = bind_fine (h scope) (λ s. among_fine n v s)
  test_fine (theta n s k) f v scope h = bind_fine (h scope) (λ s. among_fine n v s)
  test_fine (schema_set n i) f v scope h = bind_fine (h scope) (λ s. among_fine n v s)
  test_fine (arithmetic n o a b) f v scope h = bind_fine (h scope) (λ s. among_fine n v s)
  test_fine (comprehension n t a) f v scope h = bind_fine (h scope) (λ s. among_fine n v s)

  pub tests_fine : (xs : Exprs) (vs : Values) (scope : Environment) → Fine (test_exprs xs vs scope)
  tests_fine none vs scope = pure_good tt
  tests_fine (more a xs) nil scope = pure_good tt
  tests_fine (more a xs) (cons v vs) scope = bind_fine (test_fine a _ v scope (λ scope'. expr_fine a scope')) (λ b. choose_good b (tests_fine xs vs scope) (pure_good tt))
