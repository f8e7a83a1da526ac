-- An outcome has a list and a result; one law for each way to put outcomes together.
use mathlib.Core.Path.{◌≡◌, refl, sym, subst}
use mathlib.Core.Logic.{◌⊎◌, inl, inr}
use mathlib.Core.List.{List, [], ◌++◌, append-nil}
use Prim.Native.Nat.{ℕ, ◌≤◌, ◌<◌}
use lib.IntN.{ℤ}
use borrow.Author.Tests.{le-leb, lt-leb, eq-eqb, ne_eqb}
use Rattle.values.specs.Value.{Value, int, element, Values, nil, cons, count}
use Rattle.values.specs.SetValues.{insert_value}
use Rattle.std.proofs.Common.{Ok, Err}
use Rattle.values_integers.specs.declared.integer.ArithmeticError.TheVariants.{Undefined, Outside}
use Rattle.reader_rules.specs.Tree.{Expr, Exprs, none, more, expr_node, Operator}
use Rattle.evaluator_rules.specs.WordCount.{word_count}
use Rattle.evaluator_rules.specs.Outcomes.{Event, Outcome, done, stopped, after, ◌>>=◌, keep_if, keep}
use Rattle.evaluator_rules.specs.Environment.{Environment, valued, generic, unknown, lookup, refer}
use Rattle.evaluator_rules.specs.Operations.{as_integer, as_set, as_sets, as_tuple, add_if, add, image, find_pair, keep_integer, calculate, count_if, same_count}
use Rattle.evaluator_rules.specs.Rules.{test_expr, among_members}
use Rattle.evaluator_rules.specs.Applications.{SomeNoPair, Images}
use Rattle.evaluator_rules.specs.Listing
use Rattle.evaluator_rules.specs.Listing.{Result, gives, stops, NoInteger, NoSet, NoTuple, SomeNoSet, this_no_set, later_no_set, AllSets, no_sets, one_set, Enters, entered, too_long, Another}
use Rattle.evaluator_rules.proofs.Assignments.{bind_assoc}
use Rattle.evaluator_rules.proofs.Images.{misfit_where, found_where, undefined_where}

pub data Comes {A : Type 0} : Outcome A → List Event → Result A → Type 0 where
  finished : {t : List Event} {a : A} → Comes (done t a) t (gives a)
  ceased : {t : List Event} {w m : ℕ} → Comes (stopped t w m) t (stops w m)

after_comes : {A : Type 0} (t : List Event) {o : Outcome A} {u : List Event} {r : Result A} → Comes o u r → Comes (after t o) (t ++ u) r
unfolding after
after_comes t finished = finished
after_comes t ceased = ceased

-- on with a step, with a last step that has no list of its own, and with nothing more
pub on : {A B : Type 0} {o : Outcome A} {a : A} {t u : List Event} {r : Result B} (f : A → Outcome B) → Comes o t (gives a) → Comes (f a) u r → Comes (o >>= f) (t ++ u) r
unfolding ◌>>=◌
on f (finished {t = t}) k = after_comes t k

pub last : {A B : Type 0} {o : Outcome A} {a : A} {t : List Event} {r : Result B} (f : A → Outcome B) → Comes o t (gives a) → Comes (f a) [] r → Comes (o >>= f) t r
last {o = o} {t = t} {r = r} f h k = subst (λ (l : List Event). Comes (o >>= f) l r) (append-nil t) (on f h k)

pub off : {A B : Type 0} {o : Outcome A} {t : List Event} {w m : ℕ} (f : A → Outcome B) → Comes o t (stops w m) → Comes (o >>= f) t (stops w m)
unfolding ◌>>=◌
off f ceased = ceased

pub assoc_comes : {A B C : Type 0} (o : Outcome A) (f : A → Outcome B) (g : B → Outcome C) {t : List Event} {r : Result C} → Comes (o >>= λ a. f a >>= g) t r → Comes ((o >>= f) >>= g) t r
assoc_comes o f g {t = t} {r = r} h = subst (λ (x : Outcome _). Comes x t r) (sym (bind_assoc o f g)) h

pub enters_comes : {n : ℕ} {v : Value} {t : List Event} {r : Result Value} → Enters n v t r → Comes (keep n v) t r
unfolding keep keep_if
enters_comes {v = v} (entered h) = rw (le-leb (word_count v) 64 h) finished
enters_comes {v = v} (too_long h) = rw (lt-leb (word_count v) 64 h) ceased

pub no_integer : (n : ℕ) (v : Value) → NoInteger v → Comes (as_integer n v) [] (stops 51 n)
unfolding as_integer
no_integer n (int z) h = absurd (h z refl)
no_integer n (element g k) h = ceased
no_integer n (Value.set vs) h = ceased
no_integer n (Value.tuple vs) h = ceased

pub no_set_lem : (n : ℕ) (v : Value) → NoSet v → Comes (as_set n v) [] (stops 51 n)
unfolding as_set
no_set_lem n (int z) h = ceased
no_set_lem n (element g k) h = ceased
no_set_lem n (Value.set vs) h = absurd (h vs refl)
no_set_lem n (Value.tuple vs) h = ceased

pub no_tuple : (n : ℕ) (v : Value) → NoTuple v → Comes (as_tuple n v) [] (stops 51 n)
unfolding as_tuple
no_tuple n (int z) h = ceased
no_tuple n (element g k) h = ceased
no_tuple n (Value.set vs) h = ceased
no_tuple n (Value.tuple vs) h = absurd (h vs refl)

-- a Product's operands, which must all be sets
pub some_no_set : (n : ℕ) {vs : Values} → SomeNoSet vs → Comes (as_sets n vs) [] (stops 51 n)
unfolding as_sets as_set
some_no_set n (this_no_set {v = v} d) = off _ (no_set_lem n v d)
some_no_set n (later_no_set {v = int z} d) = off _ ceased
some_no_set n (later_no_set {v = element g k} d) = off _ ceased
some_no_set n (later_no_set {v = Value.set vs} d) = on _ finished (off _ (some_no_set n d))
some_no_set n (later_no_set {v = Value.tuple vs} d) = off _ ceased

pub all_sets : (n : ℕ) {vs : Values} {vss : List Values} → AllSets vs vss → Comes (as_sets n vs) [] (gives vss)
unfolding as_sets as_set
all_sets n no_sets = finished
all_sets n (one_set h) = on _ finished (on _ (all_sets n h) finished)

-- two operands that are to be integers
pub no_number_lem : {B : Type 0} (n : ℕ) (x y : Value) (f : ℤ → ℤ → Outcome B) → NoInteger x ⊎ NoInteger y → Comes (as_integer n x >>= λ j. as_integer n y >>= λ k. f j k) [] (stops 51 n)
unfolding as_integer
no_number_lem n x y f (inl h) = off _ (no_integer n x h)
no_number_lem n (int z) y f (inr h) = on _ finished (off _ (no_integer n y h))
no_number_lem n (element g k) y f (inr h) = off _ ceased
no_number_lem n (Value.set vs) y f (inr h) = off _ ceased
no_number_lem n (Value.tuple vs) y f (inr h) = off _ ceased

pub added : (n : ℕ) (v : Value) (s : Values) → word_count (Value.set (insert_value v s)) ≤ 64 → Comes (add n v s) [] (gives (insert_value v s))
unfolding add add_if
added n v s h = rw (le-leb (word_count (Value.set (insert_value v s))) 64 h) finished

pub too_much : (n : ℕ) (v : Value) (s : Values) → 64 < word_count (Value.set (insert_value v s)) → Comes (add n v s) [] (stops 55 n)
unfolding add add_if
too_much n v s h = rw (lt-leb (word_count (Value.set (insert_value v s))) 64 h) ceased

pub same_count_lem : (n a b : ℕ) → a ≡ b → Comes (same_count n a b) [] (gives tt)
unfolding same_count count_if
same_count_lem n a b h = rw (eq-eqb a b h) finished

pub other_count_lem : (n a b : ℕ) → (a ≡ b → ⊥) → Comes (same_count n a b) [] (stops 51 n)
unfolding same_count count_if
other_count_lem n a b h = rw (ne_eqb a b h) ceased

pub refer_unknown : (n i : ℕ) (xs : Exprs) (scope : Environment) → lookup i scope ≡ unknown → Comes (refer n xs (lookup i scope)) [] (stops 51 n)
unfolding refer
refer_unknown n i none scope e = rw e ceased
refer_unknown n i (more a xs) scope e = rw e ceased

pub refer_generic : (n i : ℕ) (xs : Exprs) (scope : Environment) → lookup i scope ≡ generic → Comes (refer n xs (lookup i scope)) [] (stops 54 n)
unfolding refer
refer_generic n i none scope e = rw e ceased
refer_generic n i (more a xs) scope e = rw e ceased

pub refer_actuals : (n i : ℕ) (a : Expr) (xs : Exprs) (scope : Environment) (v : Value) → lookup i scope ≡ valued v → Comes (refer n (more a xs) (lookup i scope)) [] (stops 51 n)
unfolding refer
refer_actuals n i a xs scope v e = rw e ceased

pub refer_valued : (n i : ℕ) (scope : Environment) (v : Value) {t : List Event} {r : Result Value} → lookup i scope ≡ valued v → Enters n v t r → Comes (refer n none (lookup i scope)) t r
unfolding refer
refer_valued n i scope v e h = rw e (enters_comes h)

pub pair_found : (n : ℕ) (a v : Value) (vs : Values) → Images a vs (cons v nil) → Comes (find_pair n a vs) [] (gives v)
unfolding find_pair image
pair_found n a v vs i = rw (found_where i) finished

pub pair_misfit : (n : ℕ) (a : Value) (vs : Values) → SomeNoPair vs → Comes (find_pair n a vs) [] (stops 51 n)
unfolding find_pair image
pair_misfit n a vs s = rw (misfit_where a s) ceased

pub pair_not_one : (n : ℕ) (a : Value) (vs zs : Values) → Images a vs zs → (count zs ≡ 1 → ⊥) → Comes (find_pair n a vs) [] (stops 52 n)
unfolding find_pair image
pair_not_one n a vs zs i h = rw (undefined_where i h) ceased

pub whole : (n : ℕ) (o : Operator) (j k z : ℤ) {t : List Event} {r : Result Value} → calculate o j k ≡ Ok z → Enters n (int z) t r → Comes (keep_integer n (calculate o j k)) t r
unfolding keep_integer
whole n o j k z e h = rw e (enters_comes h)

pub no_result_lem : (n : ℕ) (o : Operator) (j k : ℤ) → calculate o j k ≡ (Err Undefined) → Comes (keep_integer n (calculate o j k)) [] (stops 52 n)
unfolding keep_integer
no_result_lem n o j k e = rw e ceased

pub past_32 : (n : ℕ) (o : Operator) (j k : ℤ) → calculate o j k ≡ (Err Outside) → Comes (keep_integer n (calculate o j k)) [] (stops 53 n)
unfolding keep_integer
past_32 n o j k e = rw e ceased

-- any other E than ℤ, Power and Product is worked out anew
pub worked_anew : (a : Expr) (f : Environment → Outcome Value) (v : Value) (scope : Environment) → Another a → test_expr a f v scope ≡ (f scope >>= among_members (expr_node a) v)
unfolding test_expr expr_node
worked_anew _ f v scope Listing.a_reference = refl
worked_anew _ f v scope Listing.a_number = refl
worked_anew _ f v scope Listing.a_set_of = refl
worked_anew _ f v scope Listing.a_tuple_of = refl
worked_anew _ f v scope Listing.an_application = refl
worked_anew _ f v scope Listing.a_selection = refl
worked_anew _ f v scope Listing.a_theta = refl
worked_anew _ f v scope Listing.a_schema_set = refl
worked_anew _ f v scope Listing.an_arithmetic = refl
worked_anew _ f v scope Listing.a_comprehension = refl
