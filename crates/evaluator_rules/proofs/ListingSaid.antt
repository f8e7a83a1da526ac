-- What the evaluating functions give is what the sentences of the list say (specs/Listing).
use mathlib.Core.Path.{◌≡◌, refl, sym, subst}
use mathlib.Core.Logic.{inl, inr}
use mathlib.Core.List.{List, [], ◌∷◌, ◌++◌, append-nil}
use mathlib.Core.Bool.{Bool, true, false}
use Prim.Native.Nat.{ℕ}
use native.Mathlib.Omega.{arith}
use lib.IntN.{ℤ}
use lib.Dec.{eqb}
use borrow.Author.Tests.{eqb-true, eq-eqb}
use Rattle.values.specs.Value.{Value, int, Values, nil, cons, count}
use Rattle.values.specs.SetValues.{Image}
use Rattle.values_integers.specs.Integer.{Computed}
use Rattle.std.proofs.Common.{Ok, Err}
use Rattle.values_integers.specs.declared.integer.ArithmeticError.TheVariants.{Undefined, Outside}
use Rattle.reader_rules.specs.Tree.{Connective, and, or, implies, Quantifier, forall, exists}
use Rattle.reader_rules.specs.Tree.{Expr, reference, number, integers, set, tuple, product, power, application, selection, theta, schema_set, arithmetic}
use Rattle.reader_rules.specs.Tree.{comprehension, Exprs, none, more, Pred, truth, equal, member, at_most, connected, quantified, Text, text, Lines, end}
use Rattle.reader_rules.specs.Tree.{declaration, inclusion, include, expr_node, exprs_length}
use Rattle.reader_rules.specs.Tree as Tree
use Rattle.evaluator_rules.specs.Outcomes.{Event, Outcome, ◌>>=◌, pure, keep}
use Rattle.evaluator_rules.specs.Environment.{Environment, Meaning, valued, generic, unknown, lookup, refer}
use Rattle.evaluator_rules.specs.Operations.{add, image, find_pair, keep_integer, calculate, connect, all_pass, count_if, same_count}
use Rattle.evaluator_rules.specs.Assignments.{Domains, Flow, go, halt, Body, next, assign, flow_of, truth_of, gathered}
use Rattle.evaluator_rules.specs.Rules.{among_members, stop_include, eval_expr, eval_exprs, eval_members, eval_pred, eval_lines, test_expr, test_exprs}
use Rattle.evaluator_rules.specs.Claims.{no_integers, no_select, no_theta, no_schema_set}
use Rattle.evaluator_rules.specs.Applications.{SomeNoPair, Images}
use Rattle.evaluator_rules.specs.Listing
use Rattle.evaluator_rules.specs.Listing.{Result, gives, stops, Another, Works, WorksAll, Fills, Tells, Declares, Gathers, Quantifies, Tests, TestsMembers, TestsParts, deciding, decided, stops_at, assignments}
use Rattle.evaluator_rules.proofs.Images.{Finds, misfits, finds_one, finds_not_one, finds}
use Rattle.evaluator_rules.proofs.Assignments.{over, assign_over}
use Rattle.evaluator_rules.proofs.Said.{filtered, mapped, Says, pure_says, stop_says, bind_says, truth_says, other_says, assoc_says, silent_says, go_says, keep_says, integer_says, set_says, sets_say, tuple_says, add_says}

-- a Ref, after its actuals
refer_says : (n i : ℕ) (xs : Exprs) (scope : Environment) (t : List Event) (vs : Values) (x : Meaning) → lookup i scope ≡ x → WorksAll xs scope t (gives vs) → Says (λ u r. Works (reference n i xs) scope (t ++ u) r) (refer n xs x)
unfolding refer
refer_says n i none scope _ _ (valued v) e Listing.none_left = keep_says n v (λ l r k. Listing.name_valued e k)
refer_says n i (more a xs) scope t vs (valued v) e h = stop_says (rw append-nil (Listing.name_with_actuals h e))
refer_says n i none scope t vs generic e h = stop_says (rw append-nil (Listing.name_generic h e))
refer_says n i (more a xs) scope t vs generic e h = stop_says (rw append-nil (Listing.name_generic h e))
refer_says n i none scope t vs unknown e h = stop_says (rw append-nil (Listing.name_unknown h e))
refer_says n i (more a xs) scope t vs unknown e h = stop_says (rw append-nil (Listing.name_unknown h e))

pair_says : {B : Type 0} (n : ℕ) (a : Value) (vs : Values) {Q : List Event → Result B → Type 0} (f : Value → Outcome B)
    → ((v : Value) → Images a vs (cons v nil) → Says Q (f v)) → (SomeNoPair vs → Q [] (stops 51 n)) → ((zs : Values) → Images a vs zs → (count zs ≡ 1 → ⊥) → Q [] (stops 52 n)) → Says Q (find_pair n a vs >>= f)
unfolding find_pair image ◌>>=◌
pair_says n a vs {Q = Q} f k l m = go (finds a vs)
  where
    go : {i : Image} → Finds a vs i → Says Q (image n i >>= f)
    go (misfits s) = stop_says (l s)
    go (finds_one {v = v} i) = silent_says v f (k v i)
    go (finds_not_one {zs = zs} i h) = stop_says (m zs i h)

whole_says : (n : ℕ) (i : Computed) {Q : List Event → Result Value → Type 0} → ((z : ℤ) → i ≡ Ok z → Says Q (keep n (int z))) → (i ≡ (Err Undefined) → Q [] (stops 52 n)) → (i ≡ (Err Outside) → Q [] (stops 53 n)) → Says Q (keep_integer n i)
unfolding keep_integer
whole_says n (Ok z) k l m = k z refl
whole_says n (Err Undefined) k l m = stop_says (l refl)
whole_says n (Err Outside) k l m = stop_says (m refl)

count_says : {B : Type 0} (n a b : ℕ) {Q : List Event → Result B → Type 0} (f : Unit {0} → Outcome B) → (a ≡ b → Says Q (f tt)) → ((a ≡ b → ⊥) → Q [] (stops 51 n)) → Says Q (same_count n a b >>= f)
unfolding same_count count_if ◌>>=◌
count_says n a b {Q = Q} f k l = either (eqb a b) refl
  where
    either : (c : Bool) → eqb a b ≡ c → Says Q (count_if c n >>= f)
    either true e = silent_says tt f (k (eqb-true a b e))
    either false e = stop_says (l (λ h. let z : true ≡ false = cc (eq-eqb a b h) in let x : ◌≡◌ {A = ℕ} 0 1 = cc in omega arith))

connect_says : (n : ℕ) (o : Connective) (p q : Pred) (scope : Environment) (t : List Event) (b : Bool) (right : Outcome Bool) → Tells p scope t (gives b) → Says (Tells q scope) right
    → Says (λ u r. Tells (connected n o p q) scope (t ++ u) r) (connect o b (λ _. right))
unfolding connect deciding decided
connect_says n and p q scope t true right h k = other_says k (λ u r j. Listing.right_told h j)
connect_says n and p q scope t false right h k = pure_says (rw append-nil (Listing.right_skipped h))
connect_says n or p q scope t true right h k = pure_says (rw append-nil (Listing.right_skipped h))
connect_says n or p q scope t false right h k = other_says k (λ u r j. Listing.right_told h j)
connect_says n implies p q scope t true right h k = other_says k (λ u r j. Listing.right_told h j)
connect_says n implies p q scope t false right h k = pure_says (rw append-nil (Listing.right_skipped h))

another_says : (a : Expr) (scope : Environment) (v : Value) {value : Outcome Value} → Another a → Says (Works a scope) value → Says (Tests a scope v) (value >>= among_members (expr_node a) v)
unfolding among_members
another_says a scope v o h =
    bind_says h
    (λ t x k. set_says (expr_node a) x _ (λ vs e. pure_says (rw append-nil (Listing.anew_looked o (rw e at k)))) (λ no. rw append-nil (Listing.anew_no_set o k no)))
    (λ t w m k. Listing.anew_stops o k)

members_says : (a : Expr) (scope : Environment) (f : Value → Outcome Bool) → ((v : Value) → Says (Tests a scope v) (f v)) → (vs : Values) → Says (TestsMembers a scope vs) (all_pass vs f)
unfolding all_pass
members_says a scope f k nil = pure_says Listing.all_members_pass
members_says a scope f k (cons v vs) =
    truth_says _ (k v) (λ t h. other_says (members_says a scope f k vs) (λ u r j. Listing.member_passes h j)) (λ t h. pure_says (rw append-nil (Listing.member_misses h))) (λ t w m h. Listing.member_test_stops h)

module _ (p : Pred) (says : (x : Environment) → Says (Tells p x) (eval_pred p x)) where
  flow_says : (q : Quantifier) (b : Pred) (x : Environment) (xs : List Environment) (t u : List Event) (c : Bool) (rest : Values → Outcome Flow) → Tells p x t (gives true) → Tells b x u (gives c)
      → ((s : Values) → Says (λ l r. Quantifies q p b xs l (mapped (truth_of q) r)) (rest s))
      → Says (λ l r. Quantifies q p b (x ∷ xs) (t ++ (u ++ l)) (mapped (truth_of q) r)) (pure (flow_of q c) >>= next rest)
  unfolding flow_of truth_of stops_at next ◌>>=◌
  flow_says forall b x xs t u true rest h k j = go_says nil rest (other_says (j nil) (λ l r i. Listing.claim_goes_on h k i))
  flow_says forall b x xs t u false rest h k j = silent_says halt (next rest) (pure_says (rw append-nil (Listing.claim_ends h k)))
  flow_says exists b x xs t u true rest h k j = silent_says halt (next rest) (pure_says (rw append-nil (Listing.claim_ends h k)))
  flow_says exists b x xs t u false rest h k j = go_says nil rest (other_says (j nil) (λ l r i. Listing.claim_goes_on h k i))

  quantifies_says : (q : Quantifier) (b : Pred) → ((x : Environment) → Says (Tells b x) (eval_pred b x)) → (xs : List Environment) (s : Values)
      → Says (λ t r. Quantifies q p b xs t (mapped (truth_of q) r)) (over xs (filtered p (λ scope s'. eval_pred b scope >>= λ c. pure (flow_of q c))) s)
  unfolding over truth_of stops_at
  quantifies_says forall b claims [] s = pure_says Listing.all_tried
  quantifies_says exists b claims [] s = pure_says Listing.all_tried
  quantifies_says q b claims (x ∷ xs) s =
      assoc_says _ _ _
      (truth_says _ (says x)
      (λ t h. assoc_says _ _ _ (bind_says (claims x) (λ u c k. flow_says q b x xs t u c _ h k (λ s'. quantifies_says q b claims xs s')) (λ u w m k. Listing.claim_stops h k)))
      (λ t h. go_says s _ (other_says (quantifies_says q b claims xs s) (λ u r i. Listing.passed_over h i)))
      (λ t w m h. Listing.guard_stops h))

  gathers_says : (n : ℕ) (a : Expr) → ((x : Environment) → Says (Works a x) (eval_expr a x)) → (xs : List Environment) (s : Values)
      → Says (λ t r. Gathers n p a xs s t (mapped gathered r)) (over xs (filtered p (λ scope s'. eval_expr a scope >>= λ v. add n v s' >>= λ s''. pure (go s''))) s)
  unfolding over gathered
  gathers_says n a works [] s = pure_says Listing.none_to_add
  gathers_says n a works (x ∷ xs) s =
      assoc_says _ _ _
      (truth_says _ (says x)
      (λ t h. assoc_says _ _ _ (bind_says (works x)
      (λ u v k. assoc_says _ _ _ (add_says n v s _ (λ e. go_says _ _ (other_says (gathers_says n a works xs _) (λ l r i. Listing.body_added h k e i))) (λ e. rw append-nil (Listing.body_too_much h k e))))
      (λ u w m k. Listing.body_stops h k)))
      (λ t h. go_says s _ (other_says (gathers_says n a works xs s) (λ u r i. Listing.filtered_out h i)))
      (λ t w m h. Listing.filter_stops h))

-- what is known of a Text: its predicate and its lines
data TextSays : Text → Type 0 where
  text_says_lem : {k : ℕ} {p : Pred} {ls : Lines} → ((scope : Environment) → Says (Tells p scope) (eval_pred p scope)) → ((scope : Environment) → Says (Declares ls scope) (eval_lines ls scope)) → TextSays (text k p ls)

-- the runs through a Text's sets, as one run over its assignments
over_says : {B : Type 0} (ds : Domains) (k : Body) (scope : Environment) (s : Values) {Q : List Event → Result B → Type 0} (f : Flow → Outcome B) → Says Q (over (assignments ds scope) k s >>= f) → Says Q (assign ds k scope s >>= f)
over_says ds k scope s {Q = Q} f h = subst (λ (o : Outcome Flow). Says Q (o >>= f)) (sym (assign_over ds k scope s)) h

quantified_says : (n : ℕ) (q : Quantifier) (x : Text) (b : Pred) → TextSays x → ((scope : Environment) → Says (Tells b scope) (eval_pred b scope)) → (scope : Environment) → Says (Tells (quantified n q x b) scope) (eval_pred (quantified n q x b) scope)
unfolding eval_expr
quantified_says n q _ b (text_says_lem {p = p} says lines) claims scope =
    assoc_says _ _ _
    (bind_says (lines scope)
    (λ t ds h. over_says ds _ scope nil _ (bind_says (quantifies_says p says q b claims (assignments ds scope) nil) (λ u f i. pure_says (rw append-nil (Listing.over_text h i))) (λ u w m i. Listing.over_text h i)))
    (λ t w m h. Listing.text_stops h))

comprehension_says : (n : ℕ) (x : Text) (a : Expr) → TextSays x → ((scope : Environment) → Says (Works a scope) (eval_expr a scope)) → (scope : Environment) → Says (Works (comprehension n x a) scope) (eval_expr (comprehension n x a) scope)
unfolding eval_expr
comprehension_says n _ a (text_says_lem {p = p} says lines) works scope =
    assoc_says _ _ _
    (bind_says (lines scope)
    (λ t ds h. over_says ds _ scope nil _
    (bind_says (gathers_says p says n a works (assignments ds scope) nil) (λ u f i. keep_says n _ (λ l r k. Listing.all_gathered h i k)) (λ u w m i. Listing.bodies_stop h i)))
    (λ t w m h. Listing.sets_stop h))

mutual
  unfolding eval_expr expr_node stop_include exprs_length count

  pub expr_says : (a : Expr) (scope : Environment) → Says (Works a scope) (eval_expr a scope)
  expr_says (reference n i xs) scope = bind_says (exprs_says xs scope) (λ t vs h. refer_says n i xs scope t vs _ refl h) (λ t w m h. Listing.actuals_stop h)
  expr_says (number n k) scope = keep_says n _ (λ t r e. Listing.a_literal e)
  expr_says (integers n) scope = stop_says (Listing.not_run (no_integers n))
  expr_says (set n xs) scope = bind_says (members_say xs n scope nil) (λ t vs h. keep_says n _ (λ u r e. Listing.a_set h e)) (λ t w m h. Listing.members_stop h)
  expr_says (tuple n xs) scope = bind_says (exprs_says xs scope) (λ t vs h. keep_says n _ (λ u r e. Listing.a_tuple h e)) (λ t w m h. Listing.parts_stop h)
  expr_says (product n xs) scope =
      bind_says (exprs_says xs scope) (λ t vs h. sets_say n vs _ (λ vss e. keep_says n _ (λ u r k. Listing.a_product h e k)) (λ no. rw append-nil (Listing.no_factor h no))) (λ t w m h. Listing.factors_stop h)
  expr_says (power n a) scope =
      bind_says (expr_says a scope) (λ t x h. set_says n x _ (λ vs e. keep_says n _ (λ u r k. Listing.a_power (rw e at h) k)) (λ no. rw append-nil (Listing.no_base h no))) (λ t w m h. Listing.base_stops h)
  expr_says (application n f a) scope =
      bind_says (expr_says f scope)
      (λ t x h. bind_says (expr_says a scope)
      (λ u y k. set_says n x _
      (λ vs e. pair_says n y vs _ (λ v g. keep_says n v (λ l r j. Listing.applied (rw e at h) k g j)) (λ g. rw append-nil (Listing.no_pair (rw e at h) k g)) (λ zs g o. rw append-nil (Listing.not_one (rw e at h) k g o)))
      (λ no. rw append-nil (Listing.no_function h k no)))
      (λ u w m k. Listing.argument_stops h k))
      (λ t w m h. Listing.function_stops h)
  expr_says (selection n a i) scope = stop_says (Listing.not_run (no_select n a i))
  expr_says (theta n s k) scope = stop_says (Listing.not_run (no_theta n s k))
  expr_says (schema_set n i) scope = stop_says (Listing.not_run (no_schema_set n i))
  expr_says (arithmetic n o a b) scope =
      bind_says (expr_says a scope)
      (λ t x h. bind_says (expr_says b scope)
      (λ u y k. integer_says n x _
      (λ i d. integer_says n y _
      (λ j e. whole_says n (calculate o i j) (λ z g. keep_says n _ (λ l r c. Listing.calculated (rw d at h) (rw e at k) g c)) (λ g. rw append-nil (Listing.no_result (rw d at h) (rw e at k) g)) (λ g. rw append-nil (Listing.outside (rw d at h) (rw e at k) g)))
      (λ no. rw append-nil (Listing.no_number h k (inr no))))
      (λ no. rw append-nil (Listing.no_number h k (inl no))))
      (λ u w m k. Listing.right_stops h k))
      (λ t w m h. Listing.left_stops h)
  expr_says (comprehension n x a) scope = comprehension_says n x a (text_says x) (λ scope'. expr_says a scope') scope

  pub exprs_says : (xs : Exprs) (scope : Environment) → Says (WorksAll xs scope) (eval_exprs xs scope)
  exprs_says none scope = pure_says Listing.none_left
  exprs_says (more a xs) scope =
      bind_says (expr_says a scope) (λ t v h. bind_says (exprs_says xs scope) (λ u vs k. pure_says (rw append-nil (Listing.all_worked h k))) (λ u w m k. Listing.later_stops h k)) (λ t w m h. Listing.first_stops h)

  pub members_say : (xs : Exprs) (n : ℕ) (scope : Environment) (s : Values) → Says (Fills xs n scope s) (eval_members xs n scope s)
  members_say none n scope s = pure_says Listing.filled
  members_say (more a xs) n scope s =
      bind_says (expr_says a scope)
      (λ t v h. add_says n v s _ (λ e. other_says (members_say xs n scope _) (λ u r k. Listing.member_added h e k)) (λ e. rw append-nil (Listing.member_too_much h e)))
      (λ t w m h. Listing.member_stops h)

  pub pred_says : (p : Pred) (scope : Environment) → Says (Tells p scope) (eval_pred p scope)
  pred_says (truth n) scope = pure_says Listing.is_true
  pred_says (equal n a b) scope =
      bind_says (expr_says a scope) (λ t x h. bind_says (expr_says b scope) (λ u y k. pure_says (rw append-nil (Listing.compared h k))) (λ u w m k. Listing.equal_right_stops h k)) (λ t w m h. Listing.equal_left_stops h)
  pred_says (member n a b) scope =
      bind_says (expr_says a scope) (λ t x h. other_says (test_says b _ x scope (λ scope'. expr_says b scope')) (λ u r k. Listing.tested h k)) (λ t w m h. Listing.member_left_stops h)
  pred_says (at_most n a b) scope =
      bind_says (expr_says a scope)
      (λ t x h. bind_says (expr_says b scope)
      (λ u y k. integer_says n x _
      (λ i d. integer_says n y _ (λ j e. pure_says (rw append-nil (Listing.ordered (rw d at h) (rw e at k)))) (λ no. rw append-nil (Listing.not_numbers h k (inr no))))
      (λ no. rw append-nil (Listing.not_numbers h k (inl no))))
      (λ u w m k. Listing.at_most_right_stops h k))
      (λ t w m h. Listing.at_most_left_stops h)
  pred_says (Tree.not n p) scope = bind_says (pred_says p scope) (λ t b h. pure_says (rw append-nil (Listing.negated h))) (λ t w m h. Listing.not_stops h)
  pred_says (connected n o p q) scope = bind_says (pred_says p scope) (λ t b h. connect_says n o p q scope t b _ h (pred_says q scope)) (λ t w m h. Listing.side_stops h)
  pred_says (quantified n q x b) scope = quantified_says n q x b (text_says x) (λ scope'. pred_says b scope') scope

  text_says : (x : Text) → TextSays x
  text_says (text k p ls) = text_says_lem (λ scope. pred_says p scope) (λ scope. lines_say ls scope)

  pub lines_say : (ls : Lines) (scope : Environment) → Says (Declares ls scope) (eval_lines ls scope)
  lines_say end scope = pure_says Listing.no_line
  lines_say (declaration n a is ls) scope =
      bind_says (expr_says a scope)
      (λ t v h. set_says n v _
      (λ vs e. bind_says (lines_say ls scope) (λ u ds k. pure_says (rw append-nil (Listing.declared (rw e at h) k))) (λ u w m k. Listing.later_line_stops (rw e at h) k))
      (λ no. rw append-nil (Listing.decl_no_set h no)))
      (λ t w m h. Listing.decl_stops h)
  lines_say (inclusion (include n s k xs rs) ls) scope = stop_says Listing.included

  pub test_says : (a : Expr) (f : Environment → Outcome Value) (v : Value) (scope : Environment) → ((scope' : Environment) → Says (Works a scope') (f scope')) → Says (Tests a scope v) (test_expr a f v scope)
  test_says (reference n i xs) f v scope h = another_says _ scope v Listing.a_reference (h scope)
  test_says (number n k) f v scope h = another_says _ scope v Listing.a_number (h scope)
  test_says (integers n) f v scope h = integer_says n v _ (λ z e. rw e (pure_says Listing.an_integer)) (λ no. Listing.not_an_integer no)
  test_says (set n xs) f v scope h = another_says _ scope v Listing.a_set_of (h scope)
  test_says (tuple n xs) f v scope h = another_says _ scope v Listing.a_tuple_of (h scope)
  test_says (product n xs) f v scope h =
      tuple_says n v _ (λ vs e. rw e (count_says n (exprs_length xs) (count vs) _ (λ c. other_says (parts_say xs vs scope c) (λ u r k. Listing.in_product c k)) (λ c. Listing.other_count c))) (λ no. Listing.not_atuple no)
  test_says (power n a) f v scope h =
      set_says n v _ (λ vs e. rw e (other_says (members_says a scope _ (λ w. test_says a _ w scope (λ scope'. expr_says a scope')) vs) (λ u r k. Listing.a_subset k))) (λ no. Listing.not_aset no)
  test_says (application n g a) f v scope h = another_says _ scope v Listing.an_application (h scope)
  test_says (selection n a i) f v scope h = another_says _ scope v Listing.a_selection (h scope)
  test_says (theta n s k) f v scope h = another_says _ scope v Listing.a_theta (h scope)
  test_says (schema_set n i) f v scope h = another_says _ scope v Listing.a_schema_set (h scope)
  test_says (arithmetic n o a b) f v scope h = another_says _ scope v Listing.an_arithmetic (h scope)
  test_says (comprehension n x a) f v scope h = another_says _ scope v Listing.a_comprehension (h scope)

  pub parts_say : (xs : Exprs) (vs : Values) (scope : Environment) → exprs_length xs ≡ count vs → Says (TestsParts xs scope vs) (test_exprs xs vs scope)
  parts_say none nil scope c = pure_says Listing.all_parts_pass
  parts_say none (cons v vs) scope c = absurd (omega arith)
  parts_say (more a xs) nil scope c = absurd (omega arith)
  parts_say (more a xs) (cons v vs) scope c =
      truth_says _ (test_says a _ v scope (λ scope'. expr_says a scope')) (λ t h. other_says (parts_say xs vs scope (omega arith)) (λ u r k. Listing.part_passes h k)) (λ t h. pure_says (rw append-nil (Listing.part_misses h)))
      (λ t w m h. Listing.part_test_stops h)
