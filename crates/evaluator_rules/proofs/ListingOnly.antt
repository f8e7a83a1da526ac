-- What the sentences of the list say is what the evaluating functions give, so they say one thing only.
use mathlib.Core.Path.{sym, subst}
use mathlib.Core.List.{List, []}
use mathlib.Core.Bool.{Bool, not}
use Prim.Native.Nat.{ℕ}
use Rattle.values.specs.Value.{Value, Values, nil, count}
use Rattle.reader_rules.specs.Tree.{Connective, and, or, implies, Quantifier, forall, exists}
use Rattle.reader_rules.specs.Tree.{Expr, reference, number, integers, set, tuple, product, power, application, selection, theta, schema_set, arithmetic}
use Rattle.reader_rules.specs.Tree.{comprehension, Exprs, none, more, Pred, truth, equal, member, at_most, connected, quantified, Text, text, Lines, end}
use Rattle.reader_rules.specs.Tree.{declaration, inclusion, expr_node, exprs_length}
use Rattle.reader_rules.specs.Tree as Tree
use Rattle.evaluator_rules.specs.Outcomes.{Event, Outcome, ◌>>=◌, pure}
use Rattle.evaluator_rules.specs.Environment.{Environment}
use Rattle.evaluator_rules.specs.Operations.{as_integer, as_set, as_tuple, add, connect, all_pass}
use Rattle.evaluator_rules.specs.Assignments.{Domains, Flow, go, Body, next, assign, flow_of, truth_of, gathered}
use Rattle.evaluator_rules.specs.Rules.{among_members, stop_include, eval_expr, eval_exprs, eval_members, eval_pred, eval_lines, test_expr, test_exprs}
use Rattle.evaluator_rules.specs.Claims.{NotRun}
use Rattle.evaluator_rules.specs.Listing
use Rattle.evaluator_rules.specs.Listing.{Result, gives, stops, Another, Works, WorksAll, Fills, Tells, Declares, Gathers, Quantifies, Tests, TestsMembers, TestsParts, deciding, decided, stops_at, assignments}
use Rattle.evaluator_rules.proofs.RuleLaws.{not_run_lem}
use Rattle.evaluator_rules.proofs.Assignments.{over, assign_over}
use Rattle.evaluator_rules.proofs.Said.{filtered, mapped}
use Rattle.evaluator_rules.proofs.Comes.{Comes, finished, ceased, on, last, off, assoc_comes, enters_comes, no_integer, no_set_lem, some_no_set, all_sets, no_tuple, no_number_lem, added, too_much, same_count_lem, other_count_lem}
use Rattle.evaluator_rules.proofs.Comes.{refer_unknown, refer_generic, refer_actuals, refer_valued, pair_found, pair_misfit, pair_not_one, whole, no_result_lem, past_32, worked_anew}

not_run_comes : (a : Expr) (scope : Environment) → NotRun a → Comes (eval_expr a scope) [] (stops 54 (expr_node a))
not_run_comes a scope h = rw (not_run_lem a h scope) ceased

skipped : (o : Connective) (right : Outcome Bool) → Comes (connect o (deciding o) (λ _. right)) [] (gives (decided o))
unfolding connect deciding decided
skipped and right = finished
skipped or right = finished
skipped implies right = finished

not_skipped : (o : Connective) {right : Outcome Bool} {t : List Event} {r : Result Bool} → Comes right t r → Comes (connect o (not (deciding o)) (λ _. right)) t r
unfolding connect deciding
not_skipped and h = h
not_skipped or h = h
not_skipped implies h = h

flow_ends : (q : Quantifier) (rest : Values → Outcome Flow) → Comes (next rest (flow_of q (stops_at q)) >>= λ f. pure (truth_of q f)) [] (gives (stops_at q))
unfolding next flow_of stops_at truth_of
flow_ends forall rest = on _ finished finished
flow_ends exists rest = on _ finished finished

flow_goes : (q : Quantifier) (rest : Values → Outcome Flow) {t : List Event} {r : Result Bool} → Comes (rest nil >>= λ f. pure (truth_of q f)) t r
    → Comes (next rest (flow_of q (not (stops_at q))) >>= λ f. pure (truth_of q f)) t r
unfolding next flow_of stops_at
flow_goes forall rest h = h
flow_goes exists rest h = h

all_tried_lem : (q : Quantifier) (s : Values) → Comes (pure (go s) >>= λ f. pure (truth_of q f)) [] (gives (not (stops_at q)))
unfolding stops_at truth_of
all_tried_lem forall s = on _ finished finished
all_tried_lem exists s = on _ finished finished

over_comes : {B : Type 0} (ds : Domains) (k : Body) (scope : Environment) (s : Values) (f : Flow → Outcome B) {t : List Event} {r : Result B} → Comes (over (assignments ds scope) k s >>= f) t r → Comes (assign ds k scope s >>= f) t r
over_comes ds k scope s f {t = t} {r = r} h = subst (λ (o : Outcome Flow). Comes (o >>= f) t r) (sym (assign_over ds k scope s)) h

anew : (a : Expr) (f : Environment → Outcome Value) (v : Value) (scope : Environment) {t : List Event} {r : Result Bool} → Another a → Comes (f scope >>= among_members (expr_node a) v) t r → Comes (test_expr a f v scope) t r
anew a f v scope {t = t} {r = r} o h = subst (λ (x : Outcome Bool). Comes x t r) (sym (worked_anew a f v scope o)) h

-- a quantifier's claim, a Comprehension's body
abbrev claimed : Quantifier → Pred → Body
claimed q b scope s = eval_pred b scope >>= λ c. pure (flow_of q c)

abbrev collected : ℕ → Expr → Body
collected n a scope s = eval_expr a scope >>= λ v. add n v s >>= λ s'. pure (go s')

-- what is to be shown of each sort of tree
pub record OnlyExpr (a : Expr) : Type 0 where
  pub works : (scope : Environment) (t : List Event) (r : Result Value) → Works a scope t r → Comes (eval_expr a scope) t r
  pub tests : (scope : Environment) (v : Value) (t : List Event) (r : Result Bool) → Tests a scope v t r → Comes (test_expr a (λ scope'. eval_expr a scope') v scope) t r

pub record OnlyExprs (xs : Exprs) : Type 0 where
  pub works : (scope : Environment) (t : List Event) (r : Result Values) → WorksAll xs scope t r → Comes (eval_exprs xs scope) t r
  pub fills : (n : ℕ) (scope : Environment) (s : Values) (t : List Event) (r : Result Values) → Fills xs n scope s t r → Comes (eval_members xs n scope s) t r
  pub tests : (scope : Environment) (vs : Values) (t : List Event) (r : Result Bool) → TestsParts xs scope vs t r → Comes (test_exprs xs vs scope) t r

pub record OnlyPred (p : Pred) : Type 0 where
  pub tells : (scope : Environment) (t : List Event) (r : Result Bool) → Tells p scope t r → Comes (eval_pred p scope) t r

pub record OnlyLines (ls : Lines) : Type 0 where
  pub declares : (scope : Environment) (t : List Event) (r : Result Domains) → Declares ls scope t r → Comes (eval_lines ls scope) t r

abbrev OnlyText : Text → Type 0
OnlyText (text k p ls) = OnlyPred p × OnlyLines ls

-- the same of what stands directly below a node
abbrev BelowExpr : Expr → Type 0
BelowExpr (reference n i xs) = OnlyExprs xs
BelowExpr (number n k) = Unit {0}
BelowExpr (integers n) = Unit {0}
BelowExpr (set n xs) = OnlyExprs xs
BelowExpr (tuple n xs) = OnlyExprs xs
BelowExpr (product n xs) = OnlyExprs xs
BelowExpr (power n a) = OnlyExpr a
BelowExpr (application n f a) = OnlyExpr f × OnlyExpr a
BelowExpr (selection n a i) = Unit {0}
BelowExpr (theta n s k) = Unit {0}
BelowExpr (schema_set n i) = Unit {0}
BelowExpr (arithmetic n o a b) = OnlyExpr a × OnlyExpr b
BelowExpr (comprehension n x a) = OnlyText x × OnlyExpr a

abbrev BelowExprs : Exprs → Type 0
BelowExprs none = Unit {0}
BelowExprs (more a xs) = OnlyExpr a × OnlyExprs xs

abbrev BelowPred : Pred → Type 0
BelowPred (truth n) = Unit {0}
BelowPred (equal n a b) = OnlyExpr a × OnlyExpr b
BelowPred (member n a b) = OnlyExpr a × OnlyExpr b
BelowPred (at_most n a b) = OnlyExpr a × OnlyExpr b
BelowPred (Tree.not n p) = OnlyPred p
BelowPred (connected n o p q) = OnlyPred p × OnlyPred q
BelowPred (quantified n q x b) = OnlyText x × OnlyPred b

abbrev BelowLines : Lines → Type 0
BelowLines end = Unit {0}
BelowLines (declaration n a is ls) = OnlyExpr a × OnlyLines ls
BelowLines (inclusion i ls) = Unit {0}

gathers_comes : {n : ℕ} {p : Pred} {a : Expr} {xs : List Environment} {s : Values} {t : List Event} {r : Result Values} → Gathers n p a xs s t r → OnlyPred p → OnlyExpr a → Comes (over xs (filtered p (collected n a)) s) t (mapped go r)
unfolding over next
gathers_comes Listing.none_to_add P A = finished
gathers_comes (Listing.filter_stops h) P A = off _ (off _ (P.tells _ _ _ h))
gathers_comes (Listing.filtered_out h k) P A = on _ (last _ (P.tells _ _ _ h) finished) (gathers_comes k P A)
gathers_comes (Listing.body_stops h k) P A = off _ (on _ (P.tells _ _ _ h) (off _ (A.works _ _ _ k)))
gathers_comes (Listing.body_too_much {n = n} {s = s} {v = v} h k e) P A = off _ (on _ (P.tells _ _ _ h) (last _ (A.works _ _ _ k) (off _ (too_much n v s e))))
gathers_comes (Listing.body_added {n = n} {s = s} {v = v} h k e j) P A =
    assoc_comes _ _ _ (on _ (P.tells _ _ _ h) (assoc_comes _ _ _ (on _ (A.works _ _ _ k) (assoc_comes _ _ _ (on _ (added n v s e) (on _ finished (gathers_comes j P A)))))))

quantifies_comes : {q : Quantifier} {p b : Pred} {xs : List Environment} {t : List Event} {r : Result Bool} → Quantifies q p b xs t r → OnlyPred p → OnlyPred b → (s : Values)
    → Comes (over xs (filtered p (claimed q b)) s >>= λ f. pure (truth_of q f)) t r
unfolding over next
quantifies_comes (Listing.all_tried {q = q}) P B s = all_tried_lem q s
quantifies_comes (Listing.guard_stops h) P B s = off _ (off _ (off _ (P.tells _ _ _ h)))
quantifies_comes (Listing.passed_over h k) P B s = assoc_comes _ _ _ (on _ (last _ (P.tells _ _ _ h) finished) (quantifies_comes k P B s))
quantifies_comes (Listing.claim_stops h k) P B s = off _ (off _ (on _ (P.tells _ _ _ h) (off _ (B.tells _ _ _ k))))
quantifies_comes (Listing.claim_ends {q = q} h k) P B s = assoc_comes _ _ _ (last _ (on _ (P.tells _ _ _ h) (last _ (B.tells _ _ _ k) finished)) (flow_ends q _))
quantifies_comes (Listing.claim_goes_on {q = q} h k j) P B s =
    assoc_comes _ _ _ (assoc_comes _ _ _ (on _ (P.tells _ _ _ h) (assoc_comes _ _ _ (on _ (B.tells _ _ _ k) (on _ finished (flow_goes q _ (quantifies_comes j P B nil)))))))

members_come : {a : Expr} {scope : Environment} {vs : Values} {t : List Event} {r : Result Bool} → TestsMembers a scope vs t r → OnlyExpr a → Comes (all_pass vs (λ w. test_expr a (λ scope'. eval_expr a scope') w scope)) t r
unfolding all_pass
members_come Listing.all_members_pass A = finished
members_come (Listing.member_test_stops h) A = off _ (A.tests _ _ _ _ h)
members_come (Listing.member_misses h) A = last _ (A.tests _ _ _ _ h) finished
members_come (Listing.member_passes h k) A = on _ (A.tests _ _ _ _ h) (members_come k A)

works_comes : {a : Expr} {scope : Environment} {t : List Event} {r : Result Value} → Works a scope t r → BelowExpr a → Comes (eval_expr a scope) t r
unfolding eval_expr as_integer as_set gathered
works_comes (Listing.actuals_stop h) b = off _ (b.works _ _ _ h)
works_comes (Listing.name_unknown {n = n} {i = i} {xs = xs} h e) b = last _ (b.works _ _ _ h) (refer_unknown n i xs _ e)
works_comes (Listing.name_generic {n = n} {i = i} {xs = xs} h e) b = last _ (b.works _ _ _ h) (refer_generic n i xs _ e)
works_comes (Listing.name_with_actuals {n = n} {i = i} {a = a} {xs = xs} {v = v} h e) b = last _ (b.works _ _ _ h) (refer_actuals n i a xs _ v e)
works_comes (Listing.name_valued {n = n} {i = i} {scope = scope} {v = v} e h) b = on _ finished (refer_valued n i scope v e h)
works_comes (Listing.a_literal h) b = enters_comes h
works_comes (Listing.not_run {a = a} {scope = scope} h) b = not_run_comes a scope h
works_comes (Listing.members_stop h) b = off _ (b.fills _ _ _ _ _ h)
works_comes (Listing.a_set h k) b = on _ (b.fills _ _ _ _ _ h) (enters_comes k)
works_comes (Listing.parts_stop h) b = off _ (b.works _ _ _ h)
works_comes (Listing.a_tuple h k) b = on _ (b.works _ _ _ h) (enters_comes k)
works_comes (Listing.base_stops h) b = off _ (b.works _ _ _ h)
works_comes (Listing.no_base {n = n} {x = x} h d) b = last _ (b.works _ _ _ h) (off _ (no_set_lem n x d))
works_comes (Listing.a_power h k) b = on _ (b.works _ _ _ h) (on _ finished (enters_comes k))
works_comes (Listing.factors_stop h) b = off _ (b.works _ _ _ h)
works_comes (Listing.no_factor {n = n} h d) b = last _ (b.works _ _ _ h) (off _ (some_no_set n d))
works_comes (Listing.a_product {n = n} h e k) b = on _ (b.works _ _ _ h) (on _ (all_sets n e) (enters_comes k))
works_comes (Listing.function_stops h) b = off _ (b.0.works _ _ _ h)
works_comes (Listing.argument_stops h k) b = on _ (b.0.works _ _ _ h) (off _ (b.1.works _ _ _ k))
works_comes (Listing.no_function {n = n} {x = x} h k d) b = on _ (b.0.works _ _ _ h) (last _ (b.1.works _ _ _ k) (off _ (no_set_lem n x d)))
works_comes (Listing.no_pair {n = n} {vs = vs} {y = y} h k e) b = on _ (b.0.works _ _ _ h) (last _ (b.1.works _ _ _ k) (on _ finished (off _ (pair_misfit n y vs e))))
works_comes (Listing.not_one {n = n} {vs = vs} {zs = zs} {y = y} h k i e) b = on _ (b.0.works _ _ _ h) (last _ (b.1.works _ _ _ k) (on _ finished (off _ (pair_not_one n y vs zs i e))))
works_comes (Listing.applied {n = n} {vs = vs} {y = y} {v = v} h k e j) b = on _ (b.0.works _ _ _ h) (on _ (b.1.works _ _ _ k) (on _ finished (on _ (pair_found n y v vs e) (enters_comes j))))
works_comes (Listing.left_stops h) b = off _ (b.0.works _ _ _ h)
works_comes (Listing.right_stops h k) b = on _ (b.0.works _ _ _ h) (off _ (b.1.works _ _ _ k))
works_comes (Listing.no_number {n = n} {x = x} {y = y} h k d) b = on _ (b.0.works _ _ _ h) (last _ (b.1.works _ _ _ k) (no_number_lem n x y _ d))
works_comes (Listing.no_result {n = n} {o = o} {j = j} {k = k} g h e) b = on _ (b.0.works _ _ _ g) (last _ (b.1.works _ _ _ h) (on _ finished (on _ finished (no_result_lem n o j k e))))
works_comes (Listing.outside {n = n} {o = o} {j = j} {k = k} g h e) b = on _ (b.0.works _ _ _ g) (last _ (b.1.works _ _ _ h) (on _ finished (on _ finished (past_32 n o j k e))))
works_comes (Listing.calculated {n = n} {o = o} {j = j} {k = k} {z = z} g h e c) b = on _ (b.0.works _ _ _ g) (on _ (b.1.works _ _ _ h) (on _ finished (on _ finished (whole n o j k z e c))))
works_comes (Listing.sets_stop h) b = assoc_comes _ _ _ (off _ (b.0.1.declares _ _ _ h))
works_comes (Listing.bodies_stop {scope = scope} {ds = ds} h k) b = assoc_comes _ _ _ (on _ (b.0.1.declares _ _ _ h) (over_comes ds _ scope nil _ (off _ (gathers_comes k b.0.0 b.1))))
works_comes (Listing.all_gathered {scope = scope} {ds = ds} h k e) b = assoc_comes _ _ _ (on _ (b.0.1.declares _ _ _ h) (over_comes ds _ scope nil _ (on _ (gathers_comes k b.0.0 b.1) (enters_comes e))))

tests_come : {a : Expr} {scope : Environment} {v : Value} {t : List Event} {r : Result Bool} → Tests a scope v t r → BelowExpr a → Comes (test_expr a (λ scope'. eval_expr a scope') v scope) t r
unfolding test_expr as_integer as_set as_tuple among_members
tests_come Listing.an_integer b = on _ finished finished
tests_come (Listing.not_an_integer {n = n} {v = v} d) b = off _ (no_integer n v d)
tests_come (Listing.a_subset h) b = on _ finished (members_come h b)
tests_come (Listing.not_aset {n = n} {v = v} d) b = off _ (no_set_lem n v d)
tests_come (Listing.in_product {n = n} {xs = xs} {vs = vs} e h) b = on _ finished (on _ (same_count_lem n (exprs_length xs) (count vs) e) (b.tests _ _ _ _ h))
tests_come (Listing.other_count {n = n} {xs = xs} {vs = vs} d) b = on _ finished (off _ (other_count_lem n (exprs_length xs) (count vs) d))
tests_come (Listing.not_atuple {n = n} {v = v} d) b = off _ (no_tuple n v d)
tests_come (Listing.anew_stops {a = a} {scope = scope} {v = v} o h) b = anew a _ v scope o (off _ (works_comes h b))
tests_come (Listing.anew_no_set {a = a} {scope = scope} {v = v} {x = x} o h d) b = anew a _ v scope o (last _ (works_comes h b) (off _ (no_set_lem (expr_node a) x d)))
tests_come (Listing.anew_looked {a = a} {scope = scope} {v = v} o h) b = anew a _ v scope o (last _ (works_comes h b) (on _ finished finished))

all_come : {xs : Exprs} {scope : Environment} {t : List Event} {r : Result Values} → WorksAll xs scope t r → BelowExprs xs → Comes (eval_exprs xs scope) t r
unfolding eval_exprs
all_come Listing.none_left b = finished
all_come (Listing.first_stops h) b = off _ (b.0.works _ _ _ h)
all_come (Listing.later_stops h k) b = on _ (b.0.works _ _ _ h) (off _ (b.1.works _ _ _ k))
all_come (Listing.all_worked h k) b = on _ (b.0.works _ _ _ h) (last _ (b.1.works _ _ _ k) finished)

fills_come : {xs : Exprs} {n : ℕ} {scope : Environment} {s : Values} {t : List Event} {r : Result Values} → Fills xs n scope s t r → BelowExprs xs → Comes (eval_members xs n scope s) t r
unfolding eval_members
fills_come Listing.filled b = finished
fills_come (Listing.member_stops h) b = off _ (b.0.works _ _ _ h)
fills_come (Listing.member_too_much {n = n} {s = s} {v = v} h e) b = last _ (b.0.works _ _ _ h) (off _ (too_much n v s e))
fills_come (Listing.member_added {n = n} {s = s} {v = v} h e k) b = on _ (b.0.works _ _ _ h) (on _ (added n v s e) (b.1.fills _ _ _ _ _ k))

parts_come : {xs : Exprs} {scope : Environment} {vs : Values} {t : List Event} {r : Result Bool} → TestsParts xs scope vs t r → BelowExprs xs → Comes (test_exprs xs vs scope) t r
unfolding test_exprs
parts_come Listing.all_parts_pass b = finished
parts_come (Listing.part_test_stops h) b = off _ (b.0.tests _ _ _ _ h)
parts_come (Listing.part_misses h) b = last _ (b.0.tests _ _ _ _ h) finished
parts_come (Listing.part_passes h k) b = on _ (b.0.tests _ _ _ _ h) (b.1.tests _ _ _ _ k)

tells_come : {p : Pred} {scope : Environment} {t : List Event} {r : Result Bool} → Tells p scope t r → BelowPred p → Comes (eval_pred p scope) t r
unfolding eval_pred as_integer
tells_come Listing.is_true b = finished
tells_come (Listing.equal_left_stops h) b = off _ (b.0.works _ _ _ h)
tells_come (Listing.equal_right_stops h k) b = on _ (b.0.works _ _ _ h) (off _ (b.1.works _ _ _ k))
tells_come (Listing.compared h k) b = on _ (b.0.works _ _ _ h) (last _ (b.1.works _ _ _ k) finished)
tells_come (Listing.member_left_stops h) b = off _ (b.0.works _ _ _ h)
tells_come (Listing.tested h k) b = on _ (b.0.works _ _ _ h) (b.1.tests _ _ _ _ k)
tells_come (Listing.at_most_left_stops h) b = off _ (b.0.works _ _ _ h)
tells_come (Listing.at_most_right_stops h k) b = on _ (b.0.works _ _ _ h) (off _ (b.1.works _ _ _ k))
tells_come (Listing.not_numbers {n = n} {x = x} {y = y} h k d) b = on _ (b.0.works _ _ _ h) (last _ (b.1.works _ _ _ k) (no_number_lem n x y _ d))
tells_come (Listing.ordered h k) b = on _ (b.0.works _ _ _ h) (last _ (b.1.works _ _ _ k) (on _ finished (on _ finished finished)))
tells_come (Listing.not_stops h) b = off _ (b.tells _ _ _ h)
tells_come (Listing.negated h) b = last _ (b.tells _ _ _ h) finished
tells_come (Listing.side_stops h) b = off _ (b.0.tells _ _ _ h)
tells_come (Listing.right_skipped {o = o} h) b = last _ (b.0.tells _ _ _ h) (skipped o _)
tells_come (Listing.right_told {o = o} h k) b = on _ (b.0.tells _ _ _ h) (not_skipped o (b.1.tells _ _ _ k))
tells_come (Listing.text_stops h) b = assoc_comes _ _ _ (off _ (b.0.1.declares _ _ _ h))
tells_come (Listing.over_text {scope = scope} {ds = ds} h k) b = assoc_comes _ _ _ (on _ (b.0.1.declares _ _ _ h) (over_comes ds _ scope nil _ (quantifies_comes k b.0.0 b.1 nil)))

lines_come : {ls : Lines} {scope : Environment} {t : List Event} {r : Result Domains} → Declares ls scope t r → BelowLines ls → Comes (eval_lines ls scope) t r
unfolding eval_lines as_set stop_include
lines_come Listing.no_line b = finished
lines_come (Listing.decl_stops h) b = off _ (b.0.works _ _ _ h)
lines_come (Listing.decl_no_set {n = n} {v = v} h d) b = last _ (b.0.works _ _ _ h) (off _ (no_set_lem n v d))
lines_come (Listing.later_line_stops h k) b = on _ (b.0.works _ _ _ h) (on _ finished (off _ (b.1.declares _ _ _ k)))
lines_come (Listing.declared h k) b = on _ (b.0.works _ _ _ h) (on _ finished (last _ (b.1.declares _ _ _ k) finished))
lines_come Listing.included b = ceased

of_expr : (a : Expr) → BelowExpr a → OnlyExpr a
of_expr a b = record { works = λ scope t r h. works_comes h b; tests = λ scope v t r h. tests_come h b }

of_exprs : (xs : Exprs) → BelowExprs xs → OnlyExprs xs
of_exprs xs b = record { works = λ scope t r h. all_come h b; fills = λ n scope s t r h. fills_come h b; tests = λ scope vs t r h. parts_come h b }

of_pred : (p : Pred) → BelowPred p → OnlyPred p
of_pred p b = record { tells = λ scope t r h. tells_come h b }

of_lines : (ls : Lines) → BelowLines ls → OnlyLines ls
of_lines ls b = record { declares = λ scope t r h. lines_come h b }

mutual
  pub only_expr : (a : Expr) → OnlyExpr a
  only_expr (reference n i xs) = of_expr (reference n i xs) (only_exprs xs)
  only_expr (number n k) = of_expr (number n k) tt
  only_expr (integers n) = of_expr (integers n) tt
  only_expr (set n xs) = of_expr (set n xs) (only_exprs xs)
  only_expr (tuple n xs) = of_expr (tuple n xs) (only_exprs xs)
  only_expr (product n xs) = of_expr (product n xs) (only_exprs xs)
  only_expr (power n a) = of_expr (power n a) (only_expr a)
  only_expr (application n f a) = of_expr (application n f a) (only_expr f, only_expr a)
  only_expr (selection n a i) = of_expr (selection n a i) tt
  only_expr (theta n s k) = of_expr (theta n s k) tt
  only_expr (schema_set n i) = of_expr (schema_set n i) tt
  only_expr (arithmetic n o a b) = of_expr (arithmetic n o a b) (only_expr a, only_expr b)
  only_expr (comprehension n x a) = of_expr (comprehension n x a) (only_text x, only_expr a)

  pub only_exprs : (xs : Exprs) → OnlyExprs xs
  only_exprs none = of_exprs none tt
  only_exprs (more a xs) = of_exprs (more a xs) (only_expr a, only_exprs xs)

  pub only_pred : (p : Pred) → OnlyPred p
  only_pred (truth n) = of_pred (truth n) tt
  only_pred (equal n a b) = of_pred (equal n a b) (only_expr a, only_expr b)
  only_pred (member n a b) = of_pred (member n a b) (only_expr a, only_expr b)
  only_pred (at_most n a b) = of_pred (at_most n a b) (only_expr a, only_expr b)
  only_pred (Tree.not n p) = of_pred (Tree.not n p) (only_pred p)
  only_pred (connected n o p q) = of_pred (connected n o p q) (only_pred p, only_pred q)
  only_pred (quantified n q x b) = of_pred (quantified n q x b) (only_text x, only_pred b)

  only_text : (x : Text) → OnlyText x
  only_text (text k p ls) = (only_pred p, only_lines ls)

  pub only_lines : (ls : Lines) → OnlyLines ls
  only_lines end = of_lines end tt
  only_lines (declaration n a is ls) = of_lines (declaration n a is ls) (only_expr a, only_lines ls)
  only_lines (inclusion i ls) = of_lines (inclusion i ls) tt
