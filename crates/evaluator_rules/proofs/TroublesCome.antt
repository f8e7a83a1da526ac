-- An evaluation stops wherever one that it reaches stops, and at its own node with a number whose row holds of it (specs/Troubles).
use mathlib.Core.List.{List, ◌∷◌}
use Prim.Native.Nat.{ℕ}
use mathlib.Core.Bool.{Bool}
use Rattle.values.specs.Value.{Value, Values, cons}
use Rattle.values.specs.Value as Value
use Rattle.reader_rules.specs.Tree.{Quantifier, Expr, reference, integers, set, tuple, product, power, application, arithmetic, comprehension, Exprs, more, Pred, equal, member, at_most}
use Rattle.reader_rules.specs.Tree.{connected, quantified, text, declaration, inclusion, include, none}
use Rattle.reader_rules.specs.Tree as Tree
use Rattle.evaluator_rules.specs.Environment.{Environment}
use Rattle.evaluator_rules.specs.Rules.{eval_expr, stop_include}
use Rattle.evaluator_rules.specs.Listing
use Rattle.evaluator_rules.specs.Listing.{Result, stops, WorksAll, Fills, Gathers, Quantifies, TestsMembers, TestsParts}
use Rattle.evaluator_rules.specs.Evaluations
use Rattle.evaluator_rules.specs.Evaluations.{Stops, broke, Evaluation, StopsAt, Operand, Adding, Gathering, Trying, EachMember, EachPart, Reaches}
use Rattle.evaluator_rules.specs.Troubles
use Rattle.evaluator_rules.specs.Troubles.{Row, row51, row52, row53, row54, row55}
use Rattle.evaluator_rules.proofs.OperandValues.{undefined_by, outside_by}
use Rattle.evaluator_rules.proofs.EvaluationLists.{Some, value_said, value_stop, value_stops, values_said, truth_said, truth_stop, truth_stops, sets_said, sets_stop_lem, sets_stops, test_said, test_stop, test_stops}

-- ---- lists of expressions, assignments, members and parts: what comes at the next one comes of the whole list
operand_stops : {scope : Environment} {xs : Exprs} {a : Expr} {w m : ℕ} → Operand scope xs a → Stops (eval_expr a scope) w m → Some (WorksAll xs scope) (stops w m)
operand_stops {scope = scope} (Evaluations.first_operand {a = a}) h = (_, Listing.first_stops (value_stop a scope h).1)
operand_stops {scope = scope} (Evaluations.later_operand {b = b} g k) h = (_, Listing.later_stops (value_said b scope g).1 (operand_stops k h).1)

fills_from : {scope : Environment} {xs : Exprs} {n : ℕ} {s s' : Values} {a : Expr} {r : Result Values} → Adding scope xs s a s' → ((ys : Exprs) → Some (Fills (more a ys) n scope s') r) → Some (Fills xs n scope s) r
fills_from (Evaluations.first_member {xs = ys}) h = h ys
fills_from {scope = scope} (Evaluations.later_member {b = b} g e k) h = (_, Listing.member_added (value_said b scope g).1 e (fills_from k h).1)

gathers_from : {n : ℕ} {p : Pred} {a : Expr} {xs : List Environment} {s s' : Values} {x : Environment} {r : Result Values} → Gathering p a xs s x s' → ((ys : List Environment) → Some (Gathers n p a (x ∷ ys) s') r) → Some (Gathers n p a xs s) r
gathers_from (Evaluations.first_gathered {xs = ys}) h = h ys
gathers_from {p = p} (Evaluations.left_out {y = y} g k) h = (_, Listing.filtered_out (truth_said p y g).1 (gathers_from k h).1)
gathers_from {p = p} {a = a} (Evaluations.added {y = y} g b e k) h = (_, Listing.body_added (truth_said p y g).1 (value_said a y b).1 e (gathers_from k h).1)

quantifies_from : {q : Quantifier} {p b : Pred} {xs : List Environment} {x : Environment} {r : Result Bool} → Trying q p b xs x → ((ys : List Environment) → Some (Quantifies q p b (x ∷ ys)) r) → Some (Quantifies q p b xs) r
quantifies_from (Evaluations.first_tried {xs = ys}) h = h ys
quantifies_from {p = p} (Evaluations.passed_over {y = y} g k) h = (_, Listing.passed_over (truth_said p y g).1 (quantifies_from k h).1)
quantifies_from {p = p} {b = b} (Evaluations.tried {y = y} g c k) h = (_, Listing.claim_goes_on (truth_said p y g).1 (truth_said b y c).1 (quantifies_from k h).1)

members_from : {a : Expr} {scope : Environment} {vs : Values} {v : Value} {r : Result Bool} → EachMember a scope vs v → ((us : Values) → Some (TestsMembers a scope (cons v us)) r) → Some (TestsMembers a scope vs) r
members_from (Evaluations.first_tested {vs = us}) h = h us
members_from {a = a} {scope = scope} (Evaluations.later_tested {u = u} g k) h = (_, Listing.member_passes (test_said a scope u g).1 (members_from k h).1)

parts_from : {scope : Environment} {xs : Exprs} {vs : Values} {a : Expr} {v : Value} {r : Result Bool} → EachPart scope xs vs a v → ((ys : Exprs) (us : Values) → Some (TestsParts (more a ys) scope (cons v us)) r) → Some (TestsParts xs scope vs) r
parts_from (Evaluations.first_part {xs = ys} {vs = us}) h = h ys us
parts_from {scope = scope} (Evaluations.later_part {b = b} {u = u} g k) h = (_, Listing.part_passes (test_said b scope u g).1 (parts_from k h).1)

-- ---- from one that is reached
pub reached_stops : {t u : Evaluation} (w m : ℕ) → Reaches t u → StopsAt u w m → StopsAt t w m
unfolding StopsAt stop_include
reached_stops w m (Evaluations.actual {n = n} {i = i} {xs = xs} {scope = scope} k) h = value_stops (reference n i xs) scope (Listing.actuals_stop (operand_stops k h).1)
reached_stops w m (Evaluations.set_member {n = n} {xs = xs} {a = a} {scope = scope} k) h =
    value_stops (set n xs) scope (Listing.members_stop (fills_from k (λ ys. (_, Listing.member_stops (value_stop a scope h).1))).1)
reached_stops w m (Evaluations.tuple_part {n = n} {xs = xs} {scope = scope} k) h = value_stops (tuple n xs) scope (Listing.parts_stop (operand_stops k h).1)
reached_stops w m (Evaluations.power_base {n = n} {a = a} {scope = scope}) h = value_stops (power n a) scope (Listing.base_stops (value_stop a scope h).1)
reached_stops w m (Evaluations.product_factor {n = n} {xs = xs} {scope = scope} k) h = value_stops (product n xs) scope (Listing.factors_stop (operand_stops k h).1)
reached_stops w m (Evaluations.function {n = n} {f = f} {a = a} {scope = scope}) h = value_stops (application n f a) scope (Listing.function_stops (value_stop f scope h).1)
reached_stops w m (Evaluations.argument {n = n} {f = f} {a = a} {scope = scope} g) h = value_stops (application n f a) scope (Listing.argument_stops (value_said f scope g).1 (value_stop a scope h).1)
reached_stops w m (Evaluations.left_number {n = n} {o = o} {a = a} {b = b} {scope = scope}) h = value_stops (arithmetic n o a b) scope (Listing.left_stops (value_stop a scope h).1)
reached_stops w m (Evaluations.right_number {n = n} {o = o} {a = a} {b = b} {scope = scope} g) h = value_stops (arithmetic n o a b) scope (Listing.right_stops (value_said a scope g).1 (value_stop b scope h).1)
reached_stops w m (Evaluations.gathered_sets {n = n} {k = k} {p = p} {ls = ls} {a = a} {scope = scope}) h = value_stops (comprehension n (text k p ls) a) scope (Listing.sets_stop (sets_stop_lem ls scope h).1)
reached_stops w m (Evaluations.gathered_where {n = n} {k = k} {p = p} {ls = ls} {a = a} {scope = scope} {x = x} g j) h =
    value_stops (comprehension n (text k p ls) a) scope (Listing.bodies_stop (sets_said ls scope g).1 (gathers_from j (λ ys. (_, Listing.filter_stops (truth_stop p x h).1))).1)
reached_stops w m (Evaluations.gathered_body {n = n} {k = k} {p = p} {ls = ls} {a = a} {scope = scope} {x = x} g j c) h =
    value_stops (comprehension n (text k p ls) a) scope (Listing.bodies_stop (sets_said ls scope g).1 (gathers_from j (λ ys. (_, Listing.body_stops (truth_said p x c).1 (value_stop a x h).1))).1)
reached_stops w m (Evaluations.left_equal {n = n} {a = a} {b = b} {scope = scope}) h = truth_stops (equal n a b) scope (Listing.equal_left_stops (value_stop a scope h).1)
reached_stops w m (Evaluations.right_equal {n = n} {a = a} {b = b} {scope = scope} g) h = truth_stops (equal n a b) scope (Listing.equal_right_stops (value_said a scope g).1 (value_stop b scope h).1)
reached_stops w m (Evaluations.left_member {n = n} {a = a} {b = b} {scope = scope}) h = truth_stops (member n a b) scope (Listing.member_left_stops (value_stop a scope h).1)
reached_stops w m (Evaluations.member_test {n = n} {a = a} {b = b} {v = v} {scope = scope} g) h = truth_stops (member n a b) scope (Listing.tested (value_said a scope g).1 (test_stop b scope v h).1)
reached_stops w m (Evaluations.left_at_most {n = n} {a = a} {b = b} {scope = scope}) h = truth_stops (at_most n a b) scope (Listing.at_most_left_stops (value_stop a scope h).1)
reached_stops w m (Evaluations.right_at_most {n = n} {a = a} {b = b} {scope = scope} g) h = truth_stops (at_most n a b) scope (Listing.at_most_right_stops (value_said a scope g).1 (value_stop b scope h).1)
reached_stops w m (Evaluations.negated {n = n} {p = p} {scope = scope}) h = truth_stops (Tree.not n p) scope (Listing.not_stops (truth_stop p scope h).1)
reached_stops w m (Evaluations.left_side {n = n} {o = o} {p = p} {q = q} {scope = scope}) h = truth_stops (connected n o p q) scope (Listing.side_stops (truth_stop p scope h).1)
reached_stops w m (Evaluations.right_side {n = n} {o = o} {p = p} {q = q} {scope = scope} g) h = truth_stops (connected n o p q) scope (Listing.right_told (truth_said p scope g).1 (truth_stop q scope h).1)
reached_stops w m (Evaluations.tried_sets {n = n} {k = k} {q = q} {p = p} {b = b} {ls = ls} {scope = scope}) h = truth_stops (quantified n q (text k p ls) b) scope (Listing.text_stops (sets_stop_lem ls scope h).1)
reached_stops w m (Evaluations.tried_where {n = n} {k = k} {q = q} {p = p} {b = b} {ls = ls} {scope = scope} {x = x} g j) h =
    truth_stops (quantified n q (text k p ls) b) scope (Listing.over_text (sets_said ls scope g).1 (quantifies_from j (λ ys. (_, Listing.guard_stops (truth_stop p x h).1))).1)
reached_stops w m (Evaluations.tried_body {n = n} {k = k} {q = q} {p = p} {b = b} {ls = ls} {scope = scope} {x = x} g j c) h =
    truth_stops (quantified n q (text k p ls) b) scope (Listing.over_text (sets_said ls scope g).1 (quantifies_from j (λ ys. (_, Listing.claim_stops (truth_said p x c).1 (truth_stop b x h).1))).1)
reached_stops w m (Evaluations.declared {n = n} {a = a} {is = is} {ls = ls} {scope = scope}) h = sets_stops (declaration n a is ls) scope (Listing.decl_stops (value_stop a scope h).1)
reached_stops w m (Evaluations.next_line {n = n} {a = a} {is = is} {ls = ls} {scope = scope} g) h = sets_stops (declaration n a is ls) scope (Listing.later_line_stops (value_said a scope g).1 (sets_stop_lem ls scope h).1)
reached_stops _ _ (Evaluations.included {i = include n s k xs rs} {ls = ls} {scope = scope}) broke = sets_stops (inclusion (include n s k xs rs) ls) scope Listing.included
reached_stops w m (Evaluations.power_member {n = n} {a = a} {v = v} {vs = vs} {scope = scope} k) h =
    test_stops (power n a) scope (Value.set vs) (Listing.a_subset (members_from k (λ us. (_, Listing.member_test_stops (test_stop a scope v h).1))).1)
reached_stops w m (Evaluations.product_part {n = n} {xs = xs} {a = a} {v = v} {vs = vs} {scope = scope} e k) h =
    test_stops (product n xs) scope (Value.tuple vs) (Listing.in_product e (parts_from k (λ ys us. (_, Listing.part_test_stops (test_stop a scope v h).1))).1)
reached_stops w m (Evaluations.anew {a = a} {v = v} {scope = scope} o) h = test_stops a scope v (Listing.anew_stops o (value_stop a scope h).1)

-- ---- at its own node
misfit_stops : {t : Evaluation} {m : ℕ} → Troubles.Misfit t m → StopsAt t 51 m
unfolding StopsAt
misfit_stops (Troubles.name_unknown {n = n} {i = i} {xs = xs} {scope = scope} g e) = value_stops (reference n i xs) scope (Listing.name_unknown (values_said xs scope g).1 e)
misfit_stops (Troubles.actuals_on_name {n = n} {i = i} {a = a} {xs = xs} {scope = scope} g e) = value_stops (reference n i (more a xs)) scope (Listing.name_with_actuals (values_said (more a xs) scope g).1 e)
misfit_stops (Troubles.no_function {n = n} {f = f} {a = a} {scope = scope} g h d) = value_stops (application n f a) scope (Listing.no_function (value_said f scope g).1 (value_said a scope h).1 d)
misfit_stops (Troubles.no_pair {n = n} {f = f} {a = a} {scope = scope} g h d) = value_stops (application n f a) scope (Listing.no_pair (value_said f scope g).1 (value_said a scope h).1 d)
misfit_stops (Troubles.no_base {n = n} {a = a} {scope = scope} g d) = value_stops (power n a) scope (Listing.no_base (value_said a scope g).1 d)
misfit_stops (Troubles.no_factor {n = n} {xs = xs} {scope = scope} g d) = value_stops (product n xs) scope (Listing.no_factor (values_said xs scope g).1 d)
misfit_stops (Troubles.no_number {n = n} {o = o} {a = a} {b = b} {scope = scope} g h d) = value_stops (arithmetic n o a b) scope (Listing.no_number (value_said a scope g).1 (value_said b scope h).1 d)
misfit_stops (Troubles.not_numbers {n = n} {a = a} {b = b} {scope = scope} g h d) = truth_stops (at_most n a b) scope (Listing.not_numbers (value_said a scope g).1 (value_said b scope h).1 d)
misfit_stops (Troubles.no_set_to_run {n = n} {a = a} {is = is} {ls = ls} {scope = scope} g d) = sets_stops (declaration n a is ls) scope (Listing.decl_no_set (value_said a scope g).1 d)
misfit_stops (Troubles.not_integer {n = n} {v = v} {scope = scope} d) = test_stops (integers n) scope v (Listing.not_an_integer d)
misfit_stops (Troubles.not_set {n = n} {a = a} {v = v} {scope = scope} d) = test_stops (power n a) scope v (Listing.not_aset d)
misfit_stops (Troubles.not_tuple {n = n} {xs = xs} {v = v} {scope = scope} d) = test_stops (product n xs) scope v (Listing.not_atuple d)
misfit_stops (Troubles.other_count {n = n} {xs = xs} {vs = vs} {scope = scope} d) = test_stops (product n xs) scope (Value.tuple vs) (Listing.other_count d)
misfit_stops (Troubles.no_set_anew {a = a} {v = v} {scope = scope} o g d) = test_stops a scope v (Listing.anew_no_set o (value_said a scope g).1 d)

none_stops : {t : Evaluation} {m : ℕ} → Troubles.NoResult t m → StopsAt t 52 m
unfolding StopsAt
none_stops (Troubles.not_one {n = n} {f = f} {a = a} {scope = scope} g h i d) = value_stops (application n f a) scope (Listing.not_one (value_said f scope g).1 (value_said a scope h).1 i d)
none_stops (Troubles.no_divisor {n = n} {o = o} {a = a} {b = b} {j = j} {k = k} {scope = scope} g h d e) =
    value_stops (arithmetic n o a b) scope (Listing.no_result (value_said a scope g).1 (value_said b scope h).1 (undefined_by j k d e))

outside_stops : {t : Evaluation} {m : ℕ} → Troubles.PastBits t m → StopsAt t 53 m
unfolding StopsAt
outside_stops (Troubles.outside {n = n} {o = o} {a = a} {b = b} {scope = scope} g h d) =
    value_stops (arithmetic n o a b) scope (Listing.outside (value_said a scope g).1 (value_said b scope h).1 (outside_by d))

unrun_stops : {t : Evaluation} {m : ℕ} → Troubles.Unrun t m → StopsAt t 54 m
unfolding StopsAt stop_include
unrun_stops (Troubles.name_generic {n = n} {i = i} {xs = xs} {scope = scope} g e) = value_stops (reference n i xs) scope (Listing.name_generic (values_said xs scope g).1 e)
unrun_stops (Troubles.as_value {a = a} {scope = scope} h) = value_stops a scope (Listing.not_run h)
unrun_stops Troubles.include_line = broke

long_stops : {t : Evaluation} {m : ℕ} → Troubles.TooLong t m → StopsAt t 55 m
unfolding StopsAt
long_stops (Troubles.name_too_long {n = n} {i = i} {scope = scope} e l) = value_stops (reference n i none) scope (Listing.name_valued e (Listing.too_long l))
long_stops (Troubles.tuple_too_long {n = n} {xs = xs} {scope = scope} g l) = value_stops (tuple n xs) scope (Listing.a_tuple (values_said xs scope g).1 (Listing.too_long l))
long_stops (Troubles.power_too_long {n = n} {a = a} {scope = scope} g l) = value_stops (power n a) scope (Listing.a_power (value_said a scope g).1 (Listing.too_long l))
long_stops (Troubles.product_too_long {n = n} {xs = xs} {scope = scope} g e l) = value_stops (product n xs) scope (Listing.a_product (values_said xs scope g).1 e (Listing.too_long l))
long_stops (Troubles.member_too_much {n = n} {xs = xs} {a = a} {scope = scope} k g l) =
    value_stops (set n xs) scope (Listing.members_stop (fills_from k (λ ys. (_, Listing.member_too_much (value_said a scope g).1 l))).1)
long_stops (Troubles.body_too_much {n = n} {k = k} {p = p} {ls = ls} {a = a} {scope = scope} {x = x} g j c b l) =
    value_stops (comprehension n (text k p ls) a) scope (Listing.bodies_stop (sets_said ls scope g).1 (gathers_from j (λ ys. (_, Listing.body_too_much (truth_said p x c).1 (value_said a x b).1 l))).1)

pub row_stops : {t : Evaluation} {w m : ℕ} → Row w m t → StopsAt t w m
row_stops (row51 h) = misfit_stops h
row_stops (row52 h) = none_stops h
row_stops (row53 h) = outside_stops h
row_stops (row54 h) = unrun_stops h
row_stops (row55 h) = long_stops h
