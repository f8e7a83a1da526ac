-- An evaluation stops only where one that it reaches stops, or at its own node with a number whose row holds of it (specs/Troubles).
use mathlib.Core.Logic.{◌⊎◌, inl, inr}
use mathlib.Core.List.{List, ◌∷◌}
use mathlib.Core.Bool.{true, false, not}
use Prim.Native.Nat.{ℕ, ◌≤◌, ◌<◌}
use native.Mathlib.Omega.{arith}
use lib.IntN.{ℤ, pos}
use Rattle.values.specs.Value.{Value, int, Values, nil, encode}
use Rattle.values.specs.Value as Value
use Rattle.values.specs.SetValues.{insert_value}
use Rattle.reader_rules.specs.Tree.{Quantifier, Expr, set, comprehension, Exprs, more, Pred, quantified, text, Lines, Include, include}
use Rattle.evaluator_rules.specs.WordCount.{word_count}
use Rattle.evaluator_rules.specs.Outcomes.{Event}
use Rattle.evaluator_rules.specs.Environment.{Environment}
use Rattle.evaluator_rules.specs.Assignments.{Domains}
use Rattle.evaluator_rules.specs.Rules.{eval_expr, eval_pred, eval_lines, test, stop_include}
use Rattle.evaluator_rules.specs.Listing
use Rattle.evaluator_rules.specs.Listing.{gives, stops, Enters, Works, WorksAll, Fills, Tells, Declares, Gathers, Quantifies, Tests, TestsMembers, TestsParts, stops_at, assignments}
use Rattle.evaluator_rules.specs.Evaluations
use Rattle.evaluator_rules.specs.Evaluations.{Gives, Stops, broke, Evaluation, working, telling, testing, declaring, including, StopsAt, RoomFor, Operand, Adding, Gathering, Trying, EachMember, EachPart, Reaches}
use Rattle.evaluator_rules.specs.Troubles
use Rattle.evaluator_rules.specs.Troubles.{Row, row51, row52, row53, row54, row55, Below}
use Rattle.evaluator_rules.proofs.Images.{applied_words}
use Rattle.evaluator_rules.proofs.OperandValues.{no_divisor_lem, exceeds}
use Rattle.evaluator_rules.proofs.EvaluationLists.{value_stop, value_comes, value_stops, values_come, truth_stop, truth_comes, truth_stops, sets_stop_lem, sets_come, sets_stops, test_stop, test_comes, test_stops}

-- ---- lists of expressions, assignments, members and parts
all_found : {xs : Exprs} {scope : Environment} {t : List Event} {w m : ℕ} → WorksAll xs scope t (stops w m) → (a : Expr) × Operand scope xs a × Stops (eval_expr a scope) w m
all_found (Listing.first_stops {a = a} h) = (a, Evaluations.first_operand, value_stops a _ h)
all_found (Listing.later_stops {a = b} h k) = let r = all_found k in (r.0, Evaluations.later_operand (value_comes b _ h) r.1, r.2)

data Filling (xs : Exprs) (n : ℕ) (scope : Environment) (s : Values) : ℕ → ℕ → Type 0 where
  in_member : {a : Expr} {s' : Values} {w m : ℕ} → Adding scope xs s a s' → Stops (eval_expr a scope) w m → Filling xs n scope s w m
  overfull : {a : Expr} {s' : Values} {v : Value} → Adding scope xs s a s' → Gives (eval_expr a scope) v → 64 < word_count (Value.set (insert_value v s')) → Filling xs n scope s 55 n

later_filling : {b : Expr} {xs : Exprs} {n : ℕ} {scope : Environment} {s : Values} {v : Value} {w m : ℕ} → Gives (eval_expr b scope) v → RoomFor (insert_value v s) → Filling xs n scope (insert_value v s) w m → Filling (more b xs) n scope s w m
later_filling g e (in_member h k) = in_member (Evaluations.later_member g e h) k
later_filling g e (overfull h k l) = overfull (Evaluations.later_member g e h) k l

fills_found : {xs : Exprs} {n : ℕ} {scope : Environment} {s : Values} {t : List Event} {w m : ℕ} → Fills xs n scope s t (stops w m) → Filling xs n scope s w m
fills_found (Listing.member_stops {a = a} h) = in_member Evaluations.first_member (value_stops a _ h)
fills_found (Listing.member_too_much {a = a} h l) = overfull Evaluations.first_member (value_comes a _ h) l
fills_found (Listing.member_added {a = a} h e k) = later_filling (value_comes a _ h) e (fills_found k)

data Gatherings (n : ℕ) (p : Pred) (a : Expr) (xs : List Environment) (s : Values) : ℕ → ℕ → Type 0 where
  in_filter : {x : Environment} {s' : Values} {w m : ℕ} → Gathering p a xs s x s' → Stops (eval_pred p x) w m → Gatherings n p a xs s w m
  in_body : {x : Environment} {s' : Values} {w m : ℕ} → Gathering p a xs s x s' → Gives (eval_pred p x) true → Stops (eval_expr a x) w m → Gatherings n p a xs s w m
  too_many : {x : Environment} {s' : Values} {v : Value} → Gathering p a xs s x s' → Gives (eval_pred p x) true → Gives (eval_expr a x) v → 64 < word_count (Value.set (insert_value v s')) → Gatherings n p a xs s 55 n

out_gathering : {n : ℕ} {p : Pred} {a : Expr} {y : Environment} {xs : List Environment} {s : Values} {w m : ℕ} → Gives (eval_pred p y) false → Gatherings n p a xs s w m → Gatherings n p a (y ∷ xs) s w m
out_gathering g (in_filter h k) = in_filter (Evaluations.left_out g h) k
out_gathering g (in_body h k l) = in_body (Evaluations.left_out g h) k l
out_gathering g (too_many h k l e) = too_many (Evaluations.left_out g h) k l e

added_gathering : {n : ℕ} {p : Pred} {a : Expr} {y : Environment} {xs : List Environment} {s : Values} {v : Value} {w m : ℕ}
    → Gives (eval_pred p y) true → Gives (eval_expr a y) v → RoomFor (insert_value v s) → Gatherings n p a xs (insert_value v s) w m → Gatherings n p a (y ∷ xs) s w m
added_gathering g b f (in_filter h k) = in_filter (Evaluations.added g b f h) k
added_gathering g b f (in_body h k l) = in_body (Evaluations.added g b f h) k l
added_gathering g b f (too_many h k l e) = too_many (Evaluations.added g b f h) k l e

gathers_found : {n : ℕ} {p : Pred} {a : Expr} {xs : List Environment} {s : Values} {t : List Event} {w m : ℕ} → Gathers n p a xs s t (stops w m) → Gatherings n p a xs s w m
gathers_found (Listing.filter_stops {p = p} h) = in_filter Evaluations.first_gathered (truth_stops p _ h)
gathers_found (Listing.filtered_out {p = p} h k) = out_gathering (truth_comes p _ h) (gathers_found k)
gathers_found (Listing.body_stops {p = p} {a = a} h k) = in_body Evaluations.first_gathered (truth_comes p _ h) (value_stops a _ k)
gathers_found (Listing.body_too_much {p = p} {a = a} h k l) = too_many Evaluations.first_gathered (truth_comes p _ h) (value_comes a _ k) l
gathers_found (Listing.body_added {p = p} {a = a} h k e j) = added_gathering (truth_comes p _ h) (value_comes a _ k) e (gathers_found j)

data Tryings (q : Quantifier) (p b : Pred) (xs : List Environment) : ℕ → ℕ → Type 0 where
  in_guard : {x : Environment} {w m : ℕ} → Trying q p b xs x → Stops (eval_pred p x) w m → Tryings q p b xs w m
  in_claim : {x : Environment} {w m : ℕ} → Trying q p b xs x → Gives (eval_pred p x) true → Stops (eval_pred b x) w m → Tryings q p b xs w m

over_trying : {q : Quantifier} {p b : Pred} {y : Environment} {xs : List Environment} {w m : ℕ} → Gives (eval_pred p y) false → Tryings q p b xs w m → Tryings q p b (y ∷ xs) w m
over_trying g (in_guard h k) = in_guard (Evaluations.passed_over g h) k
over_trying g (in_claim h k l) = in_claim (Evaluations.passed_over g h) k l

next_trying : {q : Quantifier} {p b : Pred} {y : Environment} {xs : List Environment} {w m : ℕ} → Gives (eval_pred p y) true → Gives (eval_pred b y) (not (stops_at q)) → Tryings q p b xs w m → Tryings q p b (y ∷ xs) w m
next_trying g c (in_guard h k) = in_guard (Evaluations.tried g c h) k
next_trying g c (in_claim h k l) = in_claim (Evaluations.tried g c h) k l

quantifies_found : {q : Quantifier} {p b : Pred} {xs : List Environment} {t : List Event} {w m : ℕ} → Quantifies q p b xs t (stops w m) → Tryings q p b xs w m
quantifies_found (Listing.guard_stops {p = p} h) = in_guard Evaluations.first_tried (truth_stops p _ h)
quantifies_found (Listing.passed_over {p = p} h k) = over_trying (truth_comes p _ h) (quantifies_found k)
quantifies_found (Listing.claim_stops {p = p} {b = b} h k) = in_claim Evaluations.first_tried (truth_comes p _ h) (truth_stops b _ k)
quantifies_found (Listing.claim_goes_on {p = p} {b = b} h k j) = next_trying (truth_comes p _ h) (truth_comes b _ k) (quantifies_found j)

members_found : {a : Expr} {scope : Environment} {vs : Values} {t : List Event} {w m : ℕ} → TestsMembers a scope vs t (stops w m) → (v : Value) × EachMember a scope vs v × Stops (test a scope v) w m
members_found (Listing.member_test_stops {a = a} {v = v} h) = (v, Evaluations.first_tested, test_stops a _ v h)
members_found (Listing.member_passes {a = a} {v = u} h k) = let r = members_found k in (r.0, Evaluations.later_tested (test_comes a _ u h) r.1, r.2)

parts_found : {xs : Exprs} {scope : Environment} {vs : Values} {t : List Event} {w m : ℕ} → TestsParts xs scope vs t (stops w m) → (a : Expr) × (v : Value) × EachPart scope xs vs a v × Stops (test a scope v) w m
parts_found (Listing.part_test_stops {a = a} {v = v} h) = (a, v, Evaluations.first_part, test_stops a _ v h)
parts_found (Listing.part_passes {a = b} {v = u} h k) = let r = parts_found k in (r.0, r.1, Evaluations.later_part (test_comes b _ u h) r.2, r.3)

-- ---- values that are never too long
int_short : (z : ℤ) → 64 < word_count (int z) → ⊥
unfolding word_count encode
int_short z h = omega arith

nil_fits : RoomFor nil
unfolding word_count encode
nil_fits = omega arith

fills_fit : {xs : Exprs} {n : ℕ} {scope : Environment} {s vs : Values} {t : List Event} → Fills xs n scope s t (gives vs) → RoomFor s → RoomFor vs
fills_fit Listing.filled f = f
fills_fit (Listing.member_added h e k) f = fills_fit k e

gathers_fit : {n : ℕ} {p : Pred} {a : Expr} {xs : List Environment} {s vs : Values} {t : List Event} → Gathers n p a xs s t (gives vs) → RoomFor s → RoomFor vs
gathers_fit Listing.none_to_add f = f
gathers_fit (Listing.filtered_out h k) f = gathers_fit k f
gathers_fit (Listing.body_added h k e j) f = gathers_fit j e

never : {A : Type 0} (vs : Values) → RoomFor vs → 64 < word_count (Value.set vs) → A
never vs f l = absurd (omega arith)

entry_short : {n : ℕ} {v x : Value} {l : List Event} → Enters n v l (gives x) → word_count x ≤ 64
entry_short (Listing.entered h) = h

entry_long : {n : ℕ} {v : Value} {l : List Event} {w m : ℕ} {a : Expr} {scope : Environment} → (64 < word_count v → Row 55 n (working a scope)) → Enters n v l (stops w m)
    → Below (working a scope) w m ⊎ Row w m (working a scope)
entry_long row (Listing.too_long h) = inr (row h)

-- every value that is worked out has at most 64 words
pub value_short : {a : Expr} {scope : Environment} {t : List Event} {v : Value} → Works a scope t (gives v) → word_count v ≤ 64
value_short (Listing.name_valued e l) = entry_short l
value_short (Listing.a_literal l) = entry_short l
value_short (Listing.a_set h l) = entry_short l
value_short (Listing.a_tuple h l) = entry_short l
value_short (Listing.a_power h l) = entry_short l
value_short (Listing.a_product h e l) = entry_short l
value_short (Listing.applied h k e l) = entry_short l
value_short (Listing.calculated h k e l) = entry_short l
value_short (Listing.all_gathered h k l) = entry_short l

-- ---- each sort of evaluation
below : {t u : Evaluation} {w m : ℕ} → Reaches t u → StopsAt u w m → Below t w m ⊎ Row w m t
below {u = u} r h = inl (u, r, h)

set_found : {n : ℕ} {xs : Exprs} {scope : Environment} {w m : ℕ} → Filling xs n scope nil w m → Below (working (set n xs) scope) w m ⊎ Row w m (working (set n xs) scope)
unfolding StopsAt
set_found (in_member h k) = below (Evaluations.set_member h) k
set_found (overfull h k l) = inr (row55 (Troubles.member_too_much h k l))

gathering_found : {n k : ℕ} {p : Pred} {ls : Lines} {a : Expr} {scope : Environment} {ds : Domains} {w m : ℕ} → Gives (eval_lines ls scope) ds → Gatherings n p a (assignments ds scope) nil w m
    → Below (working (comprehension n (text k p ls) a) scope) w m ⊎ Row w m (working (comprehension n (text k p ls) a) scope)
unfolding StopsAt
gathering_found g (in_filter h k) = below (Evaluations.gathered_where g h) k
gathering_found g (in_body h k l) = below (Evaluations.gathered_body g h k) l
gathering_found g (too_many h k l e) = inr (row55 (Troubles.body_too_much g h k l e))

trying_found : {n k : ℕ} {q : Quantifier} {p b : Pred} {ls : Lines} {scope : Environment} {ds : Domains} {w m : ℕ} → Gives (eval_lines ls scope) ds → Tryings q p b (assignments ds scope) w m
    → Below (telling (quantified n q (text k p ls) b) scope) w m ⊎ Row w m (telling (quantified n q (text k p ls) b) scope)
unfolding StopsAt
trying_found g (in_guard h k) = below (Evaluations.tried_where g h) k
trying_found g (in_claim h k l) = below (Evaluations.tried_body g h k) l

works_found : {a : Expr} {scope : Environment} {t : List Event} {w m : ℕ} → Works a scope t (stops w m) → Below (working a scope) w m ⊎ Row w m (working a scope)
unfolding StopsAt
works_found (Listing.actuals_stop h) = let r = all_found h in below (Evaluations.actual r.1) r.2
works_found (Listing.name_unknown {xs = xs} h e) = inr (row51 (Troubles.name_unknown (values_come xs _ h) e))
works_found (Listing.name_generic {xs = xs} h e) = inr (row54 (Troubles.name_generic (values_come xs _ h) e))
works_found (Listing.name_with_actuals {a = a} {xs = xs} h e) = inr (row51 (Troubles.actuals_on_name (values_come (more a xs) _ h) e))
works_found (Listing.name_valued e l) = entry_long (λ h'. row55 (Troubles.name_too_long e h')) l
works_found (Listing.a_literal {k = k} l) = entry_long (λ h'. absurd (int_short (pos k) h')) l
works_found (Listing.not_run h) = inr (row54 (Troubles.as_value h))
works_found (Listing.members_stop h) = set_found (fills_found h)
works_found (Listing.a_set {vs = vs} h l) = entry_long (λ h'. never vs (fills_fit h nil_fits) h') l
works_found (Listing.parts_stop h) = let r = all_found h in below (Evaluations.tuple_part r.1) r.2
works_found (Listing.a_tuple {xs = xs} h l) = entry_long (λ h'. row55 (Troubles.tuple_too_long (values_come xs _ h) h')) l
works_found (Listing.base_stops {a = a} h) = below Evaluations.power_base (value_stops a _ h)
works_found (Listing.no_base {a = a} h d) = inr (row51 (Troubles.no_base (value_comes a _ h) d))
works_found (Listing.a_power {a = a} h l) = entry_long (λ h'. row55 (Troubles.power_too_long (value_comes a _ h) h')) l
works_found (Listing.factors_stop h) = let r = all_found h in below (Evaluations.product_factor r.1) r.2
works_found (Listing.no_factor {xs = xs} h d) = inr (row51 (Troubles.no_factor (values_come xs _ h) d))
works_found (Listing.a_product {xs = xs} h e l) = entry_long (λ h'. row55 (Troubles.product_too_long (values_come xs _ h) e h')) l
works_found (Listing.function_stops {f = f} h) = below Evaluations.function (value_stops f _ h)
works_found (Listing.argument_stops {f = f} {a = a} h k) = below (Evaluations.argument (value_comes f _ h)) (value_stops a _ k)
works_found (Listing.no_function {f = f} {a = a} h k d) = inr (row51 (Troubles.no_function (value_comes f _ h) (value_comes a _ k) d))
works_found (Listing.no_pair {f = f} {a = a} h k s) = inr (row51 (Troubles.no_pair (value_comes f _ h) (value_comes a _ k) s))
works_found (Listing.not_one {f = f} {a = a} h k i e) = inr (row52 (Troubles.not_one (value_comes f _ h) (value_comes a _ k) i e))
works_found (Listing.applied h k i l) = let n = value_short h in let q = applied_words i in entry_long (λ h'. absurd (omega arith)) l
works_found (Listing.left_stops {a = a} h) = below Evaluations.left_number (value_stops a _ h)
works_found (Listing.right_stops {a = a} {b = b} h k) = below (Evaluations.right_number (value_comes a _ h)) (value_stops b _ k)
works_found (Listing.no_number {a = a} {b = b} h k d) = inr (row51 (Troubles.no_number (value_comes a _ h) (value_comes b _ k) d))
works_found (Listing.no_result {o = o} {a = a} {b = b} {j = i} {k = j} h k e) =
    let r = no_divisor_lem o i j e in inr (row52 (Troubles.no_divisor (value_comes a _ h) (value_comes b _ k) r.0 r.1))
works_found (Listing.outside {o = o} {a = a} {b = b} {j = i} {k = j} h k e) = inr (row53 (Troubles.outside (value_comes a _ h) (value_comes b _ k) (exceeds o i j e)))
works_found (Listing.calculated {z = z} h k e l) = entry_long (λ h'. absurd (int_short z h')) l
works_found (Listing.sets_stop {ls = ls} h) = below Evaluations.gathered_sets (sets_stops ls _ h)
works_found (Listing.bodies_stop {ls = ls} h k) = gathering_found (sets_come ls _ h) (gathers_found k)
works_found (Listing.all_gathered {vs = vs} h k l) = entry_long (λ h'. never vs (gathers_fit k nil_fits) h') l

tells_found : {p : Pred} {scope : Environment} {t : List Event} {w m : ℕ} → Tells p scope t (stops w m) → Below (telling p scope) w m ⊎ Row w m (telling p scope)
unfolding StopsAt
tells_found (Listing.equal_left_stops {a = a} h) = below Evaluations.left_equal (value_stops a _ h)
tells_found (Listing.equal_right_stops {a = a} {b = b} h k) = below (Evaluations.right_equal (value_comes a _ h)) (value_stops b _ k)
tells_found (Listing.member_left_stops {a = a} h) = below Evaluations.left_member (value_stops a _ h)
tells_found (Listing.tested {a = a} {b = b} {x = x} h k) = below (Evaluations.member_test (value_comes a _ h)) (test_stops b _ x k)
tells_found (Listing.at_most_left_stops {a = a} h) = below Evaluations.left_at_most (value_stops a _ h)
tells_found (Listing.at_most_right_stops {a = a} {b = b} h k) = below (Evaluations.right_at_most (value_comes a _ h)) (value_stops b _ k)
tells_found (Listing.not_numbers {a = a} {b = b} h k d) = inr (row51 (Troubles.not_numbers (value_comes a _ h) (value_comes b _ k) d))
tells_found (Listing.not_stops {p = p} h) = below Evaluations.negated (truth_stops p _ h)
tells_found (Listing.side_stops {p = p} h) = below Evaluations.left_side (truth_stops p _ h)
tells_found (Listing.right_told {p = p} {q = q} h k) = below (Evaluations.right_side (truth_comes p _ h)) (truth_stops q _ k)
tells_found (Listing.text_stops {ls = ls} h) = below Evaluations.tried_sets (sets_stops ls _ h)
tells_found (Listing.over_text {ls = ls} h k) = trying_found (sets_come ls _ h) (quantifies_found k)

declares_found : {ls : Lines} {scope : Environment} {t : List Event} {w m : ℕ} → Declares ls scope t (stops w m) → Below (declaring ls scope) w m ⊎ Row w m (declaring ls scope)
unfolding StopsAt stop_include
declares_found (Listing.decl_stops {a = a} h) = below Evaluations.declared (value_stops a _ h)
declares_found (Listing.decl_no_set {a = a} h d) = inr (row51 (Troubles.no_set_to_run (value_comes a _ h) d))
declares_found (Listing.later_line_stops {a = a} {ls = ls} h k) = below (Evaluations.next_line (value_comes a _ h)) (sets_stops ls _ k)
declares_found Listing.included = below Evaluations.included broke

tests_found : {a : Expr} {scope : Environment} {v : Value} {t : List Event} {w m : ℕ} → Tests a scope v t (stops w m) → Below (testing a scope v) w m ⊎ Row w m (testing a scope v)
unfolding StopsAt
tests_found (Listing.not_an_integer d) = inr (row51 (Troubles.not_integer d))
tests_found (Listing.a_subset h) = let r = members_found h in below (Evaluations.power_member r.1) r.2
tests_found (Listing.not_aset d) = inr (row51 (Troubles.not_set d))
tests_found (Listing.in_product e h) = let r = parts_found h in below (Evaluations.product_part e r.2) r.3
tests_found (Listing.other_count d) = inr (row51 (Troubles.other_count d))
tests_found (Listing.not_atuple d) = inr (row51 (Troubles.not_tuple d))
tests_found (Listing.anew_stops {a = a} o h) = below (Evaluations.anew o) (value_stops a _ h)
tests_found (Listing.anew_no_set {a = a} o h d) = inr (row51 (Troubles.no_set_anew o (value_comes a _ h) d))

include_found : {i : Include} {w m : ℕ} → Stops {A = Domains} (stop_include i) w m → Row w m (including i)
unfolding stop_include
include_found {i = include n s k xs rs} broke = row54 Troubles.include_line

pub found : (t : Evaluation) (w m : ℕ) → StopsAt t w m → Below t w m ⊎ Row w m t
unfolding StopsAt
found (working a scope) w m h = works_found (value_stop a scope h).1
found (telling p scope) w m h = tells_found (truth_stop p scope h).1
found (testing a scope v) w m h = tests_found (test_stop a scope v h).1
found (declaring ls scope) w m h = declares_found (sets_stop_lem ls scope h).1
found (including i) w m h = inr (include_found h)
