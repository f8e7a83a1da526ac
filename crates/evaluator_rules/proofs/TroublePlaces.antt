-- EVERY STOP OF A RUN IS AT A NODE OF A KIND THAT CAN GET ITS NUMBER, the column "Place" of the table (specs/TroublePlaces).
use mathlib.Core.Path.{◌≡◌, refl}
use mathlib.Core.Bool.{Bool, true, false, ◌||◌}
use mathlib.Core.List.{List, [], ◌∷◌}
use mathlib.Core.Logic.{◌⊎◌, inl, inr}
use Prim.Native.Nat.{ℕ}
use native.Mathlib.Omega.{arith}
use lib.IntN.{ℤ}
use lib.Dec.{eqb}
use Rattle.words.specs.Loops.{has}
use Rattle.values.specs.Value.{Value, Values}
use Rattle.reader_rules.specs.Tree.{Operator, plus, minus, times, Expr, set, selection, theta, schema_set, comprehension, Exprs, Text, Lines, Paragraph, Document, expr_node}
use Rattle.reader_rules.specs.Tree as Tree
use Rattle.states_rules.specs.States.{State}
use Rattle.evaluator_rules.specs.Environment.{Environment}
use Rattle.evaluator_rules.specs.Outcomes.{Event, Outcome, stop}
use Rattle.evaluator_rules.specs.Rules.{eval_expr}
use Rattle.evaluator_rules.specs.Claims.{Trouble, NotRun, no_integers, no_select, no_theta, no_schema_set}
use Rattle.evaluator_rules.specs.Listing
use Rattle.evaluator_rules.specs.Listing.{gives, NoSet, Another, Works}
use Rattle.evaluator_rules.specs.Evaluations
use Rattle.evaluator_rules.specs.Evaluations.{Gives, gave, Evaluation, StopsAt, Operand, Adding, EachPart, Reaches, Within, itself, further, Tested, Begins, BeginsIn}
use Rattle.evaluator_rules.specs.Troubles
use Rattle.evaluator_rules.specs.Troubles.{Divides, Exceeds, Misfit, NoResult, PastBits, Unrun, TooLong, Row, row51, row52, row53, row54, row55, InRun, in_run}
use Rattle.reader_rules.specs.Places.{At}
use Rattle.evaluator_rules.specs.TroublePlaces.{numbers_of, PlacedExpr, PlacedExprs, PlacedTest, PlacedTests, PlacedInclude, PlacedAxiom, PlacedParagraph, PlacedParagraphs}
use Rattle.evaluator_rules.specs.TroublePlaces.{PlacedDocument, PlacedEvaluation, TroublePlaces}
use Rattle.evaluator_rules.proofs.RuleLaws.{not_run_lem}
use Rattle.evaluator_rules.proofs.EvaluationLists.{value_said}
use Rattle.evaluator_rules.proofs.TroublesWithin.{within_found}
use Rattle.evaluator_rules.proofs.TroubleRuns.{paragraph_trouble, run_trouble}

row_number : {w m : ℕ} {t : Evaluation} → Row w m t → Trouble w m
row_number (row51 h) = (omega arith, omega arith)
row_number (row52 h) = (omega arith, omega arith)
row_number (row53 h) = (omega arith, omega arith)
row_number (row54 h) = (omega arith, omega arith)
row_number (row55 h) = (omega arith, omega arith)

-- ---- an evaluation's own node
misfit_listed : (o : Operator) → has 51 (numbers_of o) ≡ true
unfolding has numbers_of
misfit_listed plus = refl
misfit_listed minus = refl
misfit_listed times = refl
misfit_listed Tree.quotient = refl
misfit_listed Tree.remainder = refl

none_listed : {o : Operator} → Divides o → has 52 (numbers_of o) ≡ true
unfolding has numbers_of
none_listed Troubles.by_div = refl
none_listed Troubles.by_mod = refl

outside_listed : {j k : ℤ} {o : Operator} → Exceeds j k o → has 53 (numbers_of o) ≡ true
unfolding has numbers_of
outside_listed (Troubles.sum_outside e) = refl
outside_listed (Troubles.difference_outside e) = refl
outside_listed (Troubles.product_outside e) = refl

-- the value of a Set or Comprehension is a set; what is 54 has no value
set_set : {n : ℕ} {xs : Exprs} {scope : Environment} {t : List Event} {x : Value} → Works (set n xs) scope t (gives x) → NoSet x → ⊥
set_set (Listing.a_set {vs = vs} h (Listing.entered l)) d = d vs refl

gathered_set : {n : ℕ} {y : Text} {a : Expr} {scope : Environment} {t : List Event} {x : Value} → Works (comprehension n y a) scope t (gives x) → NoSet x → ⊥
gathered_set (Listing.all_gathered {vs = vs} h k (Listing.entered l)) d = d vs refl

stopped_gives : {A : Type 0} {o : Outcome A} {a : A} {w m : ℕ} → Gives o a → o ≡ stop w m → ⊥
stopped_gives gave e = let z : ◌≡◌ {A = ℕ} 0 1 = cc in omega arith

unrun_gives : (a : Expr) (scope : Environment) {x : Value} → NotRun a → Gives (eval_expr a scope) x → ⊥
unrun_gives a scope h g = stopped_gives g (not_run_lem a h scope)

anew_placed : {a : Expr} (scope : Environment) {x : Value} → Another a → Gives (eval_expr a scope) x → NoSet x → PlacedTest 51 (expr_node a) a
unfolding PlacedTest has expr_node
anew_placed scope Listing.a_reference g d = inl (refl, refl)
anew_placed scope Listing.a_number g d = (refl, refl)
anew_placed scope (Listing.a_set_of {n = n} {xs = xs}) g d = absurd (set_set (value_said (set n xs) scope g).1 d)
anew_placed scope Listing.a_tuple_of g d = inl (refl, refl)
anew_placed scope Listing.an_application g d = inl (refl, refl)
anew_placed scope (Listing.a_selection {n = n} {i = i} {a = a}) g d = absurd (unrun_gives (selection n a i) scope (no_select n a i) g)
anew_placed scope (Listing.a_theta {n = n} {s = s} {k = k}) g d = absurd (unrun_gives (theta n s k) scope (no_theta n s k) g)
anew_placed scope (Listing.a_schema_set {n = n} {i = i}) g d = absurd (unrun_gives (schema_set n i) scope (no_schema_set n i) g)
anew_placed scope (Listing.an_arithmetic {o = o}) g d = inl (refl, misfit_listed o)
anew_placed scope (Listing.a_comprehension {n = n} {x = y} {a = a}) g d = absurd (gathered_set (value_said (comprehension n y a) scope g).1 d)

misfit_placed : {t : Evaluation} {m : ℕ} → Misfit t m → PlacedEvaluation 51 m t
unfolding PlacedEvaluation PlacedExpr has
misfit_placed (Troubles.name_unknown g e) = inl (refl, refl)
misfit_placed (Troubles.actuals_on_name g e) = inl (refl, refl)
misfit_placed (Troubles.no_function g h d) = inl (refl, refl)
misfit_placed (Troubles.no_pair g h d) = inl (refl, refl)
misfit_placed (Troubles.no_base g d) = inl (refl, refl)
misfit_placed (Troubles.no_factor g d) = inl (refl, refl)
misfit_placed (Troubles.no_number {o = o} g h d) = inl (refl, misfit_listed o)
misfit_placed (Troubles.not_numbers g h d) = inl (refl, refl)
misfit_placed (Troubles.no_set_to_run g d) = inl (refl, refl)
misfit_placed (Troubles.not_integer d) = (refl, refl)
misfit_placed (Troubles.not_set d) = inl (refl, refl)
misfit_placed (Troubles.not_tuple d) = inl (refl, refl)
misfit_placed (Troubles.other_count d) = inl (refl, refl)
misfit_placed (Troubles.no_set_anew {scope = scope} o g d) = anew_placed scope o g d

none_placed : {t : Evaluation} {m : ℕ} → NoResult t m → PlacedEvaluation 52 m t
unfolding PlacedEvaluation PlacedExpr has
none_placed (Troubles.not_one g h i d) = inl (refl, refl)
none_placed (Troubles.no_divisor g h d e) = inl (refl, none_listed d)

outside_placed : {t : Evaluation} {m : ℕ} → PastBits t m → PlacedEvaluation 53 m t
unfolding PlacedEvaluation PlacedExpr has
outside_placed (Troubles.outside g h d) = inl (refl, outside_listed d)

value_placed : {a : Expr} → NotRun a → PlacedExpr 54 (expr_node a) a
unfolding PlacedExpr has expr_node
value_placed (no_integers n) = (refl, refl)
value_placed (no_select n a i) = (refl, refl)
value_placed (no_theta n s k) = (refl, refl)
value_placed (no_schema_set n i) = (refl, refl)

unrun_placed : {t : Evaluation} {m : ℕ} → Unrun t m → PlacedEvaluation 54 m t
unfolding PlacedEvaluation PlacedExpr PlacedInclude has
unrun_placed (Troubles.name_generic g e) = inl (refl, refl)
unrun_placed (Troubles.as_value h) = value_placed h
unrun_placed Troubles.include_line = (refl, refl)

long_placed : {t : Evaluation} {m : ℕ} → TooLong t m → PlacedEvaluation 55 m t
unfolding PlacedEvaluation PlacedExpr has
long_placed (Troubles.name_too_long e l) = inl (refl, refl)
long_placed (Troubles.tuple_too_long g l) = inl (refl, refl)
long_placed (Troubles.power_too_long g l) = inl (refl, refl)
long_placed (Troubles.product_too_long g e l) = inl (refl, refl)
long_placed (Troubles.member_too_much k g l) = inl (refl, refl)
long_placed (Troubles.body_too_much g k c b l) = inl (refl, refl)

row_placed : {t : Evaluation} {w m : ℕ} → Row w m t → PlacedEvaluation w m t
row_placed (row51 h) = misfit_placed h
row_placed (row52 h) = none_placed h
row_placed (row53 h) = outside_placed h
row_placed (row54 h) = unrun_placed h
row_placed (row55 h) = long_placed h

-- ---- what an evaluation reaches
has_more : (w y : ℕ) (l : List ℕ) → has w l ≡ true → has w (y ∷ l) ≡ true
unfolding has
has_more w y l h = go (eqb y w)
  where
    go : (b : Bool) → (b || has w l) ≡ true
    go true = refl
    go false = h

module _ (w m : ℕ) where
  operand_placed : {scope : Environment} {xs : Exprs} {a : Expr} → Operand scope xs a → PlacedExpr w m a → PlacedExprs w m xs
  unfolding PlacedExprs
  operand_placed Evaluations.first_operand h = inl h
  operand_placed (Evaluations.later_operand g k) h = inr (operand_placed k h)

  member_placed : {scope : Environment} {xs : Exprs} {s s' : Values} {a : Expr} → Adding scope xs s a s' → PlacedExpr w m a → PlacedExprs w m xs
  unfolding PlacedExprs
  member_placed Evaluations.first_member h = inl h
  member_placed (Evaluations.later_member g e k) h = inr (member_placed k h)

  part_placed : {scope : Environment} {xs : Exprs} {vs : Values} {a : Expr} {v : Value} → EachPart scope xs vs a v → PlacedTest w m a → PlacedTests w m xs
  unfolding PlacedTests
  part_placed Evaluations.first_part h = inl h
  part_placed (Evaluations.later_part g k) h = inr (part_placed k h)

  longer : {n : ℕ} {A : Type 0} → At w m n (55 ∷ []) ⊎ A → At w m n (51 ∷ 55 ∷ []) ⊎ A
  longer (inl h) = inl (h.0, has_more w 51 (55 ∷ []) h.1)
  longer (inr h) = inr h

  value_test : {a : Expr} → Another a → PlacedExpr w m a → PlacedTest w m a
  unfolding PlacedExpr
  value_test Listing.a_reference h = h
  value_test Listing.a_number h = absurd h
  value_test Listing.a_set_of h = h
  value_test Listing.a_tuple_of h = longer h
  value_test Listing.an_application h = h
  value_test Listing.a_selection h = h
  value_test Listing.a_theta h = h
  value_test Listing.a_schema_set h = h
  value_test Listing.an_arithmetic h = h
  value_test Listing.a_comprehension h = h

  reached_placed : {t u : Evaluation} → Reaches t u → PlacedEvaluation w m u → PlacedEvaluation w m t
  unfolding PlacedEvaluation PlacedExpr
  reached_placed (Evaluations.actual k) h = inr (operand_placed k h)
  reached_placed (Evaluations.set_member k) h = inr (member_placed k h)
  reached_placed (Evaluations.tuple_part k) h = inr (operand_placed k h)
  reached_placed Evaluations.power_base h = inr h
  reached_placed (Evaluations.product_factor k) h = inr (operand_placed k h)
  reached_placed Evaluations.function h = inr (inl h)
  reached_placed (Evaluations.argument g) h = inr (inr h)
  reached_placed Evaluations.left_number h = inr (inl h)
  reached_placed (Evaluations.right_number g) h = inr (inr h)
  reached_placed Evaluations.gathered_sets h = inr (inl (inl h))
  reached_placed (Evaluations.gathered_where g k) h = inr (inl (inr h))
  reached_placed (Evaluations.gathered_body g k c) h = inr (inr h)
  reached_placed Evaluations.left_equal h = inl h
  reached_placed (Evaluations.right_equal g) h = inr h
  reached_placed Evaluations.left_member h = inl h
  reached_placed (Evaluations.member_test g) h = inr h
  reached_placed Evaluations.left_at_most h = inr (inl h)
  reached_placed (Evaluations.right_at_most g) h = inr (inr h)
  reached_placed Evaluations.negated h = h
  reached_placed Evaluations.left_side h = inl h
  reached_placed (Evaluations.right_side g) h = inr h
  reached_placed Evaluations.tried_sets h = inl (inl h)
  reached_placed (Evaluations.tried_where g k) h = inl (inr h)
  reached_placed (Evaluations.tried_body g k c) h = inr h
  reached_placed Evaluations.declared h = inr (inl h)
  reached_placed (Evaluations.next_line g) h = inr (inr h)
  reached_placed Evaluations.included h = h
  reached_placed (Evaluations.power_member k) h = inr h
  reached_placed (Evaluations.product_part e k) h = inr (part_placed k h)
  reached_placed (Evaluations.anew o) h = value_test o h

  within_placed : {t u : Evaluation} → Within t u → PlacedEvaluation w m u → PlacedEvaluation w m t
  within_placed itself h = h
  within_placed (further r k) h = reached_placed r (within_placed k h)

  evaluation_placed : (t : Evaluation) → StopsAt t w m → Trouble w m × PlacedEvaluation w m t
  evaluation_placed t h = let r = within_found w m t h in (row_number r.2, within_placed r.1 (row_placed r.2))

  -- ---- the paragraphs
  tested_placed : {state : State} {scope : Environment} {ls : Lines} {own : Environment} {u : Evaluation} → Tested state scope ls own u → PlacedEvaluation w m u → PlacedAxiom w m ls
  unfolding PlacedAxiom PlacedEvaluation
  tested_placed (Evaluations.name_tested k) h = inl h
  tested_placed (Evaluations.later_tested_line g k) h = inr (tested_placed k h)
  tested_placed Evaluations.included_line h = h

  begun_placed : {state : State} {p : Paragraph} {scope : Environment} {u : Evaluation} → Begins state p scope u → PlacedEvaluation w m u → PlacedParagraph w m p
  unfolding PlacedParagraph PlacedEvaluation
  begun_placed (Evaluations.axiom_line k) h = inl (tested_placed k h)
  begun_placed (Evaluations.axiom_predicate g) h = inr h
  begun_placed Evaluations.worked_out h = h
  begun_placed Evaluations.constrained h = h

  coming_placed : {state : State} {ps : List Paragraph} {scope : Environment} {u : Evaluation} → BeginsIn state ps scope u → PlacedEvaluation w m u → PlacedParagraphs w m ps
  unfolding PlacedParagraphs
  coming_placed (Evaluations.this_paragraph k) h = inl (begun_placed k h)
  coming_placed (Evaluations.next_paragraph g k) h = inr (coming_placed k h)

  run_placed : {state : State} {d : Document} {u : Evaluation} → InRun state d u → Row w m u → PlacedDocument w m d
  unfolding PlacedDocument
  run_placed (in_run k j) h = coming_placed k (within_placed j (row_placed h))

pub trouble_places : TroublePlaces
trouble_places = record {
  each = λ t w m h. evaluation_placed w m t h;
  paragraph = λ p state scope w m h. let r = (paragraph_trouble state p scope w m).0 h in (row_number r.4, begun_placed w m r.2 (within_placed w m r.3 (row_placed r.4)));
  run = λ doc state work w m read room well e. let r = (run_trouble doc state work read room well w m).0 e in (row_number r.2, run_placed w m r.1 r.2);
}
