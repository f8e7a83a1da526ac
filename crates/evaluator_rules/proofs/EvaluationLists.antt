-- What an evaluation gives, or where it stops, said by the sentences of the list (specs/Listing), and back.
use mathlib.Core.List.{List}
use Prim.Native.Nat.{ℕ}
use mathlib.Core.Bool.{Bool}
use Rattle.values.specs.Value.{Value, Values}
use Rattle.reader_rules.specs.Tree.{Expr, Exprs, Pred, Lines}
use Rattle.evaluator_rules.specs.Outcomes.{Event, Outcome}
use Rattle.evaluator_rules.specs.Environment.{Environment}
use Rattle.evaluator_rules.specs.Assignments.{Domains}
use Rattle.evaluator_rules.specs.Rules.{eval_expr, eval_exprs, eval_pred, eval_lines, test}
use Rattle.evaluator_rules.specs.Listing.{Result, gives, stops, Works, WorksAll, Tells, Declares, Tests}
use Rattle.evaluator_rules.specs.Evaluations.{Gives, gave, Stops, broke}
use Rattle.evaluator_rules.proofs.Said.{Says}
use Rattle.evaluator_rules.proofs.Said as Said
use Rattle.evaluator_rules.proofs.ListingSaid.{expr_says, exprs_says, pred_says, lines_say, test_says}
use Rattle.evaluator_rules.proofs.Comes.{Comes}
use Rattle.evaluator_rules.proofs.Comes as Comes
use Rattle.evaluator_rules.proofs.ListingOnly.{only_expr, only_exprs, only_pred, only_lines}

-- a result with some list
abbrev pub Some : {A : Type 0} → (List Event → Result A → Type 0) → Result A → Type 0
Some R r = (t : List Event) × R t r

pub said : {A : Type 0} {R : List Event → Result A → Type 0} {o : Outcome A} {a : A} → Says R o → Gives o a → Some R (gives a)
said (Said.finished {t = t} h) gave = (t, h)
said (Said.ceased h) g = elim g [ ]

pub stop_said : {A : Type 0} {R : List Event → Result A → Type 0} {o : Outcome A} {w m : ℕ} → Says R o → Stops o w m → Some R (stops w m)
stop_said (Said.finished h) g = elim g [ ]
stop_said (Said.ceased {t = t} h) broke = (t, h)

pub come : {A : Type 0} {o : Outcome A} {a : A} {t : List Event} → Comes o t (gives a) → Gives o a
come Comes.finished = gave

pub stop_come : {A : Type 0} {o : Outcome A} {w m : ℕ} {t : List Event} → Comes o t (stops w m) → Stops o w m
stop_come Comes.ceased = broke

module _ (a : Expr) (scope : Environment) where
  pub value_said : {x : Value} → Gives (eval_expr a scope) x → Some (Works a scope) (gives x)
  value_said h = said (expr_says a scope) h

  pub value_stop : {w m : ℕ} → Stops (eval_expr a scope) w m → Some (Works a scope) (stops w m)
  value_stop h = stop_said (expr_says a scope) h

  pub value_comes : {t : List Event} {x : Value} → Works a scope t (gives x) → Gives (eval_expr a scope) x
  value_comes h = come ((only_expr a).works _ _ _ h)

  pub value_stops : {t : List Event} {w m : ℕ} → Works a scope t (stops w m) → Stops (eval_expr a scope) w m
  value_stops h = stop_come ((only_expr a).works _ _ _ h)

  pub test_said : (v : Value) {b : Bool} → Gives (test a scope v) b → Some (Tests a scope v) (gives b)
  test_said v h = said (test_says a _ v scope (λ scope'. expr_says a scope')) h

  pub test_stop : (v : Value) {w m : ℕ} → Stops (test a scope v) w m → Some (Tests a scope v) (stops w m)
  test_stop v h = stop_said (test_says a _ v scope (λ scope'. expr_says a scope')) h

  pub test_comes : (v : Value) {t : List Event} {b : Bool} → Tests a scope v t (gives b) → Gives (test a scope v) b
  test_comes v h = come ((only_expr a).tests _ _ _ _ h)

  pub test_stops : (v : Value) {t : List Event} {w m : ℕ} → Tests a scope v t (stops w m) → Stops (test a scope v) w m
  test_stops v h = stop_come ((only_expr a).tests _ _ _ _ h)

module _ (xs : Exprs) (scope : Environment) where
  pub values_said : {vs : Values} → Gives (eval_exprs xs scope) vs → Some (WorksAll xs scope) (gives vs)
  values_said h = said (exprs_says xs scope) h

  pub values_come : {t : List Event} {vs : Values} → WorksAll xs scope t (gives vs) → Gives (eval_exprs xs scope) vs
  values_come h = come ((only_exprs xs).works _ _ _ h)

module _ (p : Pred) (scope : Environment) where
  pub truth_said : {b : Bool} → Gives (eval_pred p scope) b → Some (Tells p scope) (gives b)
  truth_said h = said (pred_says p scope) h

  pub truth_stop : {w m : ℕ} → Stops (eval_pred p scope) w m → Some (Tells p scope) (stops w m)
  truth_stop h = stop_said (pred_says p scope) h

  pub truth_comes : {t : List Event} {b : Bool} → Tells p scope t (gives b) → Gives (eval_pred p scope) b
  truth_comes h = come ((only_pred p).tells _ _ _ h)

  pub truth_stops : {t : List Event} {w m : ℕ} → Tells p scope t (stops w m) → Stops (eval_pred p scope) w m
  truth_stops h = stop_come ((only_pred p).tells _ _ _ h)

module _ (ls : Lines) (scope : Environment) where
  pub sets_said : {ds : Domains} → Gives (eval_lines ls scope) ds → Some (Declares ls scope) (gives ds)
  sets_said h = said (lines_say ls scope) h

  pub sets_stop_lem : {w m : ℕ} → Stops (eval_lines ls scope) w m → Some (Declares ls scope) (stops w m)
  sets_stop_lem h = stop_said (lines_say ls scope) h

  pub sets_come : {t : List Event} {ds : Domains} → Declares ls scope t (gives ds) → Gives (eval_lines ls scope) ds
  sets_come h = come ((only_lines ls).declares _ _ _ h)

  pub sets_stops : {t : List Event} {w m : ℕ} → Declares ls scope t (stops w m) → Stops (eval_lines ls scope) w m
  sets_stops h = stop_come ((only_lines ls).declares _ _ _ h)
