-- The run's finding and list are those of the sentences of the list, and these give one only (specs/ListingRun).
use Rattle.std.specs.Prelude.{Err}
use mathlib.Core.Path.{◌≡◌, refl, ap, sym, subst, ◌∙◌}
use mathlib.Core.List.{List, [], ◌∷◌, ◌++◌, append-nil}
use mathlib.Core.Bool.{Bool, true, false}
use Prim.Native.Nat.{ℕ, ◌≤◌, ◌<◌}
use lib.Dec.{leb}
use borrow.Author.Tests.{leb-true, leb-false, le-leb, lt-leb}
use Rattle.values.specs.Value.{Value}
use Rattle.reader_rules.specs.Tree.{Expr, Lines, end, declaration, inclusion, include, text, Paragraph, given, axiomatic, schema, abbreviation, constraint, Document, document}
use Rattle.reader_rules.specs.Reading.{read_of}
use Rattle.reader_rules.specs.Decode.{tree_of}
use Rattle.reader_rules.specs.Refusals.{Finding, Readable, Refused}
use Rattle.evaluator_rules.specs.Endings.{Holds, Fails}
use Rattle.states_rules.specs.Names.{document_names}
use Rattle.states_rules.specs.States.{State, state_of, value_in}
use Rattle.evaluator_rules.specs.Outcomes.{Event, Outcome, ◌>>=◌}
use Rattle.evaluator_rules.specs.Environment.{Environment}
use Rattle.evaluator_rules.specs.Rules.{eval_expr, test_expr, stop_include}
use Rattle.evaluator_rules.specs.Paragraphs.{Step, onward, failed, then, unless, test_names, test_lines, run_paragraph, run_paragraphs, run_document}
use Rattle.evaluator_rules.specs.Run.{Ran, ran, ending, run_state, run_work, run_read, run_of, run_work_words}
use Rattle.evaluator_rules.specs.Claims.{WellFormedState}
use Rattle.evaluator_rules.specs.Listing.{Result, gives, stops, Tests}
use Rattle.evaluator_rules.specs.ListingRun
use Rattle.evaluator_rules.specs.ListingRun.{Ends, TestsNames, TestsLines, Runs, RunsAll, RunsDocument, Lists, WholeList}
use Rattle.evaluator_rules.proofs.StatePlace.{state_ill, state_well}
use Rattle.evaluator_rules.proofs.Said.{Says, pure_says, stop_says, bind_says, truth_says, other_says}
use Rattle.evaluator_rules.proofs.Said as Said
use Rattle.evaluator_rules.proofs.ListingSaid.{expr_says, pred_says, test_says}
use Rattle.evaluator_rules.proofs.Comes.{Comes, finished, ceased, on, last, off}
use Rattle.evaluator_rules.proofs.ListingOnly.{only_expr, only_pred}

-- ---- what the functions give is said
then_says : {R Q : List Event → Result Step → Type 0} {o : Outcome Step} (k : Environment → Outcome Step) → Says R o → ((t : List Event) (scope : Environment) → R t (gives (onward scope)) → Says (λ u r. Q (t ++ u) r) (k scope))
    → ((t : List Event) (r : Result Step) → R t r → Ends r → Q t r) → Says Q (o >>= then k)
unfolding then
then_says {R = R} {Q = Q} k h l e = bind_says h (λ t s. after_step t s) (λ t w m j. e t (stops w m) j ListingRun.stopping)
  where
    after_step : (t : List Event) (s : Step) → R t (gives s) → Says (λ u r. Q (t ++ u) r) (then k s)
    after_step t (onward scope) j = l t scope j
    after_step t (failed n) j = pure_says (rw append-nil (e t (gives (failed n)) j ListingRun.failing))

module _ (state : State) where
  pub names_say : (n : ℕ) (a : Expr) (scope : Environment) (f : Value → Outcome Bool) → ((v : Value) → Says (Tests a scope v) (f v)) → (is : List ℕ) (own : Environment) → Says (TestsNames state n a scope is own) (test_names n f is state own)
  unfolding test_names
  names_say n a scope f k [] own = pure_says ListingRun.no_name
  names_say n a scope f k (i ∷ is) own =
      truth_says _ (k (state i)) (λ t h. other_says (names_say n a scope f k is _) (λ u r j. ListingRun.name_passes h j)) (λ t h. pure_says (rw append-nil (ListingRun.name_fails h))) (λ t w m h. ListingRun.name_stops h)

  pub lines_say : (ls : Lines) (scope own : Environment) → Says (TestsLines state scope ls own) (test_lines ls state scope own)
  unfolding test_lines stop_include
  lines_say end scope own = pure_says ListingRun.no_line
  lines_say (declaration n a is ls) scope own =
      then_says _ (names_say n a scope _ (λ v. test_says a _ v scope (λ scope'. expr_says a scope')) is own) (λ t own' h. other_says (lines_say ls scope own') (λ u r k. ListingRun.line_goes_on h k)) (λ t r h e. ListingRun.line_ends h e)
  lines_say (inclusion (include n s k xs rs) ls) scope own = stop_says ListingRun.line_includes

  pub paragraph_says : (p : Paragraph) (scope : Environment) → Says (Runs state p scope) (run_paragraph p state scope)
  unfolding run_paragraph unless
  paragraph_says (given n is) scope = pure_says ListingRun.binds_givens
  paragraph_says (axiomatic n (text k p ls)) scope =
      then_says _ (lines_say ls scope scope)
      (λ t own h. truth_says _ (pred_says p own) (λ u j. pure_says (rw append-nil (ListingRun.axiom_holds h j))) (λ u j. pure_says (rw append-nil (ListingRun.axiom_fails h j))) (λ u w m j. ListingRun.axiom_stops h j))
      (λ t r h e. ListingRun.lines_end h e)
  paragraph_says (schema n s ps x) scope = pure_says ListingRun.schema_passed
  paragraph_says (abbreviation n i [] a) scope = bind_says (expr_says a scope) (λ t v h. pure_says (rw append-nil (ListingRun.abbreviation_kept h))) (λ t w m h. ListingRun.abbreviation_stops h)
  paragraph_says (abbreviation n i (p ∷ ps) a) scope = pure_says ListingRun.generic_passed
  paragraph_says (constraint n p) scope =
      truth_says _ (pred_says p scope) (λ t h. pure_says (rw append-nil (ListingRun.constraint_holds h))) (λ t h. pure_says (rw append-nil (ListingRun.constraint_fails h))) (λ t w m h. ListingRun.constraint_stops h)

  pub paragraphs_say : (ps : List Paragraph) (scope : Environment) → Says (RunsAll state ps scope) (run_paragraphs ps state scope)
  unfolding run_paragraphs
  paragraphs_say [] scope = pure_says ListingRun.no_paragraph
  paragraphs_say (p ∷ ps) scope =
      then_says _ (paragraph_says p scope) (λ t scope' h. other_says (paragraphs_say ps scope') (λ u r k. ListingRun.paragraph_goes_on h k)) (λ t r h e. ListingRun.paragraph_ends h e)

  document_says : (d : Document) → Says (RunsDocument state d) (run_document d state)
  unfolding run_document
  document_says (document n ps) = other_says (paragraphs_say ps _) (λ t r h. ListingRun.in_order h)

module _ (doc state : List ℕ) (work : ℕ) (read : read_of doc ≡ Readable) where
  ending_lists : run_work_words ≤ work → WellFormedState (document_names (tree_of doc)) state → {o : Outcome Step} → Says (RunsDocument (value_in (document_names (tree_of doc)) state) (tree_of doc)) o → Lists doc state work (ending o)
  unfolding ending
  ending_lists l w (Said.finished {a = onward scope} h) = ListingRun.holds read l w h
  ending_lists l w (Said.finished {a = failed n} h) = ListingRun.fails read l w h
  ending_lists l w (Said.ceased h) = ListingRun.troubled read l w h

  state_lists : run_work_words ≤ work → (r : Finding) → state_of (document_names (tree_of doc)) state ≡ r → Lists doc state work (run_state r (tree_of doc) state)
  unfolding run_state
  state_lists l Readable e = ending_lists l ((state_well (document_names (tree_of doc)) state).0 e) (document_says _ (tree_of doc))
  state_lists l (Err err) e =
      let h = (state_ill (document_names (tree_of doc)) state err.number err.place).0 e in
      subst (λ (x : ℕ). Lists doc state work (ran (Refused x err.place) [])) (sym h.0) (ListingRun.ill_formed read l h.1)

  work_lists : (b : Bool) → leb run_work_words work ≡ b → Lists doc state work (run_work b (tree_of doc) state)
  unfolding run_work
  work_lists true e = state_lists (leb-true run_work_words work e) _ refl
  work_lists false e = ListingRun.no_room read (leb-false run_work_words work e)

read_lists : (doc state : List ℕ) (work : ℕ) (r : Finding) → read_of doc ≡ r → Lists doc state work (run_read r doc state work)
unfolding run_read
read_lists doc state work Readable e = work_lists doc state work e (leb run_work_words work) refl
read_lists doc state work (Err err) e = ListingRun.unreadable e

-- for every document, state and work area, the run's finding and list are given
pub run_lists : (doc state : List ℕ) (work : ℕ) → Lists doc state work (run_of doc state work)
unfolding run_of
run_lists doc state work = read_lists doc state work (read_of doc) refl

-- ---- what is said is what the functions give
goes_on : {o : Outcome Step} {scope : Environment} {t u : List Event} {r : Result Step} (k : Environment → Outcome Step) → Comes o t (gives (onward scope)) → Comes (k scope) u r → Comes (o >>= then k) (t ++ u) r
unfolding then
goes_on k h j = on _ h j

ends : {o : Outcome Step} {t : List Event} {r : Result Step} (k : Environment → Outcome Step) → Comes o t r → Ends r → Comes (o >>= then k) t r
unfolding then
ends k h ListingRun.failing = last _ h finished
ends k h ListingRun.stopping = off _ h

module _ (state : State) where
  pub names_come : {n : ℕ} {a : Expr} {scope : Environment} {is : List ℕ} {own : Environment} {t : List Event} {r : Result Step} → TestsNames state n a scope is own t r → Comes (test_names n (λ v. test_expr a (λ scope'. eval_expr a scope') v scope) is state own) t r
  unfolding test_names
  names_come ListingRun.no_name = finished
  names_come {a = a} (ListingRun.name_stops h) = off _ ((only_expr a).tests _ _ _ _ h)
  names_come {a = a} (ListingRun.name_fails h) = last _ ((only_expr a).tests _ _ _ _ h) finished
  names_come {a = a} (ListingRun.name_passes h k) = on _ ((only_expr a).tests _ _ _ _ h) (names_come k)

  pub lines_come : {scope : Environment} {ls : Lines} {own : Environment} {t : List Event} {r : Result Step} → TestsLines state scope ls own t r → Comes (test_lines ls state scope own) t r
  unfolding test_lines stop_include
  lines_come ListingRun.no_line = finished
  lines_come (ListingRun.line_ends h e) = ends _ (names_come h) e
  lines_come (ListingRun.line_goes_on h k) = goes_on _ (names_come h) (lines_come k)
  lines_come ListingRun.line_includes = ceased

  pub runs_come : {p : Paragraph} {scope : Environment} {t : List Event} {r : Result Step} → Runs state p scope t r → Comes (run_paragraph p state scope) t r
  unfolding run_paragraph unless
  runs_come ListingRun.binds_givens = finished
  runs_come (ListingRun.lines_end h e) = ends _ (lines_come h) e
  runs_come (ListingRun.axiom_stops {p = p} h k) = goes_on _ (lines_come h) (off _ ((only_pred p).tells _ _ _ k))
  runs_come (ListingRun.axiom_fails {p = p} h k) = goes_on _ (lines_come h) (last _ ((only_pred p).tells _ _ _ k) finished)
  runs_come (ListingRun.axiom_holds {p = p} h k) = goes_on _ (lines_come h) (last _ ((only_pred p).tells _ _ _ k) finished)
  runs_come ListingRun.schema_passed = finished
  runs_come ListingRun.generic_passed = finished
  runs_come (ListingRun.abbreviation_stops {a = a} h) = off _ ((only_expr a).works _ _ _ h)
  runs_come (ListingRun.abbreviation_kept {a = a} h) = last _ ((only_expr a).works _ _ _ h) finished
  runs_come (ListingRun.constraint_stops {p = p} h) = off _ ((only_pred p).tells _ _ _ h)
  runs_come (ListingRun.constraint_fails {p = p} h) = last _ ((only_pred p).tells _ _ _ h) finished
  runs_come (ListingRun.constraint_holds {p = p} h) = last _ ((only_pred p).tells _ _ _ h) finished

  pub all_come : {ps : List Paragraph} {scope : Environment} {t : List Event} {r : Result Step} → RunsAll state ps scope t r → Comes (run_paragraphs ps state scope) t r
  unfolding run_paragraphs
  all_come ListingRun.no_paragraph = finished
  all_come (ListingRun.paragraph_ends h e) = ends _ (runs_come h) e
  all_come (ListingRun.paragraph_goes_on h k) = goes_on _ (runs_come h) (all_come k)

  document_comes : {d : Document} {t : List Event} {r : Result Step} → RunsDocument state d t r → Comes (run_document d state) t r
  unfolding run_document
  document_comes (ListingRun.in_order h) = all_come h

-- how a run ends
unfoldable ending_of_lem : List Event → Result Step → Ran
ending_of_lem t (gives (onward scope)) = ran Holds t
ending_of_lem t (gives (failed n)) = ran (Fails n) t
ending_of_lem t (stops w m) = ran (Refused w m) t

ending_of : {o : Outcome Step} {t : List Event} {r : Result Step} → Comes o t r → ending o ≡ ending_of_lem t r
unfolding ending ending_of_lem
ending_of (finished {a = onward scope}) = refl
ending_of (finished {a = failed n}) = refl
ending_of ceased = refl

module _ (doc state : List ℕ) (work : ℕ) (read : read_of doc ≡ Readable) where
  no_room_lem : work < run_work_words → run_of doc state work ≡ ran (Refused 21 0) []
  unfolding run_of run_read run_work
  no_room_lem l = ap (λ (r : Finding). run_read r doc state work) read ∙ ap (λ (b : Bool). run_work b (tree_of doc) state) (lt-leb run_work_words work l)

  pub by_state : run_work_words ≤ work → (r : Finding) → state_of (document_names (tree_of doc)) state ≡ r → run_of doc state work ≡ run_state r (tree_of doc) state
  unfolding run_of run_read run_work
  by_state l r e = ap (λ (x : Finding). run_read x doc state work) read ∙ ap (λ (b : Bool). run_work b (tree_of doc) state) (le-leb run_work_words work l) ∙ ap (λ (x : Finding). run_state x (tree_of doc) state) e

  by_run : run_work_words ≤ work → WellFormedState (document_names (tree_of doc)) state → {t : List Event} {r : Result Step} → RunsDocument (value_in (document_names (tree_of doc)) state) (tree_of doc) t r → run_of doc state work ≡ ending_of_lem t r
  unfolding run_state
  by_run l w h = by_state l Readable ((state_well (document_names (tree_of doc)) state).1 w) ∙ ending_of (document_comes _ h)

pub lists_run : (doc state : List ℕ) (work : ℕ) (r : Ran) → Lists doc state work r → run_of doc state work ≡ r
unfolding run_of run_read run_state ending_of_lem
lists_run doc state work _ (ListingRun.unreadable e) = ap (λ (r : Finding). run_read r doc state work) e
lists_run doc state work _ (ListingRun.no_room e l) = no_room_lem doc state work e l
lists_run doc state work _ (ListingRun.ill_formed {p = p} e l i) = by_state doc state work e l (Refused 41 p) ((state_ill (document_names (tree_of doc)) state 41 p).1 (refl, i))
lists_run doc state work _ (ListingRun.holds e l w h) = by_run doc state work e l w h
lists_run doc state work _ (ListingRun.fails e l w h) = by_run doc state work e l w h
lists_run doc state work _ (ListingRun.troubled e l w h) = by_run doc state work e l w h

pub whole_list : WholeList
whole_list = record {
  whole = λ doc state work r. (λ e. subst (λ (x : Ran). Lists doc state work x) e (run_lists doc state work), λ h. lists_run doc state work r h);
  only = λ doc state work r q h k. sym (lists_run doc state work r h) ∙ lists_run doc state work q k;
}
