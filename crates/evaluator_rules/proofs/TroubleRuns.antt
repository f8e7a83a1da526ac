-- A run stops exactly where one of the evaluations that its paragraphs begin with stops.
use mathlib.Core.Path.{◌≡◌, refl, ap, subst, sym, ◌∙◌}
use mathlib.Core.Logic.{◌↔◌}
use mathlib.Core.List.{List}
use Prim.Native.Nat.{ℕ, ◌≤◌}
use native.Mathlib.Omega.{arith}
use Rattle.reader_rules.specs.Tree.{Expr, Lines, include, Paragraph, Document, document}
use Rattle.reader_rules.specs.Reading.{read_of}
use Rattle.reader_rules.specs.Decode.{tree_of}
use Rattle.reader_rules.specs.Refusals.{Readable, Refused}
use Rattle.reader_rules.proofs.Scan.{same_refusal}
use Rattle.evaluator_rules.specs.declared.Ending.{Ending}
use Rattle.states_rules.specs.Names.{document_names}
use Rattle.states_rules.specs.States.{State, value_in}
use Rattle.evaluator_rules.specs.Outcomes.{Event, Outcome, done, stopped}
use Rattle.evaluator_rules.specs.Environment.{Environment, empty}
use Rattle.evaluator_rules.specs.Rules.{test, stop_include}
use Rattle.evaluator_rules.specs.Paragraphs.{Step, onward, failed, run_paragraph, run_document}
use Rattle.evaluator_rules.specs.Run.{Ran, ending, run_state, run_of, run_work_words}
use Rattle.evaluator_rules.specs.Claims.{WellFormedState}
use Rattle.evaluator_rules.specs.Listing.{stops}
use Rattle.evaluator_rules.specs.ListingRun
use Rattle.evaluator_rules.specs.ListingRun.{TestsNames, TestsLines, Runs, RunsAll, Lists}
use Rattle.evaluator_rules.specs.Evaluations
use Rattle.evaluator_rules.specs.Evaluations.{Stops, broke, Evaluation, working, telling, testing, including, StopsAt, EachName, Tested, Begins, BeginsIn, Within}
use Rattle.evaluator_rules.specs.Troubles
use Rattle.evaluator_rules.specs.Troubles.{Row, InRun, in_run, RunRefused}
use Rattle.evaluator_rules.proofs.StatePlace.{state_well}
use Rattle.evaluator_rules.proofs.EvaluationLists.{Some, said, stop_said, come, stop_come, value_stop, value_stops, truth_stop, truth_stops, test_said, test_stop, test_comes, test_stops}
use Rattle.evaluator_rules.proofs.TroublesWithin.{within_found, within_row}
use Rattle.evaluator_rules.proofs.ListingSaid.{expr_says, test_says}
use Rattle.evaluator_rules.proofs.WholeList.{names_say, lines_say, paragraph_says, paragraphs_say, names_come, lines_come, runs_come, all_come, by_state, run_lists, lists_run}

module _ (state : State) where
  -- ---- only there
  names_found : {n : ℕ} {a : Expr} {scope : Environment} {is : List ℕ} {own : Environment} {t : List Event} {w m : ℕ} → TestsNames state n a scope is own t (stops w m) → (i : ℕ) × EachName state a scope is i × Stops (test a scope (state i)) w m
  names_found {a = a} {scope = scope} (ListingRun.name_stops {i = i} h) = (i, Evaluations.first_name, test_stops a scope (state i) h)
  names_found {a = a} {scope = scope} (ListingRun.name_passes {i = j} h k) = let r = names_found k in (r.0, Evaluations.later_name (test_comes a scope (state j) h) r.1, r.2)

  lines_found : {scope own : Environment} {ls : Lines} {t : List Event} {w m : ℕ} → TestsLines state scope ls own t (stops w m) → (u : Evaluation) × Tested state scope ls own u × StopsAt u w m
  unfolding StopsAt stop_include
  lines_found {scope = scope} (ListingRun.line_ends {a = a} h e) = let r = names_found h in (testing a scope (state r.0), Evaluations.name_tested r.1, r.2)
  lines_found (ListingRun.line_goes_on h k) = let r = lines_found k in (r.0, Evaluations.later_tested_line (come (names_come state h)) r.1, r.2)
  lines_found (ListingRun.line_includes {n = n} {s = s} {k = k} {xs = xs} {rs = rs}) = (including (include n s k xs rs), Evaluations.included_line, broke)

  paragraph_found : {p : Paragraph} {scope : Environment} {t : List Event} {w m : ℕ} → Runs state p scope t (stops w m) → (u : Evaluation) × Begins state p scope u × StopsAt u w m
  unfolding StopsAt
  paragraph_found (ListingRun.lines_end h e) = let r = lines_found h in (r.0, Evaluations.axiom_line r.1, r.2)
  paragraph_found (ListingRun.axiom_stops {p = p} {own = own} h k) = (telling p own, Evaluations.axiom_predicate (come (lines_come state h)), truth_stops p own k)
  paragraph_found (ListingRun.abbreviation_stops {a = a} {scope = scope} h) = (working a scope, Evaluations.worked_out, value_stops a scope h)
  paragraph_found (ListingRun.constraint_stops {p = p} {scope = scope} h) = (telling p scope, Evaluations.constrained, truth_stops p scope h)

  paragraphs_found : {ps : List Paragraph} {scope : Environment} {t : List Event} {w m : ℕ} → RunsAll state ps scope t (stops w m) → (u : Evaluation) × BeginsIn state ps scope u × StopsAt u w m
  paragraphs_found (ListingRun.paragraph_ends h e) = let r = paragraph_found h in (r.0, Evaluations.this_paragraph r.1, r.2)
  paragraphs_found (ListingRun.paragraph_goes_on h k) = let r = paragraphs_found k in (r.0, Evaluations.next_paragraph (come (runs_come state h)) r.1, r.2)

  -- ---- and there
  names_stop : {n : ℕ} {a : Expr} {scope : Environment} {is : List ℕ} {i : ℕ} {w m : ℕ} → EachName state a scope is i → Stops (test a scope (state i)) w m → (own : Environment) → Some (TestsNames state n a scope is own) (stops w m)
  names_stop {a = a} {scope = scope} (Evaluations.first_name {i = i}) h own = (_, ListingRun.name_stops (test_stop a scope (state i) h).1)
  names_stop {a = a} {scope = scope} (Evaluations.later_name {j = j} g k) h own = (_, ListingRun.name_passes (test_said a scope (state j) g).1 (names_stop k h _).1)

  lines_stop : {scope own : Environment} {ls : Lines} {u : Evaluation} {w m : ℕ} → Tested state scope ls own u → StopsAt u w m → Some (TestsLines state scope ls own) (stops w m)
  unfolding StopsAt stop_include
  lines_stop (Evaluations.name_tested k) h = (_, ListingRun.line_ends (names_stop k h _).1 ListingRun.stopping)
  lines_stop {scope = scope} (Evaluations.later_tested_line {n = n} {a = a} {is = is} {own = own} g k) h =
      (_, ListingRun.line_goes_on (said (names_say state n a scope (test a scope) (λ v. test_says a _ v scope (λ scope'. expr_says a scope')) is own) g).1 (lines_stop k h).1)
  lines_stop (Evaluations.included_line {i = include n s k xs rs}) broke = (_, ListingRun.line_includes)

  paragraph_stops : {p : Paragraph} {scope : Environment} {u : Evaluation} {w m : ℕ} → Begins state p scope u → StopsAt u w m → Some (Runs state p scope) (stops w m)
  unfolding StopsAt
  paragraph_stops (Evaluations.axiom_line k) h = (_, ListingRun.lines_end (lines_stop k h).1 ListingRun.stopping)
  paragraph_stops (Evaluations.axiom_predicate {p = p} {ls = ls} {scope = scope} {own = own} g) h = (_, ListingRun.axiom_stops (said (lines_say state ls scope scope) g).1 (truth_stop p own h).1)
  paragraph_stops (Evaluations.worked_out {a = a} {scope = scope}) h = (_, ListingRun.abbreviation_stops (value_stop a scope h).1)
  paragraph_stops (Evaluations.constrained {p = p} {scope = scope}) h = (_, ListingRun.constraint_stops (truth_stop p scope h).1)

  paragraphs_stop : {ps : List Paragraph} {scope : Environment} {u : Evaluation} {w m : ℕ} → BeginsIn state ps scope u → StopsAt u w m → Some (RunsAll state ps scope) (stops w m)
  paragraphs_stop (Evaluations.this_paragraph k) h = (_, ListingRun.paragraph_ends (paragraph_stops k h).1 ListingRun.stopping)
  paragraphs_stop (Evaluations.next_paragraph {p = p} {scope = scope} g k) h = (_, ListingRun.paragraph_goes_on (said (paragraph_says state p scope) g).1 (paragraphs_stop k h).1)

  pub paragraph_trouble : (p : Paragraph) (scope : Environment) (w m : ℕ) → Stops (run_paragraph p state scope) w m ↔ ((t u : Evaluation) × Begins state p scope t × Within t u × Row w m u)
  paragraph_trouble p scope w m = (
    λ h. let r = paragraph_found (stop_said (paragraph_says state p scope) h).1 in let q = within_found w m r.0 r.2 in (r.0, q.0, r.1, q.1, q.2),
    λ r. stop_come (runs_come state (paragraph_stops r.2 (within_row w m r.0 r.1 r.3 r.4)).1),
  )

  -- ---- the document
  document_found : (w m : ℕ) (d : Document) → Stops (run_document d state) w m → (u : Evaluation) × InRun state d u × Row w m u
  unfolding run_document
  document_found w m (document n ps) h =
      let r = paragraphs_found (stop_said (paragraphs_say state ps empty) h).1 in let q = within_found w m r.0 r.2 in (q.0, in_run r.1 q.1, q.2)

  document_stops : (w m : ℕ) {d : Document} {u : Evaluation} → InRun state d u → Row w m u → Stops (run_document d state) w m
  unfolding run_document
  document_stops w m (in_run {t = t} {u = u} k j) h = stop_come (all_come state (paragraphs_stop k (within_row w m t u j h)).1)

-- ---- the run call
ending_refused : (o : Outcome Step) (w m : ℕ) → (ending o).finding ≡ Refused w m → Stops o w m
unfolding ending
ending_refused (done t (onward scope)) w m e = let z : ◌≡◌ {A = ℕ} 0 1 = cc in absurd (omega arith)
ending_refused (done t (failed n)) w m e = let z : ◌≡◌ {A = ℕ} 0 1 = cc in absurd (omega arith)
ending_refused (stopped t x n) w m e = let s = same_refusal x n w m e in subst (λ (z : ℕ). Stops {A = Step} (stopped t x n) z m) s.0 (subst (λ (z : ℕ). Stops {A = Step} (stopped t x n) x z) s.1 broke)

refused_ending : {o : Outcome Step} {w m : ℕ} → Stops o w m → (ending o).finding ≡ Refused w m
unfolding ending
refused_ending broke = refl

module _ (doc state : List ℕ) (work : ℕ) (read : read_of doc ≡ Readable) (room : run_work_words ≤ work) (well : WellFormedState (document_names (tree_of doc)) state) where
  by_document : (run_of doc state work).finding ≡ (ending (run_document (tree_of doc) (value_in (document_names (tree_of doc)) state))).finding
  unfolding run_state
  by_document = ap (λ (r : Ran). r.finding) (by_state doc state work read room Readable ((state_well (document_names (tree_of doc)) state).1 well))

  pub run_trouble : (w m : ℕ) → ((run_of doc state work).finding ≡ Refused w m) ↔ ((u : Evaluation) × InRun (value_in (document_names (tree_of doc)) state) (tree_of doc) u × Row w m u)
  run_trouble w m = (
    λ e. document_found _ w m (tree_of doc) (ending_refused _ w m (sym by_document ∙ e)),
    λ h. by_document ∙ refused_ending (document_stops _ w m h.1 h.2),
  )

  run_troubled : (w m : ℕ) → (run_of doc state work).finding ≡ Refused w m → RunRefused doc state work w m
  run_troubled w m e = let r = (run_trouble w m).0 e in Troubles.troubled read room well r.1 r.2

  run_stops : {w m : ℕ} {u : Evaluation} → InRun (value_in (document_names (tree_of doc)) state) (tree_of doc) u → Row w m u → (run_of doc state work).finding ≡ Refused w m
  run_stops {w = w} {m = m} {u = u} k h = (run_trouble w m).1 (u, k, h)

module _ (doc state : List ℕ) (work : ℕ) where
  renamed : {n p : ℕ} (w m : ℕ) → RunRefused doc state work n p → Refused {A = Ending} n p ≡ Refused w m → RunRefused doc state work w m
  renamed {n = n} {p = p} w m h e = let s = same_refusal n p w m e in subst (λ (z : ℕ). RunRefused doc state work z m) s.0 (subst (λ (z : ℕ). RunRefused doc state work n z) s.1 h)

  refused : {r : Ran} (w m : ℕ) → Lists doc state work r → run_of doc state work ≡ r → r.finding ≡ Refused w m → RunRefused doc state work w m
  refused w m (ListingRun.unreadable h) e f = renamed w m (Troubles.unreadable h) f
  refused w m (ListingRun.no_room h l) e f = renamed w m (Troubles.no_room h l) f
  refused w m (ListingRun.ill_formed h l i) e f = renamed w m (Troubles.ill_formed h l i) f
  refused w m (ListingRun.holds h l i k) e f = let z : ◌≡◌ {A = ℕ} 0 1 = cc in absurd (omega arith)
  refused w m (ListingRun.fails h l i k) e f = let z : ◌≡◌ {A = ℕ} 0 1 = cc in absurd (omega arith)
  refused w m (ListingRun.troubled h l i k) e f = run_troubled doc state work h l i w m (ap (λ (r : Ran). r.finding) e ∙ f)

  refuses : {w m : ℕ} → RunRefused doc state work w m → (run_of doc state work).finding ≡ Refused w m
  refuses (Troubles.unreadable h) = ap (λ (r : Ran). r.finding) (lists_run doc state work _ (ListingRun.unreadable h))
  refuses (Troubles.no_room h l) = ap (λ (r : Ran). r.finding) (lists_run doc state work _ (ListingRun.no_room h l))
  refuses (Troubles.ill_formed h l i) = ap (λ (r : Ran). r.finding) (lists_run doc state work _ (ListingRun.ill_formed h l i))
  refuses (Troubles.troubled h l i k r) = run_stops doc state work h l i k r

  pub run_refused : (w m : ℕ) → ((run_of doc state work).finding ≡ Refused w m) ↔ RunRefused doc state work w m
  run_refused w m = (λ e. refused w m (run_lists doc state work) refl e, λ h. refuses h)
