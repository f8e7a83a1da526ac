-- The list of a run, paragraph by paragraph (document 01, "Given binds the set of its elements; Axiom tests each identifier against its Decl ..").
use Rattle.std.specs.Prelude.{◌≡◌, ◌↔◌, List, [], ◌∷◌, ◌++◌, true, false, ℕ, ◌≤◌, ◌<◌}
use Rattle.values.specs.Value.{Value}
use Rattle.reader_rules.specs.Tree.{Expr, Exprs, Pred, Lines, end, declaration, inclusion, include, text, Schema, Paragraph, given, axiomatic, schema, abbreviation, constraint, Document, document}
use Rattle.reader_rules.specs.Reading.{read_of}
use Rattle.reader_rules.specs.Decode.{tree_of}
use Rattle.reader_rules.specs.Refusals.{Readable, Refused}
use Rattle.evaluator_rules.specs.Endings.{Holds, Fails}
use Rattle.states_rules.specs.Names.{document_names}
use Rattle.states_rules.specs.States.{State, value_in}
use Rattle.evaluator_rules.specs.Outcomes.{Event}
use Rattle.evaluator_rules.specs.Environment.{Environment, empty, bind, valued, generic}
use Rattle.evaluator_rules.specs.Paragraphs.{Step, onward, failed, bind_givens}
use Rattle.evaluator_rules.specs.Run.{Ran, ran, run_of, run_work_words}
use Rattle.evaluator_rules.specs.Claims.{IllFormedState, WellFormedState}
use Rattle.evaluator_rules.specs.Listing.{Result, gives, stops, Works, Tells, Tests}

-- the run ends here: a failure at a node, or a stop
pub data Ends : Result Step → Type 0 where
  failing : {n : ℕ} → Ends (gives (failed n))
  stopping : {w m : ℕ} → Ends (stops w m)

-- "Axiom tests each identifier against its Decl (false: fails at the Decl)", node n, by Member's test, E anew each time (R25)
pub data TestsNames (state : State) (n : ℕ) (a : Expr) (scope : Environment) : List ℕ → Environment → List Event → Result Step → Type 0 where
  no_name : {own : Environment} → TestsNames state n a scope [] own [] (gives (onward own))
  name_stops : {i : ℕ} {is : List ℕ} {own : Environment} {t : List Event} {w m : ℕ} → Tests a scope (state i) t (stops w m) → TestsNames state n a scope (i ∷ is) own t (stops w m)
  name_fails : {i : ℕ} {is : List ℕ} {own : Environment} {t : List Event} → Tests a scope (state i) t (gives false) → TestsNames state n a scope (i ∷ is) own t (gives (failed n))
  name_passes : {i : ℕ} {is : List ℕ} {own : Environment} {t u : List Event} {r : Result Step} → Tests a scope (state i) t (gives true) → TestsNames state n a scope is (bind i (valued (state i)) own) u r
      → TestsNames state n a scope (i ∷ is) own (t ++ u) r

-- an Axiom's lines, which see only earlier paragraphs' names; an Include is 54 when its turn comes
pub data TestsLines (state : State) (scope : Environment) : Lines → Environment → List Event → Result Step → Type 0 where
  no_line : {own : Environment} → TestsLines state scope end own [] (gives (onward own))
  line_ends : {n : ℕ} {a : Expr} {is : List ℕ} {ls : Lines} {own : Environment} {t : List Event} {r : Result Step} → TestsNames state n a scope is own t r → Ends r → TestsLines state scope (declaration n a is ls) own t r
  line_goes_on : {n : ℕ} {a : Expr} {is : List ℕ} {ls : Lines} {own own' : Environment} {t u : List Event} {r : Result Step} → TestsNames state n a scope is own t (gives (onward own')) → TestsLines state scope ls own' u r
      → TestsLines state scope (declaration n a is ls) own (t ++ u) r
  line_includes : {n s k : ℕ} {xs : Exprs} {rs : List (ℕ × ℕ)} {ls : Lines} {own : Environment} → TestsLines state scope (inclusion (include n s k xs rs) ls) own [] (stops 54 n)

pub data Runs (state : State) : Paragraph → Environment → List Event → Result Step → Type 0 where
  binds_givens : {n : ℕ} {is : List ℕ} {scope : Environment} → Runs state (given n is) scope [] (gives (onward (bind_givens is state scope)))
  -- "then its predicate (false: fails at the paragraph)"
  lines_end : {n k : ℕ} {p : Pred} {ls : Lines} {scope : Environment} {t : List Event} {r : Result Step} → TestsLines state scope ls scope t r → Ends r → Runs state (axiomatic n (text k p ls)) scope t r
  axiom_stops : {n k : ℕ} {p : Pred} {ls : Lines} {scope own : Environment} {t u : List Event} {w m : ℕ} → TestsLines state scope ls scope t (gives (onward own)) → Tells p own u (stops w m)
      → Runs state (axiomatic n (text k p ls)) scope (t ++ u) (stops w m)
  axiom_fails : {n k : ℕ} {p : Pred} {ls : Lines} {scope own : Environment} {t u : List Event} → TestsLines state scope ls scope t (gives (onward own)) → Tells p own u (gives false)
      → Runs state (axiomatic n (text k p ls)) scope (t ++ u) (gives (failed n))
  axiom_holds : {n k : ℕ} {p : Pred} {ls : Lines} {scope own : Environment} {t u : List Event} → TestsLines state scope ls scope t (gives (onward own)) → Tells p own u (gives true)
      → Runs state (axiomatic n (text k p ls)) scope (t ++ u) (gives (onward own))
  -- "other paragraphs are passed over"
  schema_passed : {n s : ℕ} {ps : List ℕ} {x : Schema} {scope : Environment} → Runs state (schema n s ps x) scope [] (gives (onward scope))
  generic_passed : {n i p : ℕ} {ps : List ℕ} {a : Expr} {scope : Environment} → Runs state (abbreviation n i (p ∷ ps) a) scope [] (gives (onward (bind i generic scope)))
  -- "Abbreviation without parameters is worked out and kept", used or not (R27)
  abbreviation_stops : {n i : ℕ} {a : Expr} {scope : Environment} {t : List Event} {w m : ℕ} → Works a scope t (stops w m) → Runs state (abbreviation n i [] a) scope t (stops w m)
  abbreviation_kept : {n i : ℕ} {a : Expr} {scope : Environment} {t : List Event} {v : Value} → Works a scope t (gives v) → Runs state (abbreviation n i [] a) scope t (gives (onward (bind i (valued v) scope)))
  -- "Constraint fails if false"
  constraint_stops : {n : ℕ} {p : Pred} {scope : Environment} {t : List Event} {w m : ℕ} → Tells p scope t (stops w m) → Runs state (constraint n p) scope t (stops w m)
  constraint_fails : {n : ℕ} {p : Pred} {scope : Environment} {t : List Event} → Tells p scope t (gives false) → Runs state (constraint n p) scope t (gives (failed n))
  constraint_holds : {n : ℕ} {p : Pred} {scope : Environment} {t : List Event} → Tells p scope t (gives true) → Runs state (constraint n p) scope t (gives (onward scope))

-- the paragraphs in Document order, up to where the run ends
pub data RunsAll (state : State) : List Paragraph → Environment → List Event → Result Step → Type 0 where
  no_paragraph : {scope : Environment} → RunsAll state [] scope [] (gives (onward scope))
  paragraph_ends : {p : Paragraph} {ps : List Paragraph} {scope : Environment} {t : List Event} {r : Result Step} → Runs state p scope t r → Ends r → RunsAll state (p ∷ ps) scope t r
  paragraph_goes_on : {p : Paragraph} {ps : List Paragraph} {scope scope' : Environment} {t u : List Event} {r : Result Step} → Runs state p scope t (gives (onward scope')) → RunsAll state ps scope' u r
      → RunsAll state (p ∷ ps) scope (t ++ u) r

pub data RunsDocument (state : State) : Document → List Event → Result Step → Type 0 where
  in_order : {n : ℕ} {ps : List Paragraph} {t : List Event} {r : Result Step} → RunsAll state ps empty t r → RunsDocument state (document n ps) t r

-- The run of a document's words with a state's, in a work area of `work` words: its finding and its list. A refusal before the paragraphs has no list.
pub data Lists (doc state : List ℕ) (work : ℕ) : Ran → Type 0 where
  unreadable : {n p : ℕ} → read_of doc ≡ Refused n p → Lists doc state work (ran (Refused n p) [])
  no_room : read_of doc ≡ Readable → work < run_work_words → Lists doc state work (ran (Refused 21 0) [])
  ill_formed : {p : ℕ} → read_of doc ≡ Readable → run_work_words ≤ work → IllFormedState (document_names (tree_of doc)) state p → Lists doc state work (ran (Refused 41 p) [])
  holds : {t : List Event} {scope : Environment} → read_of doc ≡ Readable → run_work_words ≤ work → WellFormedState (document_names (tree_of doc)) state
      → RunsDocument (value_in (document_names (tree_of doc)) state) (tree_of doc) t (gives (onward scope)) → Lists doc state work (ran Holds t)
  fails : {t : List Event} {n : ℕ} → read_of doc ≡ Readable → run_work_words ≤ work → WellFormedState (document_names (tree_of doc)) state
      → RunsDocument (value_in (document_names (tree_of doc)) state) (tree_of doc) t (gives (failed n)) → Lists doc state work (ran (Fails n) t)
  troubled : {t : List Event} {w m : ℕ} → read_of doc ≡ Readable → run_work_words ≤ work → WellFormedState (document_names (tree_of doc)) state
      → RunsDocument (value_in (document_names (tree_of doc)) state) (tree_of doc) t (stops w m) → Lists doc state work (ran (Refused w m) t)

-- The run's finding and list are those of the sentences above, and these give one finding and one list only.
pub record WholeList : Type 0 where
  pub whole : (doc state : List ℕ) (work : ℕ) (r : Ran) → (run_of doc state work ≡ r) ↔ Lists doc state work r
  pub only : (doc state : List ℕ) (work : ℕ) (r q : Ran) → Lists doc state work r → Lists doc state work q → r ≡ q
