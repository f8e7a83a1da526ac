-- A run over the paragraphs in Document order (document 01, "Given binds the set of its elements; Axiom tests each identifier against its Decl").
use Rattle.std.specs.Prelude.{List, [], ◌∷◌, Bool, true, false, ℕ}
use Rattle.values.specs.Value.{Value}
use Rattle.reader_rules.specs.Tree.{Text, text, Lines, end, declaration, inclusion, Paragraph, given, axiomatic, schema, abbreviation, constraint, Document, document}
use Rattle.evaluator_rules.specs.Outcomes.{Outcome, ◌>>=◌, pure}
use Rattle.evaluator_rules.specs.Environment.{Environment, empty, bind, valued, generic}
use Rattle.evaluator_rules.specs.Rules.{eval_expr, eval_pred, test, stop_include}
use Rattle.states_rules.specs.States.{State}

-- what a paragraph, or a line of one, leaves: the names so far, or a failure at a node
pub data Step : Type 0 where
  onward : Environment → Step
  failed : ℕ → Step

unfoldable pub then : (Environment → Outcome Step) → Step → Outcome Step
then k (onward scope) = k scope
then k (failed n) = pure (failed n)

-- fails at node n where the test is false
unfoldable pub unless : ℕ → Bool → Environment → Step
unless n true scope = onward scope
unless n false scope = failed n

-- Given binds the set of its elements
unfoldable pub bind_givens : List ℕ → State → Environment → Environment
bind_givens [] state scope = scope
bind_givens (i ∷ xs) state scope = bind_givens xs state (bind i (valued (state i)) scope)

-- Axiom tests each identifier against its Decl, node n, E worked out anew each time (R25); `own` has the Axiom's identifiers so far
unfoldable pub test_names : ℕ → (Value → Outcome Bool) → List ℕ → State → Environment → Outcome Step
test_names n f [] state own = pure (onward own)
test_names n f (i ∷ xs) state own =
    f (state i) >>= λ b. elim b [ true ↦ test_names n f xs state (bind i (valued (state i)) own) | false ↦ pure (failed n) ]

-- the lines see only earlier paragraphs' names
unfoldable pub test_lines : Lines → State → Environment → Environment → Outcome Step
test_lines end state scope own = pure (onward own)
test_lines (declaration n a xs ls) state scope own = test_names n (test a scope) xs state own >>= then (λ own'. test_lines ls state scope own')
test_lines (inclusion i ls) state scope own = stop_include i

-- An Axiom then tests its predicate; an Abbreviation without parameters is worked out and kept (R27); a Constraint fails if false; Schemas are passed over.
unfoldable pub run_paragraph : Paragraph → State → Environment → Outcome Step
run_paragraph (given n xs) state scope = pure (onward (bind_givens xs state scope))
run_paragraph (axiomatic n (text m p ls)) state scope =
    test_lines ls state scope scope >>= then (λ own. eval_pred p own >>= λ b. pure (unless n b own))
run_paragraph (schema n s ps x) state scope = pure (onward scope)
run_paragraph (abbreviation n i [] a) state scope = eval_expr a scope >>= λ v. pure (onward (bind i (valued v) scope))
run_paragraph (abbreviation n i (p ∷ ps) a) state scope = pure (onward (bind i generic scope))
run_paragraph (constraint n p) state scope = eval_pred p scope >>= λ b. pure (unless n b scope)

unfoldable pub run_paragraphs : List Paragraph → State → Environment → Outcome Step
run_paragraphs [] state scope = pure (onward scope)
run_paragraphs (p ∷ ps) state scope = run_paragraph p state scope >>= then (λ scope'. run_paragraphs ps state scope')

unfoldable pub run_document : Document → State → Outcome Step
run_document (document n ps) state = run_paragraphs ps state empty
