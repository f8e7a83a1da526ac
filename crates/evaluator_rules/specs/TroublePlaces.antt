-- The column "Place" of the table of findings: which of the numbers 51 to 55 a node of each kind can get. w at m in a tree: m is one of its nodes, of a
-- kind that can get w, and not below one that is never worked out. (A Ref's 55 is for scopes in general; in a run none comes, proofs/ShortNames.)
use Rattle.std.specs.Prelude.{◌≡◌, List, [], ◌∷◌, ◌⊎◌, ℕ, ◌≤◌}
use Rattle.reader_rules.specs.Tree.{Operator, plus, minus, times, Expr, reference, number, integers, set, tuple, product, power, application, selection, theta, schema_set}
use Rattle.reader_rules.specs.Tree.{arithmetic, comprehension, Exprs, none, more, Pred, truth, equal, member, at_most, not, connected, quantified, Text, text}
use Rattle.reader_rules.specs.Tree.{Lines, end, declaration, inclusion, Include, include, Paragraph, given, axiomatic, schema, abbreviation, constraint, Document, document}
use Rattle.reader_rules.specs.Tree as Tree
use Rattle.reader_rules.specs.Places.{At}
use Rattle.reader_rules.specs.Reading.{read_of}
use Rattle.reader_rules.specs.Decode.{tree_of}
use Rattle.reader_rules.specs.Refusals.{Readable, Refused}
use Rattle.states_rules.specs.Names.{document_names}
use Rattle.states_rules.specs.States.{State}
use Rattle.evaluator_rules.specs.Environment.{Environment}
use Rattle.evaluator_rules.specs.Paragraphs.{run_paragraph}
use Rattle.evaluator_rules.specs.Run.{run_of, run_work_words}
use Rattle.evaluator_rules.specs.Claims.{Trouble, WellFormedState}
use Rattle.evaluator_rules.specs.Evaluations.{Stops, Evaluation, working, telling, testing, declaring, including, StopsAt}

-- 52 at div and mod alone, 53 at the others
unfoldable pub numbers_of : Operator → List ℕ
numbers_of plus = 51 ∷ 53 ∷ []
numbers_of minus = 51 ∷ 53 ∷ []
numbers_of times = 51 ∷ 53 ∷ []
numbers_of Tree.quotient = 51 ∷ 52 ∷ []
numbers_of Tree.remainder = 51 ∷ 52 ∷ []

unfoldable pub PlacedInclude : ℕ → ℕ → Include → Type 0
PlacedInclude w m (include n s k xs rs) = At w m n (54 ∷ [])

unfoldable mutual
  -- worked out as a value
  pub PlacedExpr : ℕ → ℕ → Expr → Type 0
  PlacedExpr w m (reference n i xs) = At w m n (51 ∷ 54 ∷ 55 ∷ []) ⊎ PlacedExprs w m xs
  PlacedExpr w m (number n k) = ⊥
  PlacedExpr w m (integers n) = At w m n (54 ∷ [])
  PlacedExpr w m (set n xs) = At w m n (55 ∷ []) ⊎ PlacedExprs w m xs
  PlacedExpr w m (tuple n xs) = At w m n (55 ∷ []) ⊎ PlacedExprs w m xs
  PlacedExpr w m (product n xs) = At w m n (51 ∷ 55 ∷ []) ⊎ PlacedExprs w m xs
  PlacedExpr w m (power n a) = At w m n (51 ∷ 55 ∷ []) ⊎ PlacedExpr w m a
  PlacedExpr w m (application n f a) = At w m n (51 ∷ 52 ∷ []) ⊎ (PlacedExpr w m f ⊎ PlacedExpr w m a)
  PlacedExpr w m (selection n a i) = At w m n (54 ∷ [])
  PlacedExpr w m (theta n s k) = At w m n (54 ∷ [])
  PlacedExpr w m (schema_set n i) = At w m n (54 ∷ [])
  PlacedExpr w m (arithmetic n o a b) = At w m n (numbers_of o) ⊎ (PlacedExpr w m a ⊎ PlacedExpr w m b)
  PlacedExpr w m (comprehension n t a) = At w m n (55 ∷ []) ⊎ (PlacedText w m t ⊎ PlacedExpr w m a)

  pub PlacedExprs : ℕ → ℕ → Exprs → Type 0
  PlacedExprs w m none = ⊥
  PlacedExprs w m (more a xs) = PlacedExpr w m a ⊎ PlacedExprs w m xs

  -- tested against: "a wrong sort or number of parts is 51 at the node tested against"; the value of a Set or Comprehension is a set
  pub PlacedTest : ℕ → ℕ → Expr → Type 0
  PlacedTest w m (reference n i xs) = At w m n (51 ∷ 54 ∷ 55 ∷ []) ⊎ PlacedExprs w m xs
  PlacedTest w m (number n k) = At w m n (51 ∷ [])
  PlacedTest w m (integers n) = At w m n (51 ∷ [])
  PlacedTest w m (set n xs) = At w m n (55 ∷ []) ⊎ PlacedExprs w m xs
  PlacedTest w m (tuple n xs) = At w m n (51 ∷ 55 ∷ []) ⊎ PlacedExprs w m xs
  PlacedTest w m (product n xs) = At w m n (51 ∷ []) ⊎ PlacedTests w m xs
  PlacedTest w m (power n a) = At w m n (51 ∷ []) ⊎ PlacedTest w m a
  PlacedTest w m (application n f a) = At w m n (51 ∷ 52 ∷ []) ⊎ (PlacedExpr w m f ⊎ PlacedExpr w m a)
  PlacedTest w m (selection n a i) = At w m n (54 ∷ [])
  PlacedTest w m (theta n s k) = At w m n (54 ∷ [])
  PlacedTest w m (schema_set n i) = At w m n (54 ∷ [])
  PlacedTest w m (arithmetic n o a b) = At w m n (numbers_of o) ⊎ (PlacedExpr w m a ⊎ PlacedExpr w m b)
  PlacedTest w m (comprehension n t a) = At w m n (55 ∷ []) ⊎ (PlacedText w m t ⊎ PlacedExpr w m a)

  pub PlacedTests : ℕ → ℕ → Exprs → Type 0
  PlacedTests w m none = ⊥
  PlacedTests w m (more a xs) = PlacedTest w m a ⊎ PlacedTests w m xs

  -- of predicates only ≤ has a number of its own
  pub PlacedPred : ℕ → ℕ → Pred → Type 0
  PlacedPred w m (truth n) = ⊥
  PlacedPred w m (equal n a b) = PlacedExpr w m a ⊎ PlacedExpr w m b
  PlacedPred w m (member n a b) = PlacedExpr w m a ⊎ PlacedTest w m b
  PlacedPred w m (at_most n a b) = At w m n (51 ∷ []) ⊎ (PlacedExpr w m a ⊎ PlacedExpr w m b)
  PlacedPred w m (not n p) = PlacedPred w m p
  PlacedPred w m (connected n o p q) = PlacedPred w m p ⊎ PlacedPred w m q
  PlacedPred w m (quantified n q t p) = PlacedText w m t ⊎ PlacedPred w m p

  -- a quantifier's or Comprehension's Text; the lines after an Include are not looked at
  pub PlacedText : ℕ → ℕ → Text → Type 0
  PlacedText w m (text n p ls) = PlacedLines w m ls ⊎ PlacedPred w m p

  pub PlacedLines : ℕ → ℕ → Lines → Type 0
  PlacedLines w m end = ⊥
  PlacedLines w m (declaration n a is ls) = At w m n (51 ∷ []) ⊎ (PlacedExpr w m a ⊎ PlacedLines w m ls)
  PlacedLines w m (inclusion i ls) = PlacedInclude w m i

-- an Axiom's lines: a Decl has no number of its own, since its E is tested against
unfoldable pub PlacedAxiom : ℕ → ℕ → Lines → Type 0
PlacedAxiom w m end = ⊥
PlacedAxiom w m (declaration n a is ls) = PlacedTest w m a ⊎ PlacedAxiom w m ls
PlacedAxiom w m (inclusion i ls) = PlacedInclude w m i

-- Givens, Schemas and Abbreviations with parameters are not worked out
unfoldable pub PlacedParagraph : ℕ → ℕ → Paragraph → Type 0
PlacedParagraph w m (given n is) = ⊥
PlacedParagraph w m (axiomatic n (text k p ls)) = PlacedAxiom w m ls ⊎ PlacedPred w m p
PlacedParagraph w m (schema n s ps x) = ⊥
PlacedParagraph w m (abbreviation n i [] a) = PlacedExpr w m a
PlacedParagraph w m (abbreviation n i (p ∷ ps) a) = ⊥
PlacedParagraph w m (constraint n p) = PlacedPred w m p

unfoldable pub PlacedParagraphs : ℕ → ℕ → List Paragraph → Type 0
PlacedParagraphs w m [] = ⊥
PlacedParagraphs w m (p ∷ ps) = PlacedParagraph w m p ⊎ PlacedParagraphs w m ps

unfoldable pub PlacedDocument : ℕ → ℕ → Document → Type 0
PlacedDocument w m (document n ps) = PlacedParagraphs w m ps

unfoldable pub PlacedEvaluation : ℕ → ℕ → Evaluation → Type 0
PlacedEvaluation w m (working a scope) = PlacedExpr w m a
PlacedEvaluation w m (telling p scope) = PlacedPred w m p
PlacedEvaluation w m (testing a scope v) = PlacedTest w m a
PlacedEvaluation w m (declaring ls scope) = PlacedLines w m ls
PlacedEvaluation w m (including i) = PlacedInclude w m i

-- Every stop is 51 to 55, at a node of a kind that can get the number.
pub record TroublePlaces : Type 0 where
  pub each : (t : Evaluation) (w m : ℕ) → StopsAt t w m → Trouble w m × PlacedEvaluation w m t
  pub paragraph : (p : Paragraph) (state : State) (scope : Environment) (w m : ℕ) → Stops (run_paragraph p state scope) w m → Trouble w m × PlacedParagraph w m p
  pub run : (doc state : List ℕ) (work w m : ℕ) → read_of doc ≡ Readable → run_work_words ≤ work → WellFormedState (document_names (tree_of doc)) state
      → (run_of doc state work).finding ≡ Refused w m → Trouble w m × PlacedDocument w m (tree_of doc)
