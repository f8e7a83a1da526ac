-- EVERY VALUE THAT A RUN LISTS IS WELL FORMED, for the sizes that the state gives its givens. So each set in a run ascends by word sequence.
use Rattle.std.specs.Prelude.{Err}
use mathlib.Core.Path.{◌≡◌, refl}
use mathlib.Core.List.{List, [], ◌∷◌}
use mathlib.Core.Bool.{Bool, true, false}
use Prim.Native.Nat.{ℕ}
use lib.Dec.{leb}
use Rattle.values.specs.Value.{Value}
use Rattle.values.specs.WellFormed.{well_formed}
use Rattle.reader_rules.specs.Tree.{text, Lines, end, declaration, inclusion, Paragraph, schema, abbreviation, constraint, axiomatic, Document, document}
use Rattle.reader_rules.specs.Tree as Tree
use Rattle.reader_rules.specs.Reading.{read_of}
use Rattle.reader_rules.specs.Decode.{tree_of}
use Rattle.reader_rules.specs.Refusals.{Finding, Readable, Refused}
use Rattle.reader_rules.proofs.Sized.{SizedExpr, SizedLines, SizedParagraph, SizedParagraphs, SizedDocument}
use Rattle.reader_rules.proofs.SizedTree.{document_sized}
use Rattle.states_rules.specs.Names.{document_names}
use Rattle.states_rules.specs.States.{State, sizes_in, state_of}
use Rattle.evaluator_rules.specs.Outcomes.{Event, Outcome}
use Rattle.evaluator_rules.specs.Environment.{Environment, empty, bind, valued}
use Rattle.evaluator_rules.specs.Paragraphs.{Step, onward, failed, then, unless, bind_givens, test_names, test_lines, run_paragraph, run_paragraphs, run_document}
use Rattle.evaluator_rules.specs.Run.{ending, run_state, run_work, run_read, run_of, run_work_words}
use Rattle.evaluator_rules.specs.Claims as Claims
use Rattle.evaluator_rules.specs.Claims.{Listed, Good, finished, ceased, Formed}
use Rattle.evaluator_rules.proofs.Outcomes.{bind_good, pure_good, choose_good}
use Rattle.evaluator_rules.proofs.Decoding.{Words}
use Rattle.evaluator_rules.proofs.StatePlace.{state_well}
use Rattle.evaluator_rules.proofs.FormedState.{state_formed}
use Rattle.evaluator_rules.proofs.FormedRules.{Proper, Keeps, Keeping, include_formed, expr_formed, pred_formed, test_formed}

module _ (size : ℕ → ℕ) (state : State) (says : (i : ℕ) → well_formed size (state i) ≡ true) where
  abbrev Stepped : Step → Type 0
  Stepped (onward scope) = Keeping size scope
  Stepped (failed n) = Unit {0}

  then_formed : (k : Environment → Outcome Step) (s : Step) → Stepped s → ((scope : Environment) → Keeping size scope → Keeps size Stepped (k scope)) → Keeps size Stepped (then k s)
  unfolding then
  then_formed k (onward scope) c h = h scope c
  then_formed k (failed n) c h = pure_good tt

  unless_formed : (n : ℕ) (b : Bool) (scope : Environment) → Keeping size scope → Stepped (unless n b scope)
  unfolding unless
  unless_formed n true scope c = c
  unless_formed n false scope c = tt

  givens_formed : (xs : List ℕ) (scope : Environment) → Keeping size scope → Keeping size (bind_givens xs state scope)
  unfolding bind_givens Keeping
  givens_formed [] scope c = c
  givens_formed (i ∷ xs) scope c = givens_formed xs (bind i (valued (state i)) scope) (says i, c)

  names_formed : (n : ℕ) (f : Value → Outcome Bool) (xs : List ℕ) (own : Environment) → ((v : Value) → Proper size v → Keeps size (λ b. Unit {0}) (f v)) → Keeping size own → Keeps size Stepped (test_names n f xs state own)
  unfolding test_names Keeping
  names_formed n f [] own h c = pure_good c
  names_formed n f (i ∷ xs) own h c = bind_good (h (state i) (says i)) λ b _. choose_good b (names_formed n f xs _ h (says i, c)) (pure_good tt)

  axiom_formed : (ls : Lines) (scope own : Environment) → SizedLines ls → Keeping size scope → Keeping size own → Keeps size Stepped (test_lines ls state scope own)
  unfolding test_lines SizedExpr
  axiom_formed end scope own z c d = pure_good d
  axiom_formed (declaration n a xs ls) scope own z c d =
      bind_good (names_formed n _ xs own (λ v h. test_formed size a _ v scope z.0 h c (λ scope' c'. expr_formed size a scope' z.0 c')) d)
      λ s g. then_formed _ s g (λ own' d'. axiom_formed ls scope own' z.1 c d')
  axiom_formed (inclusion i ls) scope own z c d = include_formed size i

  paragraph_formed : (p : Paragraph) (scope : Environment) → SizedParagraph p → Keeping size scope → Keeps size Stepped (run_paragraph p state scope)
  unfolding run_paragraph SizedParagraph SizedExpr Keeping
  paragraph_formed (Tree.given n xs) scope z c = pure_good (givens_formed xs scope c)
  paragraph_formed (axiomatic n (text m p ls)) scope z c =
      bind_good (axiom_formed ls scope scope z.1 c c) λ s g. then_formed _ s g (λ own d. bind_good (pred_formed size p own z.0 d) λ b _. pure_good (unless_formed n b own d))
  paragraph_formed (schema n s ps x) scope z c = pure_good c
  paragraph_formed (abbreviation n i [] a) scope z c = bind_good (expr_formed size a scope z c) (λ v h. pure_good (h, c))
  paragraph_formed (abbreviation n i (p ∷ ps) a) scope z c = pure_good (tt, c)
  paragraph_formed (constraint n p) scope z c = bind_good (pred_formed size p scope z c) (λ b _. pure_good (unless_formed n b scope c))

  paragraphs_formed : (ps : List Paragraph) (scope : Environment) → SizedParagraphs ps → Keeping size scope → Keeps size Stepped (run_paragraphs ps state scope)
  unfolding run_paragraphs SizedParagraphs
  paragraphs_formed [] scope z c = pure_good c
  paragraphs_formed (p ∷ ps) scope z c = bind_good (paragraph_formed p scope z.0 c) λ s g. then_formed _ s g (λ scope' c'. paragraphs_formed ps scope' z.1 c')

  document_formed : (tree : Document) → SizedDocument tree → Keeps size Stepped (run_document tree state)
  unfolding run_document SizedDocument Keeping
  document_formed (document n ps) z = paragraphs_formed ps empty z tt

ending_formed : {E : ℕ → Value → Type 0} {S : ℕ → ℕ → Type 0} {P : Step → Type 0} {m : Outcome Step} → Good E S P m → Listed E (ending m).list
unfolding ending
ending_formed (finished {a = onward scope} t _) = t
ending_formed (finished {a = failed n} t _) = t
ending_formed (ceased t s) = t

module _ (doc state : List ℕ) (words : Words state) where
  abbrev Kept : List Event → Type 0
  Kept = Listed (Formed (sizes_in (document_names (tree_of doc)) state))

  state_kept : read_of doc ≡ Readable → (r : Finding) → state_of (document_names (tree_of doc)) state ≡ r → Kept (run_state r (tree_of doc) state).list
  unfolding run_state
  state_kept read Readable e =
      ending_formed (document_formed _ _ (state_formed (document_names (tree_of doc)) state words ((state_well (document_names (tree_of doc)) state).0 e)) (tree_of doc) (document_sized doc read))
  state_kept read (Err err) e = Claims.empty

  work_kept : read_of doc ≡ Readable → (b : Bool) → Kept (run_work b (tree_of doc) state).list
  unfolding run_work
  work_kept read true = state_kept read _ refl
  work_kept read false = Claims.empty

  read_kept : (work : ℕ) (r : Finding) → read_of doc ≡ r → Kept (run_read r doc state work).list
  unfolding run_read
  read_kept work Readable e = work_kept e (leb run_work_words work)
  read_kept work (Err err) e = Claims.empty

-- for any document words and any state of 32-bit words; an ill-formed state is 41 and lists nothing
pub run_formed : (doc state : List ℕ) (work : ℕ) → Words state → Listed (Formed (sizes_in (document_names (tree_of doc)) state)) (run_of doc state work).list
unfolding run_of
run_formed doc state work words = read_kept doc state words work (read_of doc) refl
