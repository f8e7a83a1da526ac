-- The findings of a run: reading's, then 21, then 41, then holds, fails or 51 to 55.
use Rattle.std.specs.Prelude.{Err}
use mathlib.Core.Path.{◌≡◌, refl, sym, subst}
use mathlib.Core.List.{List, [], ◌∷◌}
use mathlib.Core.Bool.{Bool, true, false}
use Prim.Native.Nat.{ℕ, ◌≤◌}
use lib.Dec.{leb}
use borrow.Author.Tests.{leb-true, leb-false}
use Rattle.values.specs.Value.{Value}
use Rattle.reader_rules.specs.Tree.{text, Lines, end, declaration, inclusion, Paragraph, schema, abbreviation, constraint, axiomatic, Document, document}
use Rattle.reader_rules.specs.Tree as Tree
use Rattle.reader_rules.specs.Reading.{read_of}
use Rattle.reader_rules.specs.Decode.{tree_of}
use Rattle.reader_rules.specs.Refusals.{Finding, Readable, Refused}
use Rattle.evaluator_rules.specs.Outcomes.{Outcome}
use Rattle.evaluator_rules.specs.Environment.{Environment}
use Rattle.states_rules.specs.Names.{document_names}
use Rattle.states_rules.specs.States.{State, state_of}
use Rattle.evaluator_rules.specs.Paragraphs.{Step, onward, failed, then, test_names, test_lines, run_paragraph, run_paragraphs, run_document}
use Rattle.evaluator_rules.specs.Run.{ran, ending, run_state, run_work, run_read, run_of, run_work_words}
use Rattle.evaluator_rules.specs.Claims.{finished, ceased, RunFinds, unreadable, no_room, ill_formed, holds, fails, troubled, WellFormedState}
use Rattle.evaluator_rules.proofs.Outcomes.{pure_good, choose_good}
use Rattle.evaluator_rules.proofs.Findings.{Fine, bind_fine, include_fine, expr_fine, pred_fine, test_fine}
use Rattle.evaluator_rules.proofs.StatePlace.{state_ill, state_well}

then_fine : (k : Environment → Outcome Step) (s : Step) → ((scope : Environment) → Fine (k scope)) → Fine (then k s)
unfolding then
then_fine k (onward scope) h = h scope
then_fine k (failed n) h = pure_good tt

names_fine : (n : ℕ) (f : Value → Outcome Bool) (xs : List ℕ) (state : State) (own : Environment) → ((v : Value) → Fine (f v)) → Fine (test_names n f xs state own)
unfolding test_names
names_fine n f [] state own h = pure_good tt
names_fine n f (i ∷ xs) state own h = bind_fine (h (state i)) (λ b. choose_good b (names_fine n f xs state _ h) (pure_good tt))

axiom_fine : (ls : Lines) (state : State) (scope own : Environment) → Fine (test_lines ls state scope own)
unfolding test_lines
axiom_fine end state scope own = pure_good tt
axiom_fine (declaration n a xs ls) state scope own =
    bind_fine (names_fine n _ xs state own (λ v. test_fine a _ v scope (λ scope'. expr_fine a scope'))) (λ s. then_fine _ s (λ own'. axiom_fine ls state scope own'))
axiom_fine (inclusion i ls) state scope own = include_fine i

paragraph_fine : (p : Paragraph) (state : State) (scope : Environment) → Fine (run_paragraph p state scope)
unfolding run_paragraph
paragraph_fine (Tree.given n xs) state scope = pure_good tt
paragraph_fine (axiomatic n (text m p ls)) state scope =
    bind_fine (axiom_fine ls state scope scope) (λ s. then_fine _ s (λ own. bind_fine (pred_fine p own) (λ b. pure_good tt)))
paragraph_fine (schema n s ps x) state scope = pure_good tt
paragraph_fine (abbreviation n i [] a) state scope = bind_fine (expr_fine a scope) (λ v. pure_good tt)
paragraph_fine (abbreviation n i (p ∷ ps) a) state scope = pure_good tt
paragraph_fine (constraint n p) state scope = bind_fine (pred_fine p scope) (λ b. pure_good tt)

paragraphs_fine : (ps : List Paragraph) (state : State) (scope : Environment) → Fine (run_paragraphs ps state scope)
unfolding run_paragraphs
paragraphs_fine [] state scope = pure_good tt
paragraphs_fine (p ∷ ps) state scope = bind_fine (paragraph_fine p state scope) (λ s. then_fine _ s (λ scope'. paragraphs_fine ps state scope'))

pub document_fine : (d : Document) (state : State) → Fine (run_document d state)
unfolding run_document
document_fine (document n ps) state = paragraphs_fine ps state _

module _ (doc state : List ℕ) (work : ℕ) (read : read_of doc ≡ Readable) where
  ending_finds : run_work_words ≤ work → WellFormedState (document_names (tree_of doc)) state → {m : Outcome Step} → Fine m → RunFinds doc state work (ending m)
  unfolding ending
  ending_finds l w (finished {a = onward scope} t _) = holds read l w t
  ending_finds l w (finished {a = failed n} t _) = fails read l w t
  ending_finds l w (ceased t s) = troubled read l w t s

  state_finds : run_work_words ≤ work → (r : Finding) → state_of (document_names (tree_of doc)) state ≡ r → RunFinds doc state work (run_state r (tree_of doc) state)
  unfolding run_state
  state_finds l Readable e = ending_finds l ((state_well (document_names (tree_of doc)) state).0 e) (document_fine (tree_of doc) _)
  state_finds l (Err err) e =
      let h = (state_ill (document_names (tree_of doc)) state err.number err.place).0 e in
      subst (λ (x : ℕ). RunFinds doc state work (ran (Refused x err.place) [])) (sym h.0) (ill_formed read l h.1)

  work_finds : (b : Bool) → leb run_work_words work ≡ b → RunFinds doc state work (run_work b (tree_of doc) state)
  unfolding run_work
  work_finds true e = state_finds (leb-true run_work_words work e) _ refl
  work_finds false e = no_room read (leb-false run_work_words work e)

read_finds : (doc state : List ℕ) (work : ℕ) (r : Finding) → read_of doc ≡ r → RunFinds doc state work (run_read r doc state work)
unfolding run_read
read_finds doc state work Readable e = work_finds doc state work e (leb run_work_words work) refl
read_finds doc state work (Err err) e = unreadable e

pub run_finds : (doc state : List ℕ) (work : ℕ) → RunFinds doc state work (run_of doc state work)
unfolding run_of
run_finds doc state work = read_finds doc state work (read_of doc) refl
