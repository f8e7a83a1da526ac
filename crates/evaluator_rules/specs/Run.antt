-- The run call: reading's findings, then 21, then 41, then the paragraphs (document 01, "Finding numbers"; R8: in the run there is no 22).
use Rattle.std.specs.Prelude.{List, [], Bool, true, false, ℕ, leb, Err}
use Rattle.reader_rules.specs.Tree.{Document}
use Rattle.reader_rules.specs.Reading.{read_of}
use Rattle.reader_rules.specs.Decode.{tree_of}
use Rattle.reader_rules.specs.Refusals.{Finding, Readable, Refused}
use Rattle.evaluator_rules.specs.Endings.{RunFinding, Holds, Fails}
use Rattle.evaluator_rules.specs.Outcomes.{Event, Outcome, done, stopped}
use Rattle.states_rules.specs.Names.{document_names}
use Rattle.states_rules.specs.States.{state_of, value_in}
use Rattle.evaluator_rules.specs.Paragraphs.{Step, onward, failed, run_document}

-- the finding, and beside it the list: node and value of each expression, each time it is worked out
pub record Ran : Type 0 where
  pub finding : RunFinding
  pub list : List Event

abbrev pub ran : RunFinding → List Event → Ran
ran f t = record { finding = f; list = t }

-- else the run holds
unfoldable pub ending : Outcome Step → Ran
ending (done t (onward scope)) = ran Holds t
ending (done t (failed n)) = ran (Fails n) t
ending (stopped t number node) = ran (Refused number node) t

unfoldable pub run_state : Finding → Document → List ℕ → Ran
run_state Readable tree state = ending (run_document tree (value_in (document_names tree) state))
run_state (Err err) tree state = ran (Refused err.number err.place) []

-- the words of a run's work area, at least
abbrev pub run_work_words : ℕ
run_work_words = 16384

-- 21: a work area under 16,384 words
unfoldable pub run_work : Bool → Document → List ℕ → Ran
run_work true tree state = run_state (state_of (document_names tree) state) tree state
run_work false tree state = ran (Refused 21 0) []

unfoldable pub run_read : Finding → List ℕ → List ℕ → ℕ → Ran
run_read Readable doc state work = run_work (leb run_work_words work) (tree_of doc) state
run_read (Err err) doc state work = ran (Refused err.number err.place) []

unfoldable pub run_of : List ℕ → List ℕ → ℕ → Ran
run_of doc state work = run_read (read_of doc) doc state work
