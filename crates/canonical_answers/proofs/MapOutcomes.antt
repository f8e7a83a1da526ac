-- Outcomes of evaluation with other node numbers: f of each in the list and at a stop, h of what comes out.
use Rattle.std.specs.Prelude.{Err}
use Prim.Native.Nat.{ℕ}
use Rattle.evaluator_rules.specs.Outcomes.{Outcome, done, stopped}
use Rattle.evaluator_rules.specs.Paragraphs.{Step, onward, failed}
use Rattle.evaluator_rules.specs.Run.{Ran, ran}
use Rattle.reader_rules.specs.Refusals.{Refused}
use Rattle.evaluator_rules.specs.Endings.{RunFinding, Holds, Fails}
use Rattle.canonical_answers.specs.MapAnswers.{map_events}

module _ (f : ℕ → ℕ) where
  unfoldable pub map_outcome : {A : Type 0} → (A → A) → Outcome A → Outcome A
  map_outcome h (done t a) = done (map_events f t) (h a)
  map_outcome h (stopped t number node) = stopped (map_events f t) number (f node)

  unfoldable pub map_step : Step → Step
  map_step (onward scope) = onward scope
  map_step (failed n) = failed (f n)

  -- what the paragraphs find: every place is a node
  unfoldable pub map_found : RunFinding → RunFinding
  map_found Holds = Holds
  map_found (Fails n) = Fails (f n)
  map_found (Err err) = Refused err.number (f err.place)

  abbrev pub map_ran : Ran → Ran
  map_ran r = ran (map_found r.finding) (map_events f r.list)
