-- Answers of the check, the fit and the run with other node numbers: f of each.
use Rattle.std.specs.Prelude.{List, [], ◌∷◌, cond, ℕ, ltb, Err}
use Rattle.checker_rules.specs.Check.{Answer, accepted, refused}
use Rattle.evaluator_rules.specs.Outcomes.{Event, worked}
use Rattle.evaluator_rules.specs.Run.{Ran, ran}
use Rattle.reader_rules.specs.Refusals.{Refused}
use Rattle.evaluator_rules.specs.Endings.{RunFinding, Holds, Fails}

module _ (f : ℕ → ℕ) where
  -- a dictionary has no node numbers; the place of a refusal is a node, or 0
  unfoldable pub map_answer : Answer → Answer
  map_answer (accepted D) = accepted D
  map_answer (refused e m) = refused e (f m)

  -- the fit's: below 41 the check's; the place of 41 and 42 is an entry of the state
  unfoldable pub map_fit : Answer → Answer
  map_fit (accepted D) = accepted D
  map_fit (refused e m) = refused e (cond (ltb e 41) (f m) m)

  -- the place of a failure and of 51 to 55 is a node; that of 21 is 0, that of 41 an entry of the state
  unfoldable pub map_finding : RunFinding → RunFinding
  map_finding Holds = Holds
  map_finding (Fails n) = Fails (f n)
  map_finding (Err err) = Refused err.number (cond (ltb err.number 51) err.place (f err.place))

  unfoldable pub map_events : List Event → List Event
  map_events [] = []
  map_events (worked n v ∷ t) = worked (f n) v ∷ map_events t

  -- the finding and the whole list
  abbrev pub map_run : Ran → Ran
  map_run r = ran (map_finding r.finding) (map_events r.list)
