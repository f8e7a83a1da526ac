-- What the program finds of a document and a state: the fit call's refusal, else the run's finding.
use Rattle.checker_rules.specs.Check.{Answer, accepted, refused}
use Rattle.evaluator_rules.specs.Run.{Ran}
use Rattle.reader_rules.specs.Refusals.{Refused}
use Rattle.evaluator_rules.specs.Endings.{RunFinding}

unfoldable pub judge_of : Answer → Ran → RunFinding
judge_of (accepted E) r = r.finding
judge_of (refused number place) r = Refused number place
