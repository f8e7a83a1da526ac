-- Demand 3 over the calls. FitCall, CheckCall and RunCall are what the calls promise (crates fitter_rules, checker_rules and evaluator).
use Rattle.std.specs.Prelude.{◌≡◌, List, ℕ, length}
use Rattle.reader_rules.specs.Decode.{tree_of}
use Rattle.checker_rules.specs.Dictionary.{Dictionary}
use Rattle.checker_rules.specs.Check.{accepted, paragraphs_of, check_of}
use Rattle.checker_rules.specs.Areas.{CheckCall}
use Rattle.reader_rules.specs.Refusals.{Accepted, Refused}
use Rattle.evaluator_rules.specs.Endings.{RunFinding}
use Rattle.states_rules.specs.Names.{document_names}
use Rattle.fitter_rules.specs.Recorded.{StateFits}
use Rattle.fitter_rules.specs.Areas.{FitCall}
use Rattle.evaluator_rules.specs.Claims.{Listed}
use Rattle.evaluator_rules.specs.Outcomes.{Event}
use Rattle.evaluator_rules.specs.Run.{ran}
use Rattle.evaluator_rules.specs.ListingRun.{Lists}
use Rattle.evaluator.specs.RunCall.{RunCall}
use Rattle.soundness.specs.Demand.{OfItsType}

-- A run call with the finding r, in a work area that held `before`: r is not 51 at any node; the evaluation rules give r with a list (`Lists`, which gives
-- one finding and one list only), and every entry of this list has its node's accepted type.
pub record SoundCall (doc state before : List ℕ) (r : RunFinding) : Type 0 where
  pub no_misfit : (node : ℕ) → r ≡ Refused 51 node → ⊥
  pub list : List Event
  pub given : Lists doc state (length before) (ran r list)
  pub listed : Listed (OfItsType (paragraphs_of (tree_of doc))) list

-- each value of the state is of the type that the accepted dictionary records for its name
pub record OfRecordedTypes (doc state : List ℕ) (d w : ℕ) : Type 0 where
  pub fits : (E : Dictionary) → check_of doc d w ≡ accepted E → StateFits E (document_names (tree_of doc)) state

-- what the fit call accepts, every run call of that document and state is sound on
pub record FittedRuns : Type 0 where
  pub sound : (doc state dict work before after : List ℕ) (d w : ℕ) (r : RunFinding) → FitCall doc state d w Accepted dict work → RunCall doc state before after r
      → SoundCall doc state before r

-- the same after the check call, for a state whose values are of their recorded types; that it is well formed is no premise, since else the run is 41
pub record CheckedRuns : Type 0 where
  pub sound : (doc state dict work before after : List ℕ) (d w : ℕ) (r : RunFinding) → CheckCall doc d w Accepted dict work → OfRecordedTypes doc state d w
      → RunCall doc state before after r → SoundCall doc state before r
