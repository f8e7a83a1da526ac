-- Demand 3 over the list that the sentences of the evaluation rules give (`Lists` of evaluation), which say it apart from the evaluating functions.
use Rattle.std.specs.Prelude.{◌≡◌, List, ℕ}
use Rattle.reader_rules.specs.Decode.{tree_of}
use Rattle.checker_rules.specs.Dictionary.{Dictionary}
use Rattle.checker_rules.specs.Check.{accepted, check_of}
use Rattle.states_rules.specs.Names.{document_names}
use Rattle.evaluator_rules.specs.Run.{Ran}
use Rattle.evaluator_rules.specs.ListingRun.{Lists}
use Rattle.fitter_rules.specs.Recorded.{StateFits}
use Rattle.fitter_rules.specs.Fit.{fit_of}
use Rattle.soundness.specs.Demand.{Sound}

-- The rules give a finding and a list, and no other; the finding is not 51 at any node, and every entry of the list has its node's type.
pub record SoundRun (doc state : List ℕ) (work : ℕ) : Type 0 where
  pub run : Ran
  pub given : Lists doc state work run
  pub only : (r : Ran) → Lists doc state work r → r ≡ run
  pub sound : Sound doc run

-- after the check, for a state whose values are of their recorded types; and after the fit
pub record SoundRuns : Type 0 where
  pub checked : (doc state : List ℕ) (d w work : ℕ) (E : Dictionary) → check_of doc d w ≡ accepted E → StateFits E (document_names (tree_of doc)) state → SoundRun doc state work
  pub fitted : (doc state : List ℕ) (d w work : ℕ) (E : Dictionary) → fit_of doc state d w ≡ accepted E → SoundRun doc state work
