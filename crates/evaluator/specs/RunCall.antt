-- The contract of the run call: its finding, and a work area of zeros.
use Rattle.std.specs.Prelude.{◌≡◌, List, ℕ, length, replicate}
use Rattle.evaluator_rules.specs.Endings.{RunFinding}
use Rattle.evaluator_rules.specs.Run.{run_of}

pub record RunCall (doc state before after : List ℕ) (r : RunFinding) : Type 0 where
  pub finding : r ≡ (run_of doc state (length before)).finding
  pub cleared : after ≡ replicate (length before) 0
