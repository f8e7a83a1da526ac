-- Demand 3 over the list that the rules give: the run's list is that one.
use mathlib.Core.Path.{sym}
use mathlib.Core.List.{List}
use Prim.Native.Nat.{ℕ}
use Rattle.evaluator_rules.specs.Run.{run_of}
use Rattle.evaluator_rules.proofs.WholeList.{run_lists, lists_run}
use Rattle.soundness.specs.Demand.{Sound}
use Rattle.soundness.specs.DemandList.{SoundRun, SoundRuns}
use Rattle.soundness.proofs.Demand.{demand_three, fit_sound}

sound_run : (doc state : List ℕ) (work : ℕ) → Sound doc (run_of doc state work) → SoundRun doc state work
sound_run doc state work s =
    record { run = run_of doc state work; given = run_lists doc state work; only = λ r h. sym (lists_run doc state work r h); sound = s }

pub sound_runs : SoundRuns
sound_runs = record {
  checked = λ doc state d w work E e f. sound_run doc state work (demand_three doc state d w work E e f);
  fitted = λ doc state d w work E e. sound_run doc state work (fit_sound doc state d w work E e);
}
