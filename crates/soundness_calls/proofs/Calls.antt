-- Demand 3 over the calls, from demand 3 on the definitions.
use mathlib.Core.Path.{◌≡◌, refl, sym, subst, ◌∙◌}
use mathlib.Core.List.{List}
use Prim.Native.Nat.{ℕ}
use native.Mathlib.Omega.{arith}
use lib.ListN.{length}
use Rattle.checker_rules.specs.Dictionary.{Dictionary}
use Rattle.checker_rules.specs.Check.{Answer, accepted, refused, check_of}
use Rattle.checker_rules.specs.Areas.{answer_finding}
use Rattle.reader_rules.specs.Refusals.{Accepted}
use Rattle.evaluator_rules.specs.Endings.{RunFinding}
use Rattle.fitter_rules.specs.Fit.{fit_of}
use Rattle.evaluator_rules.specs.Run.{ran, run_of}
use Rattle.evaluator_rules.specs.ListingRun.{Lists}
use Rattle.evaluator_rules.proofs.WholeList.{run_lists}
use Rattle.evaluator.specs.RunCall.{RunCall}
use Rattle.soundness.specs.Demand.{Sound}
use Rattle.soundness.proofs.Demand.{demand_three, fit_sound}
use Rattle.soundness_calls.specs.Calls.{SoundCall, FittedRuns, CheckedRuns}

-- the finding Accepted is that of an accepting answer
record Accepting (a : Answer) : Type 0 where
  dictionary : Dictionary
  answer : a ≡ accepted dictionary

accepting : (a : Answer) → Accepted ≡ answer_finding a → Accepting a
unfolding answer_finding
accepting (accepted E) e = record { dictionary = E; answer = refl }
accepting (refused n p) e = let z : ◌≡◌ {A = ℕ} 0 1 = cc in absurd (omega arith)

call_sound : {doc state before after : List ℕ} {r : RunFinding} → RunCall doc state before after r → Sound doc (run_of doc state (length before)) → SoundCall doc state before r
call_sound {doc} {state} {before} c s = record {
  no_misfit = λ node e. s.no_misfit node (sym c.finding ∙ e);
  list = (run_of doc state (length before)).list;
  given = subst (λ (f : RunFinding). Lists doc state (length before) (ran f (run_of doc state (length before)).list)) (sym c.finding) (run_lists doc state (length before));
  listed = s.listed;
}

pub fitted_runs : FittedRuns
fitted_runs = record {
  sound = λ doc state dict work before after d w r f c.
      let a = accepting (fit_of doc state d w) f.finding in
      call_sound c (fit_sound doc state d w (length before) a.dictionary a.answer);
}

pub checked_runs : CheckedRuns
checked_runs = record {
  sound = λ doc state dict work before after d w r f t c.
      let a = accepting (check_of doc d w) f.finding in
      call_sound c (demand_three doc state d w (length before) a.dictionary a.answer (t.fits a.dictionary a.answer));
}
