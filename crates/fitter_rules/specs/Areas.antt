-- What the fit call leaves: its finding, and what each area holds; after a refusal both areas are zero.
use Rattle.std.specs.Prelude.{◌≡◌, List, ℕ}
use Rattle.checker_rules.specs.Areas.{answer_finding, dictionary_after, work_after}
use Rattle.reader_rules.specs.Refusals.{Finding}
use Rattle.fitter_rules.specs.Fit.{fit_of}

pub record FitCall (doc state : List ℕ) (d w : ℕ) (result : Finding) (dictionary work : List ℕ) : Type 0 where
  pub finding : result ≡ answer_finding (fit_of doc state d w)
  pub recorded : dictionary ≡ dictionary_after (fit_of doc state d w) d
  pub cleared : work ≡ work_after w
