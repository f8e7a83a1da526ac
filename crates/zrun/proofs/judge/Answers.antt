use Rattle.std.proofs.lemmas.Result.{err_from_is_err_and}
use mathlib.Core.Path.{sym, ap, ◌∙◌}
use Prim.Native.Nat.{ℕ}
use lib.ListN.{length}
use Rattle.fitter_rules.specs.Fit.{fit_of}
use Rattle.evaluator_rules.specs.Run.{run_of}
use Rattle.zrun.proofs.Judging.{run_counts, refusal_counts}
use Rattle.zrun.proofs.judge.Goals as goal

pub returns : goal.returns
returns c =
    let d = c.args.doc.now in
    let st = c.args.state.now in
    let w = length c.args.work.now in
    c.run.ensures.finding ∙ ap (λ (n : ℕ). (run_of d st n).finding) c.fit.auto.work
    ∙ run_counts (fit_of d st (length c.args.dict.now) w) (run_of d st w) (sym c.in_ok-fit.was ∙ c.fit.ensures.finding)

pub returns-in_err-fit : goal.returns-in_err-fit
returns-in_err-fit c =
    let d = c.args.doc.now in
    let st = c.args.state.now in
    let w = length c.args.work.now in
    let p = err_from_is_err_and c.from_residual.result c.from_residual.ensures.1 in
    rw (p.1, p.2) (refusal_counts (fit_of d st (length c.args.dict.now) w) (run_of d st w) _ _ (sym c.in_err-fit.was ∙ c.fit.ensures.finding))
