use Rattle.std.proofs.lemmas.Result.{err_from_is_err_and}
use mathlib.Core.Path.{sym, ap, subst, ◌∙◌}
use Prim.Native.Nat.{ℕ}
use lib.ListN.{length, replicate}
use Rattle.checker_rules.specs.Areas.{CheckCall}
use Rattle.reader_rules.specs.Refusals.{Finding}
use Rattle.reader_rules.proofs.Scan.{refused_by, readable_by}
use Rattle.fitter.proofs.Findings.{accepted_readable, fit_accepted, fit_refused, fit_unchecked}
use Rattle.fitter.proofs.fit.Goals as goal

pub fit_state-fitted-requires : goal.fit_state-fitted-requires
fit_state-fitted-requires c =
    let checked = subst (λ (f : Finding). CheckCall c.args.doc.now (length c.args.dict.now) (length c.args.work.now) f c.check.new.dict c.check.new.work) c.in_ok-check.was c.check.ensures in
    accepted_readable checked c.check.auto.dict

pub returns-then-is_err : goal.returns-then-is_err
returns-then-is_err c =
    let checked = subst (λ (f : Finding). CheckCall c.args.doc.now (length c.args.dict.now) (length c.args.work.now) f c.check.new.dict c.check.new.work) c.in_ok-check.was c.check.ensures in
    let r = refused_by c.fit_state-fitted.result (sym c.is_err.ensures.value ∙ c.if-is_err.true) in
    rw r.1 (fit_refused checked c.check.auto.dict (λ E H. sym r.1 ∙ c.fit_state-fitted.ensures E H) (c.clear.ensures ∙ ap (λ (n : ℕ). replicate n 0) c.check.auto.dict))

pub returns-else-is_err : goal.returns-else-is_err
returns-else-is_err c =
    let checked = subst (λ (f : Finding). CheckCall c.args.doc.now (length c.args.dict.now) (length c.args.work.now) f c.check.new.dict c.check.new.work) c.in_ok-check.was c.check.ensures in
    let r = readable_by c.fit_state-fitted.result (sym c.is_err.ensures.value ∙ c.if-is_err.false) in
    rw r (fit_accepted checked c.check.auto.dict (λ E H. sym r ∙ c.fit_state-fitted.ensures E H))

pub returns-in_err-check : goal.returns-in_err-check
returns-in_err-check c =
    let checked = subst (λ (f : Finding). CheckCall c.args.doc.now (length c.args.dict.now) (length c.args.work.now) f c.check.new.dict c.check.new.work) c.in_err-check.was c.check.ensures in
    let p = err_from_is_err_and c.from_residual.result c.from_residual.ensures.1 in
    rw (p.1, p.2) (fit_unchecked checked)
