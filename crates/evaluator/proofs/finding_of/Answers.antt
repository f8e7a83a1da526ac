use Rattle.std.proofs.Common.{◌≡◌}
use Rattle.evaluator_paragraphs.specs.declared.Progress.TheVariants.{Onward, Failed}
use Rattle.evaluator.proofs.RunLaws.{refused_finding, holds_finding, fails_finding}
use Rattle.evaluator.proofs.finding_of.Goals as goal

pub returns-in-Ok-Onward : goal.returns-in-Ok-Onward
returns-in-Ok-Onward c =
    λ o t.
    let a = c.in-Ok-Onward in
    let e : a.field-0 ≡ Onward = rw a.is at a.field-0-is in
    holds_finding (rw e at (rw a.is at t))

pub returns-in-Ok-Failed : goal.returns-in-Ok-Failed
returns-in-Ok-Failed c =
    λ o t.
    let a = c.in-Ok-Failed in
    let e : a.field-0 ≡ Failed a.node = rw a.is at a.field-0-is in
    fails_finding (rw e at (rw a.is at t))

pub returns-in-Err : goal.returns-in-Err
returns-in-Err c = λ o t. refused_finding (rw c.in-Err.is at t)
