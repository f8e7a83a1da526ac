use mathlib.Core.Path.{sym, ◌∙◌}
use native.Mathlib.Omega.{arith}
use Rattle.checker_signatures.proofs.IncludeLaws.{stroked_on, stroked_go, stroked_end}
use Rattle.checker_signatures.proofs.includes.some_stroked.Goals as goal

pub returns-then-not-takes : goal.returns-then-not-takes
returns-then-not-takes c =
    let a = c.args in
    sym (c.loop-j.invariant ∙ stroked_on a.work.now a.base a.m a.k c.loop-j.j c.loop-j-test.true c.word.result c.word.ensures.0 (sym c.takes.ensures ∙ c.if-not-takes.true))

pub loop-j-preserved : goal.loop-j-preserved
loop-j-preserved c =
    let a = c.args in
    c.loop-j.invariant ∙ stroked_go a.work.now a.base a.m a.k c.loop-j.j c.loop-j-test.true c.word.result c.word.ensures.0 (sym c.takes.ensures ∙ c.if-not-takes.false)

pub returns : goal.returns
returns c =
    let a = c.args in
    sym (c.loop-j.invariant ∙ stroked_end a.work.now a.base a.m a.k c.loop-j.j (omega arith))
