use Rattle.reader_repeats.proofs.MarkLaws.{shares_on, shares_go}
use native.Mathlib.Omega.{arith}
use mathlib.Core.Path.{sym, ◌∙◌}
use Rattle.reader_repeats.proofs.marks.share.Goals as goal

pub returns-then-contains : goal.returns-then-contains
returns-then-contains c = shares_on c.args.ys.now c.loop-y.y-index c.args.xs.now (omega arith) (sym c.contains.ensures.value ∙ c.if-contains.true) ∙ sym c.loop-y.invariant

pub loop-y-preserved : goal.loop-y-preserved
loop-y-preserved c = c.loop-y.invariant ∙ shares_go c.args.ys.now c.loop-y.y-index c.args.xs.now (omega arith) (sym c.contains.ensures.value ∙ c.if-contains.false)
