use Rattle.reader_repeats.proofs.MarkLaws.{distinct_off, distinct_go}
use native.Mathlib.Omega.{arith}
use mathlib.Core.Path.{sym, ◌∙◌}
use Rattle.reader_repeats.proofs.marks.are_distinct.Goals as goal

pub returns-then-contains : goal.returns-then-contains
returns-then-contains c = distinct_off c.args.xs.now c.loop-i.i (omega arith) (sym c.contains.ensures.value ∙ c.if-contains.true) ∙ sym c.loop-i.invariant

pub loop-i-preserved : goal.loop-i-preserved
loop-i-preserved c = c.loop-i.invariant ∙ distinct_go c.args.xs.now c.loop-i.i (omega arith) (sym c.contains.ensures.value ∙ c.if-contains.false)
