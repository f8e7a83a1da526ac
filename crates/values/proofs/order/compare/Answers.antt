use Rattle.std.proofs.Common.{sym, ◌∙◌, arith}
use Rattle.values.proofs.Orders.{compare_end, compare_stop, compare_go}
use Rattle.values.proofs.order.compare.Goals as goal

pub returns-then-is_ne : goal.returns-then-is_ne
returns-then-is_ne c = compare_stop _ _ c.loop-i.i (omega arith) (omega arith) _ c.compare_word-o.ensures (sym c.is_ne.ensures ∙ c.if-is_ne.true) ∙ sym c.loop-i.invariant

pub loop-i-preserved : goal.loop-i-preserved
loop-i-preserved c = c.loop-i.invariant ∙ compare_go _ _ c.loop-i.i (omega arith) (omega arith) _ c.compare_word-o.ensures (sym c.is_ne.ensures ∙ c.if-is_ne.false)

pub returns : goal.returns
returns c = c.cmp.ensures ∙ compare_end _ _ c.loop-i.i (omega arith) (omega arith) (omega arith) ∙ sym c.loop-i.invariant
