use Rattle.std.proofs.Common.{sym, ◌∙◌, zero-add, arith}
use Rattle.values.specs.Span.{span}
use Rattle.values.proofs.Spans.{spans_go, spans_end, spans_stop}
use Rattle.values.proofs.span.span.Goals as goal

pub loop-i-init : goal.loop-i-init
unfolding span
loop-i-init c = (omega arith, omega arith, sym (zero-add _))

pub returns-then-left-eq0 : goal.returns-then-left-eq0
returns-then-left-eq0 c =
    let s = c.args in
    (sym (c.loop-i.invariant.2 ∙ spans_stop s.w.now c.loop-i.at c.loop-i.left c.loop-i._i (omega arith)), omega arith)

pub loop-i-preserved : goal.loop-i-preserved
loop-i-preserved c =
    let s = c.args in
    (omega arith, omega arith, c.loop-i.invariant.2 ∙ spans_go s.w.now c.loop-i.at c.loop-i.left c.loop-i._i (omega arith) (omega arith) _ _ c.head-h.ensures.0 c.parts.ensures.0)

pub returns : goal.returns
returns c =
    let s = c.args in
    (sym (c.loop-i.invariant.2 ∙ spans_end s.w.now c.loop-i.at c.loop-i.left c.loop-i._i (omega arith)), omega arith)
