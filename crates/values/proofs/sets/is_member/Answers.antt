use Rattle.std.proofs.Common.{sym, ap, ◌∙◌, arith}
use native.Mathlib.Nat.{sub-zero}
use Rattle.values.specs.Span.{span}
use Rattle.values.specs.Sets.{is_member}
use Rattle.values.proofs.Members.{among_hit, among_go, among_end}
use Rattle.values.proofs.sets.is_member.Goals as goal

pub loop-i-init : goal.loop-i-init
unfolding is_member
loop-i-init c = (omega arith, rw (sub-zero, c.word-n.ensures.0))

pub returns-then-same : goal.returns-then-same
returns-then-same c =
    let s = c.args in
    among_hit s.s.now s.m.now c.word-n.result c.loop-i._i c.loop-i.at (omega arith)
    (rw (← c.from-w.ensures, ← c.first.ensures) (sym c.same.ensures ∙ c.if-same.true)) ∙ sym c.loop-i.invariant.1

pub loop-i-preserved : goal.loop-i-preserved
loop-i-preserved c =
    let s = c.args in (
      omega arith,
      c.loop-i.invariant.1 ∙ among_go s.s.now s.m.now c.word-n.result c.loop-i._i c.loop-i.at (omega arith)
          (rw (← c.from-w.ensures, ← c.first.ensures) (sym c.same.ensures ∙ c.if-same.false))
          c.span-at.result (c.span-at.ensures.0 ∙ ap span c.from-w.ensures),
    )

pub returns : goal.returns
returns c =
    let s = c.args in
    among_end s.s.now s.m.now c.word-n.result c.loop-i._i c.loop-i.at (omega arith) ∙ sym c.loop-i.invariant.1
