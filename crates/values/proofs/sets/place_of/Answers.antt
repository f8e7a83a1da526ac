use Rattle.std.proofs.Common.{sym, ap, ◌∙◌, arith}
use native.Mathlib.Nat.{sub-zero}
use Rattle.values.specs.Span.{span}
use Rattle.values.specs.Sets.{place}
use Rattle.values.proofs.Members.{place_less, place_same, place_go, place_end}
use Rattle.values.proofs.sets.place_of.Goals as goal

pub loop-i-init : goal.loop-i-init
unfolding place
loop-i-init c = (omega arith, rw (sub-zero, c.word-n.ensures.0))

pub returns-in-Less : goal.returns-in-Less
returns-in-Less c =
    let s = c.args in
    place_less s.s.now s.m.now c.word-n.result c.loop-i._i c.loop-i.at (omega arith)
    (rw (← c.from-w.ensures, ← c.first.ensures) (sym c.in-Less.ensures)) ∙ sym c.loop-i.invariant.1

pub returns-in-Equal : goal.returns-in-Equal
returns-in-Equal c =
    let s = c.args in
    place_same s.s.now s.m.now c.word-n.result c.loop-i._i c.loop-i.at (omega arith)
    (rw (← c.from-w.ensures, ← c.first.ensures) (sym c.in-Equal.ensures)) ∙ sym c.loop-i.invariant.1

pub loop-i-preserved : goal.loop-i-preserved
loop-i-preserved c =
    let s = c.args in (
      omega arith,
      c.loop-i.invariant.1 ∙ place_go s.s.now s.m.now c.word-n.result c.loop-i._i c.loop-i.at (omega arith)
          (rw (← c.from-w.ensures, ← c.first.ensures) (sym c.in-Greater.ensures))
          c.span-at.result (c.span-at.ensures.0 ∙ ap span c.from-w.ensures),
    )

pub returns : goal.returns
returns c =
    let s = c.args in
    place_end s.s.now s.m.now c.word-n.result c.loop-i._i c.loop-i.at (omega arith) ∙ sym c.loop-i.invariant.1
