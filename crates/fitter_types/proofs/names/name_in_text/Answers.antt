use mathlib.Core.Path.{◌≡◌, sym, ◌∙◌}
use Prim.Native.Nat.{◌+◌}
use native.Mathlib.Omega.{arith}
use lib.ListN.{length}
use Rattle.layout.specs.Layout.{part}
use Rattle.states.proofs.NameLaws.{tail_inside, tail_past, tail_operand, text_line}
use Rattle.fitter_types.proofs.NameWalk.{text_here, text_past, text_over}
use Rattle.fitter_types.proofs.names.name_in_text.Goals as goal

pub line_count-n-requires : goal.line_count-n-requires
line_count-n-requires c =
    let u = c.loop-line.invariant.0 in
    text_line c.args.doc.now c.args.t c.requires (2 + c.loop-line.line-index) (omega arith) (tail_inside _ _ _ _ u _ c.loop-line-test.true) _ (tail_operand _ _ _ _ u _)

pub returns-then-at-n : goal.returns-then-at-n
returns-then-at-n c =
    let u = c.loop-line.invariant.0 in
    c.operand.ensures.0
    ∙ text_here c.args.doc.now c.args.t c.requires (2 + c.loop-line.line-index) (omega arith) (tail_inside _ _ _ _ u _ c.loop-line-test.true) _ (tail_operand _ _ _ _ u _) c.line_count-n.result c.line_count-n.ensures.0 c.loop-line.at c.if-at-n.true
    ∙ sym c.loop-line.invariant.1

pub loop-line-preserved : goal.loop-line-preserved
loop-line-preserved c =
    let u = c.loop-line.invariant.0 in
    let s : 2 + (c.loop-line.line-index + 1) ≡ 2 + c.loop-line.line-index + 1 = omega arith in
    (u, rw s (c.loop-line.invariant.1 ∙ text_past c.args.doc.now c.args.t c.requires (2 + c.loop-line.line-index) (omega arith) (tail_inside _ _ _ _ u _ c.loop-line-test.true) _ (tail_operand _ _ _ _ u _) c.line_count-n.result c.line_count-n.ensures.0 c.loop-line.at c.if-at-n.false))

pub returns : goal.returns
returns c = sym (c.loop-line.invariant.1 ∙ text_over c.args.doc.now c.args.t (2 + c.loop-line.line-index) (length (part c.args.doc.now c.args.t)) c.loop-line.at (tail_past _ _ _ _ c.loop-line.invariant.0 _ c.loop-line-test.false))
