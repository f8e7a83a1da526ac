use mathlib.Core.Path.{◌≡◌}
use Prim.Native.Nat.{◌+◌}
use native.Mathlib.Omega.{arith}
use lib.ListN.{length}
use Rattle.layout.specs.Layout.{part}
use Rattle.states.proofs.NameLaws.{tail_length, tail_inside, tail_past, tail_operand, text_words, text_line, text_go, text_end}
use Rattle.states.proofs.names.text_count.Goals as goal

pub line_count-n-requires : goal.line_count-n-requires
line_count-n-requires c =
    let u = c.loop-line.invariant.0 in
    text_line c.args.doc.now c.args.t c.requires (2 + c.loop-line.line-index) (omega arith) (tail_inside _ _ _ _ u _ c.loop-line-test.true) _ (tail_operand _ _ _ _ u _)

pub loop-line-preserved : goal.loop-line-preserved
loop-line-preserved c =
    let u = c.loop-line.invariant.0 in
    let s : 2 + (c.loop-line.line-index + 1) ≡ 2 + c.loop-line.line-index + 1 = omega arith in
    let g = text_go c.args.doc.now c.args.t c.requires (2 + c.loop-line.line-index) (omega arith) (tail_inside _ _ _ _ u _ c.loop-line-test.true) _ c.line_count-n.result (tail_operand _ _ _ _ u _) c.line_count-n.ensures.0 in
    (u, omega (arith, c.loop-line.invariant.1, c.line_count-n.ensures.1), rw s (omega (arith, c.loop-line.invariant.2, g)))

pub returns : goal.returns
returns c =
    let p = tail_past _ _ _ _ c.loop-line.invariant.0 _ c.loop-line-test.false in
    let z = text_end c.args.doc.now c.args.t c.requires (2 + c.loop-line.line-index) (length (part c.args.doc.now c.args.t)) p in
    let l = tail_length c.args.doc.now c.args.t 2 c.from-lines.result.now c.loop-line.invariant.0 in
    (omega (arith, c.loop-line.invariant.2, z), omega (arith, l, c.loop-line.invariant.1, (text_words _ _ c.requires).1))
