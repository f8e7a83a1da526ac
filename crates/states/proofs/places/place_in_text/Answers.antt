use mathlib.Core.Path.{◌≡◌, sym, ◌∙◌}
use Prim.Native.Nat.{◌+◌}
use native.Mathlib.Omega.{arith}
use lib.ListN.{length}
use Rattle.layout.specs.Layout.{part}
use Rattle.states.proofs.PlaceLaws.{text_hit, text_miss, text_none}
use Rattle.states.proofs.NameLaws.{tail_inside, tail_past, tail_operand, text_words, text_line}
use Rattle.states.proofs.places.place_in_text.Goals as goal

pub place_in_line-r-requires : goal.place_in_line-r-requires
place_in_line-r-requires c =
    let u = c.loop-line.invariant.0 in
    let q = tail_inside c.args.doc.now c.args.t 2 c.from-lines.result.now u _ c.loop-line-test.true in
    (text_line c.args.doc.now c.args.t c.requires.0 (2 + c.loop-line.line-index) (omega arith) q _ (tail_operand _ _ _ _ u _), omega (arith, c.requires.2, q, c.loop-line.invariant.2, (text_words _ _ c.requires.0).1))

pub returns-then-r-ne0 : goal.returns-then-r-ne0
returns-then-r-ne0 c =
    let u = c.loop-line.invariant.0 in
    text_hit c.args.doc.now c.args.t c.requires.0 (2 + c.loop-line.line-index) (omega arith) (tail_inside _ _ _ _ u _ c.loop-line-test.true) _ (tail_operand _ _ _ _ u _) c.args.name c.loop-line.at c.loop-line.invariant.1 c.place_in_line-r.result c.place_in_line-r.ensures c.if-r-ne0.true ∙ sym c.loop-line.invariant.3

pub line_count-at-requires : goal.line_count-at-requires
line_count-at-requires c =
    let u = c.loop-line.invariant.0 in
    text_line c.args.doc.now c.args.t c.requires.0 (2 + c.loop-line.line-index) (omega arith) (tail_inside _ _ _ _ u _ c.loop-line-test.true) _ (tail_operand _ _ _ _ u _)

pub overflow_add-at : goal.overflow_add-at
overflow_add-at c =
    let q = tail_inside c.args.doc.now c.args.t 2 c.from-lines.result.now c.loop-line.invariant.0 _ c.loop-line-test.true in
    omega (arith, q, c.requires.2, c.loop-line.invariant.2, (text_words _ _ c.requires.0).1, c.line_count-at.ensures.1)

pub loop-line-preserved : goal.loop-line-preserved
loop-line-preserved c =
    let u = c.loop-line.invariant.0 in
    let s : 2 + (c.loop-line.line-index + 1) ≡ 2 + c.loop-line.line-index + 1 = omega arith in
    (u, omega (arith, c.loop-line.invariant.1), omega (arith, c.loop-line.invariant.2, c.line_count-at.ensures.1), rw s (c.loop-line.invariant.3 ∙ text_miss c.args.doc.now c.args.t c.requires.0 (2 + c.loop-line.line-index) (omega arith) (tail_inside _ _ _ _ u _ c.loop-line-test.true) _ (tail_operand _ _ _ _ u _) c.args.name c.loop-line.at c.loop-line.invariant.1 (sym c.place_in_line-r.ensures ∙ c.if-r-ne0.false) c.line_count-at.result c.line_count-at.ensures.0))

pub returns : goal.returns
returns c = sym (c.loop-line.invariant.3 ∙ text_none c.args.doc.now c.args.t (2 + c.loop-line.line-index) (length (part c.args.doc.now c.args.t)) c.args.name c.loop-line.at (tail_past _ _ _ _ c.loop-line.invariant.0 _ c.loop-line-test.false))
