use mathlib.Core.Path.{◌≡◌, sym, ap, ◌∙◌}
use mathlib.Core.List.{List}
use Prim.Native.Nat.{◌+◌}
use native.Mathlib.Omega.{arith}
use lib.ListN.{length, drop}
use Rattle.layout.specs.Layout.{count, part}
use Rattle.states_rules.specs.States.{entry_from}
use Rattle.states_rules.specs.Names.{Name}
use Rattle.states.proofs.PlaceLaws.{document_hit, document_miss, document_none}
use Rattle.states.proofs.NameLaws.{tail_inside, tail_past, tail_operand, document_words_lem, document_names_lem, document_paragraph}
use Rattle.states.proofs.places.place_of.Goals as goal

pub loop-paragraph-init : goal.loop-paragraph-init
loop-paragraph-init c =
    let d = c.args.doc.now in
    let u = c.from-paragraphs.ensures ∙ ap (drop 1) (c.part.ensures ∙ ap (part d) c.word.ensures.0) in
    (u, omega arith, omega arith, ap (λ (ns : List Name). entry_from ns c.args.name 1) (document_names_lem d c.requires))

pub place_in_paragraph-r-requires : goal.place_in_paragraph-r-requires
place_in_paragraph-r-requires c =
    let d = c.args.doc.now in
    let u = c.loop-paragraph.invariant.0 in
    let q = tail_inside c.args.doc.now (count c.args.doc.now) 1 c.from-paragraphs.result.now u _ c.loop-paragraph-test.true in
    (document_paragraph d c.requires (1 + c.loop-paragraph.paragraph-index) (omega arith) q _ (tail_operand _ _ _ _ u _), c.loop-paragraph.invariant.1, omega (arith, q, c.loop-paragraph.invariant.2, (document_words_lem d c.requires).1))

pub returns-then-r-ne0 : goal.returns-then-r-ne0
returns-then-r-ne0 c =
    let u = c.loop-paragraph.invariant.0 in
    document_hit c.args.doc.now c.requires (1 + c.loop-paragraph.paragraph-index) (omega arith) (tail_inside _ _ _ _ u _ c.loop-paragraph-test.true) _ (tail_operand _ _ _ _ u _) c.args.name c.loop-paragraph.at c.loop-paragraph.invariant.1 c.place_in_paragraph-r.result c.place_in_paragraph-r.ensures c.if-r-ne0.true ∙ sym c.loop-paragraph.invariant.3

pub paragraph_count-at-requires : goal.paragraph_count-at-requires
paragraph_count-at-requires c =
    let u = c.loop-paragraph.invariant.0 in
    document_paragraph c.args.doc.now c.requires (1 + c.loop-paragraph.paragraph-index) (omega arith) (tail_inside _ _ _ _ u _ c.loop-paragraph-test.true) _ (tail_operand _ _ _ _ u _)

pub overflow_add-at : goal.overflow_add-at
overflow_add-at c =
    let q = tail_inside c.args.doc.now (count c.args.doc.now) 1 c.from-paragraphs.result.now c.loop-paragraph.invariant.0 _ c.loop-paragraph-test.true in
    omega (arith, q, c.loop-paragraph.invariant.2, (document_words_lem c.args.doc.now c.requires).1, c.paragraph_count-at.ensures.1)

pub loop-paragraph-preserved : goal.loop-paragraph-preserved
loop-paragraph-preserved c =
    let d = c.args.doc.now in
    let u = c.loop-paragraph.invariant.0 in
    let s : 1 + (c.loop-paragraph.paragraph-index + 1) ≡ 1 + c.loop-paragraph.paragraph-index + 1 = omega arith in (
      u,
      omega (arith, c.loop-paragraph.invariant.1),
      omega (arith, c.loop-paragraph.invariant.2, c.paragraph_count-at.ensures.1),
      rw s (c.loop-paragraph.invariant.3 ∙ document_miss d c.requires (1 + c.loop-paragraph.paragraph-index) (omega arith) (tail_inside _ _ _ _ u _ c.loop-paragraph-test.true) _ (tail_operand _ _ _ _ u _) c.args.name c.loop-paragraph.at c.loop-paragraph.invariant.1 (sym c.place_in_paragraph-r.ensures ∙ c.if-r-ne0.false) c.paragraph_count-at.result c.paragraph_count-at.ensures.0),
    )

pub returns : goal.returns
returns c =
    let d = c.args.doc.now in
    sym (c.loop-paragraph.invariant.3 ∙ document_none d c.requires (1 + c.loop-paragraph.paragraph-index) (length (part d (count d))) c.args.name c.loop-paragraph.at (tail_past _ _ _ _ c.loop-paragraph.invariant.0 _ c.loop-paragraph-test.false))
