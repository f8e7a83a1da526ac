use mathlib.Core.Path.{◌≡◌, refl, sym, ap, ◌∙◌}
use mathlib.Core.List.{List}
use Prim.Native.Nat.{◌+◌, ◌-◌}
use native.Mathlib.Omega.{arith}
use lib.ListN.{length, get_or, drop}
use Rattle.layout.specs.Layout.{count, part}
use Rattle.states_rules.specs.Names.{nobody, Name}
use Rattle.states.proofs.NameLaws.{tail_inside, tail_past, tail_operand, document_names_lem, document_paragraph}
use Rattle.fitter_types.specs.Roles.{role_of}
use Rattle.fitter_types.proofs.NameWalk.{document_here, document_past, document_over}
use Rattle.fitter_types.proofs.names.name_of.Goals as goal

pub loop-paragraph-init : goal.loop-paragraph-init
loop-paragraph-init c =
    let d = c.args.doc.now in
    let u = c.from-paragraphs.ensures ∙ ap (drop 1) (c.part.ensures ∙ ap (part d) c.word.ensures.0) in
    (u, ap (λ (ns : List Name). get_or ns (c.args.k - 1) nobody) (document_names_lem d c.requires.0))

pub paragraph_count-n-requires : goal.paragraph_count-n-requires
paragraph_count-n-requires c =
    let u = c.loop-paragraph.invariant.0 in
    document_paragraph c.args.doc.now c.requires.0 (1 + c.loop-paragraph.paragraph-index) (omega arith) (tail_inside _ _ _ _ u _ c.loop-paragraph-test.true) _ (tail_operand _ _ _ _ u _)

pub name_in_paragraph-requires : goal.name_in_paragraph-requires
name_in_paragraph-requires c =
    let u = c.loop-paragraph.invariant.0 in
    (document_paragraph c.args.doc.now c.requires.0 (1 + c.loop-paragraph.paragraph-index) (omega arith) (tail_inside _ _ _ _ u _ c.loop-paragraph-test.true) _ (tail_operand _ _ _ _ u _), omega (arith, c.paragraph_count-n.ensures.0))

pub returns-then-at-n : goal.returns-then-at-n
returns-then-at-n c =
    let u = c.loop-paragraph.invariant.0 in
    c.name_in_paragraph.ensures
    ∙ ap role_of (sym (c.loop-paragraph.invariant.1 ∙ document_here c.args.doc.now c.requires.0 (1 + c.loop-paragraph.paragraph-index) (omega arith) (tail_inside _ _ _ _ u _ c.loop-paragraph-test.true) _ (tail_operand _ _ _ _ u _) c.paragraph_count-n.result c.paragraph_count-n.ensures.0 c.loop-paragraph.at c.if-at-n.true))

pub loop-paragraph-preserved : goal.loop-paragraph-preserved
loop-paragraph-preserved c =
    let u = c.loop-paragraph.invariant.0 in
    let s : 1 + (c.loop-paragraph.paragraph-index + 1) ≡ 1 + c.loop-paragraph.paragraph-index + 1 = omega arith in
    (u, rw s (c.loop-paragraph.invariant.1 ∙ document_past c.args.doc.now c.requires.0 (1 + c.loop-paragraph.paragraph-index) (omega arith) (tail_inside _ _ _ _ u _ c.loop-paragraph-test.true) _ (tail_operand _ _ _ _ u _) c.paragraph_count-n.result c.paragraph_count-n.ensures.0 c.loop-paragraph.at c.if-at-n.false))

pub returns : goal.returns
unfolding role_of
returns c =
    let d = c.args.doc.now in
    rw (c.loop-paragraph.invariant.1, document_over d c.requires.0 (1 + c.loop-paragraph.paragraph-index) (length (part d (count d))) c.loop-paragraph.at (tail_past d (count d) 1 _ c.loop-paragraph.invariant.0 _ c.loop-paragraph-test.false)) refl
