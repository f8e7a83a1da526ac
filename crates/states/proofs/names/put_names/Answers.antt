use mathlib.Core.Path.{◌≡◌, refl, sym, ap, ◌∙◌}
use mathlib.Core.List.{List}
use Prim.Native.Nat.{◌+◌}
use native.Mathlib.Omega.{arith}
use lib.ListN.{length, drop}
use Rattle.layout.specs.Layout.{count, part}
use Rattle.states.specs.Table.{put_names}
use Rattle.states_rules.specs.Names.{Name}
use Rattle.states.proofs.NameLaws.{tail_inside, tail_past, tail_operand, document_words_lem, document_names_lem, document_paragraph, document_count, document_put, document_end}
use Rattle.states.proofs.names.put_names.Goals as goal

pub loop-p-init : goal.loop-p-init
loop-p-init c =
    let d = c.args.doc.now in
    let u = c.from-paragraphs.ensures ∙ ap (drop 1) (c.part.ensures ∙ ap (part d) c.word.ensures.0) in
    (u, omega arith, refl, omega (arith, ap length (document_names_lem d c.requires)), ap (λ (ns : List Name). put_names ns c.args.state.now 1 c.args.table.now) (document_names_lem d c.requires))

pub put_paragraph-n-requires : goal.put_paragraph-n-requires
put_paragraph-n-requires c =
    let d = c.args.doc.now in
    let u = c.loop-p.invariant.0 in
    let q = tail_inside _ _ _ _ u _ c.loop-p-test.true in
    (document_paragraph d c.requires (1 + c.loop-p.p-index) (omega arith) q _ (tail_operand _ _ _ _ u _), omega (arith, q, c.loop-p.invariant.1, (document_words_lem d c.requires).1))

pub loop-p-preserved : goal.loop-p-preserved
loop-p-preserved c =
    let d = c.args.doc.now in
    let u = c.loop-p.invariant.0 in
    let x = tail_operand d (count d) 1 c.from-paragraphs.result.now u c.loop-p.p-index in
    let i = 1 + c.loop-p.p-index in
    let q = tail_inside d (count d) 1 c.from-paragraphs.result.now u c.loop-p.p-index c.loop-p-test.true in
    let s : 1 + (c.loop-p.p-index + 1) ≡ 1 + c.loop-p.p-index + 1 = omega arith in (
      u,
      omega (arith, c.loop-p.invariant.1, c.put_paragraph-n.ensures.2),
      c.put_paragraph-n.auto.table ∙ c.loop-p.invariant.2,
      rw s (omega (arith, c.loop-p.invariant.3, c.put_paragraph-n.ensures.0, document_count d c.requires i (omega arith) q _ x)),
      rw s (c.loop-p.invariant.4 ∙ document_put d c.requires i (omega arith) q _ x c.args.state.now c.loop-p.n c.put_paragraph-n.result c.loop-p.table c.put_paragraph-n.ensures.0 ∙ rw (← c.put_paragraph-n.ensures.1)),
    )

pub returns : goal.returns
unfolding put_names
returns c =
    let d = c.args.doc.now in
    let z = document_end d c.requires (1 + c.loop-p.p-index) (length (part d (count d))) (tail_past _ _ _ _ c.loop-p.invariant.0 _ c.loop-p-test.false) in
    (omega (arith, c.loop-p.invariant.3, ap length z), sym (c.loop-p.invariant.4 ∙ ap (λ (ns : List Name). put_names ns c.args.state.now (c.loop-p.n + 1) c.loop-p.table) z))
