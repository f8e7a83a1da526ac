use Prim.Native.Nat.{ℕ}
use lib.ListN.{get_or}
use Rattle.reader_rules.specs.Nodes.{operand_at}
use Rattle.evaluator_scope.specs.Named.{said}
use Rattle.reader_rules.proofs.TreeParagraph.{paragraph_constraint}
use Rattle.evaluator_paragraphs.proofs.StepLaws.{abbreviation_globals, constraint_steps, schema_steps, schema_kind}
use mathlib.Core.Path.{refl, sym, ap, ◌∙◌}
use mathlib.Core.List.{List}
use native.Mathlib.Omega.{arith}
use Rattle.evaluator_paragraphs.proofs.paragraph.Goals as goal

pub abbreviation-requires : goal.abbreviation-requires
abbreviation-requires c =
    let d = c.args.doc.now in
    let st = c.args.state.now in
    let k = c.args.k in
    let q = ((sym (c.word-q.ensures.0 ∙ ap (λ (y : List ℕ). get_or y 0 0) c.part-w.ensures)) ∙ c.in-5.is) in
    let r = c.requires.2 in
    let f = r.few in
    (c.requires.1, q, record { few = omega (arith, f, abbreviation_globals d k c.requires.1 (said d st) st st st 0 q); wide = r.wide }, c.part-w.ensures)

pub demand-requires : goal.demand-requires
demand-requires c =
    let d = c.args.doc.now in
    let st = c.args.state.now in
    let k = c.args.k in
    let q = ((sym (c.word-q.ensures.0 ∙ ap (λ (y : List ℕ). get_or y 0 0) c.part-w.ensures)) ∙ c.in-6.is) in
    let r = c.requires.2 in
    let f = r.few in
    let o = (paragraph_constraint d k c.requires.1 q (operand_at d k 1) refl).first in
    (rw (c.word.ensures.0, c.part-w.ensures) (record { at = o.at; room = omega arith; wide = r.wide }), c.requires.1.small)

pub returns-in-5 : goal.returns-in-5
returns-in-5 c =
    let d = c.args.doc.now in
    let st = c.args.state.now in
    let k = c.args.k in
    let q = ((sym (c.word-q.ensures.0 ∙ ap (λ (y : List ℕ). get_or y 0 0) c.part-w.ensures)) ∙ c.in-5.is) in
    rw (abbreviation_globals d k c.requires.1 (said d st) st st st 0 q) (c.abbreviation.ensures (said d st))

pub returns-in-6 : goal.returns-in-6
returns-in-6 c =
    let d = c.args.doc.now in
    let st = c.args.state.now in
    let k = c.args.k in
    constraint_steps d k c.requires.1 (said d st) st _ _ c.args.n _ (c.word.ensures.0 ∙ ap (λ (y : List ℕ). get_or y 1 0) c.part-w.ensures) ((sym (c.word-q.ensures.0 ∙ ap (λ (y : List ℕ). get_or y 0 0) c.part-w.ensures)) ∙ c.in-6.is) c.demand.ensures

pub returns-in_default : goal.returns-in_default
returns-in_default c =
    let d = c.args.doc.now in
    let st = c.args.state.now in
    let k = c.args.k in
    let e = c.word-q.ensures.0 ∙ ap (λ (y : List ℕ). get_or y 0 0) c.part-w.ensures in
    schema_steps d k c.requires.1 (said d st) st _ st c.args.n (schema_kind d k c.requires.1 (λ z. omega (arith, e, z)) (λ z. omega (arith, e, z)) (λ z. omega (arith, e, z)) (λ z. omega (arith, e, z)))
