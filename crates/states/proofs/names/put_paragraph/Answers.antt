use mathlib.Core.Path.{sym, ap, ◌∙◌}
use native.Mathlib.Omega.{arith}
use lib.ListN.{length}
use Rattle.states.specs.Table.{put_names}
use Rattle.states.proofs.NameLaws.{given_words, given_names, given_count, axiom_names, other_names, put_lines}
use Rattle.states.proofs.names.put_paragraph.Goals as goal

pub put_given-requires : goal.put_given-requires
put_given-requires c =
    let q = sym c.kind_at-q.ensures.0 ∙ c.if-q-eq-GIVEN.true in
    (c.requires.1, omega (arith, (given_words _ _ c.requires.0 q).1, ap length c.part-w.ensures))

pub returns-then-q-eq-GIVEN : goal.returns-then-q-eq-GIVEN
returns-then-q-eq-GIVEN c =
    let q = sym c.kind_at-q.ensures.0 ∙ c.if-q-eq-GIVEN.true in
    let p = c.part-w.ensures in
    (omega (arith, ap length p, given_count _ _ c.requires.0 q), rw (given_names _ _ c.requires.0 q, ← p) c.put_given.ensures, omega (arith, (given_words _ _ c.requires.0 q).1, ap length p))

pub text_count-requires : goal.text_count-requires
text_count-requires c = (axiom_names _ _ c.requires.0 (sym c.kind_at-q.ensures.0 ∙ c.if-q-eq-AXIOM.true) _ c.operand.ensures.0).0

pub returns-then-q-eq-AXIOM : goal.returns-then-q-eq-AXIOM
returns-then-q-eq-AXIOM c =
    let a = (axiom_names _ _ c.requires.0 (sym c.kind_at-q.ensures.0 ∙ c.if-q-eq-AXIOM.true) c.operand.result c.operand.ensures.0).1 in
    (omega (arith, c.text_count.ensures.0, ap length a), rw a (sym (put_lines _ _ _ _)), omega (arith, c.text_count.ensures.1))

pub returns : goal.returns
unfolding put_names
returns c =
    let e = c.kind_at-q.ensures.0 in
    let o = other_names _ _ c.requires.0 (λ x. c.if-q-eq-GIVEN.false (e ∙ x)) (λ x. c.if-q-eq-AXIOM.false (e ∙ x)) in
    (omega (arith, ap length o), rw o, omega arith)
