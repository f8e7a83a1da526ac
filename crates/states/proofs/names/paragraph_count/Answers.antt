use mathlib.Core.Path.{sym, ap, ◌∙◌}
use native.Mathlib.Omega.{arith}
use lib.ListN.{length}
use Rattle.states.proofs.NameLaws.{given_words, given_count, axiom_names, other_names}
use Rattle.states.proofs.names.paragraph_count.Goals as goal

pub returns-then-q-eq-GIVEN : goal.returns-then-q-eq-GIVEN
returns-then-q-eq-GIVEN c =
    let q = sym c.kind_at-q.ensures.0 ∙ c.if-q-eq-GIVEN.true in
    (omega (arith, given_count _ _ c.requires q, ap length c.part.ensures), omega (arith, (given_words _ _ c.requires q).1, ap length c.part.ensures))

pub text_count-requires : goal.text_count-requires
text_count-requires c = (axiom_names _ _ c.requires (sym c.kind_at-q.ensures.0 ∙ c.if-q-eq-AXIOM.true) _ c.operand.ensures.0).0

pub returns-then-q-eq-AXIOM : goal.returns-then-q-eq-AXIOM
returns-then-q-eq-AXIOM c =
    let a = (axiom_names _ _ c.requires (sym c.kind_at-q.ensures.0 ∙ c.if-q-eq-AXIOM.true) c.operand.result c.operand.ensures.0).1 in
    (omega (arith, c.text_count.ensures.0, ap length a), c.text_count.ensures.1)

pub returns : goal.returns
returns c =
    let e = c.kind_at-q.ensures.0 in
    let o = other_names _ _ c.requires (λ x. c.if-q-eq-GIVEN.false (e ∙ x)) (λ x. c.if-q-eq-AXIOM.false (e ∙ x)) in
    (omega (arith, ap length o), omega arith)
