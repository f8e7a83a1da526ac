use mathlib.Core.Path.{sym, ap, ◌∙◌}
use native.Mathlib.Omega.{arith}
use lib.ListN.{length}
use Rattle.states_rules.specs.States.{entry_from}
use Rattle.states.proofs.NameLaws.{given_words, given_names, axiom_names, other_names}
use Rattle.states.proofs.places.place_in_paragraph.Goals as goal

pub place_in-requires : goal.place_in-requires
place_in-requires c =
    let q = sym c.kind_at-q.ensures.0 ∙ c.if-q-eq-GIVEN.true in
    (omega (arith, c.requires.2), omega (arith, (given_words _ _ c.requires.0 q).1, ap length c.part.ensures))

pub returns-then-q-eq-GIVEN : goal.returns-then-q-eq-GIVEN
returns-then-q-eq-GIVEN c =
    let q = sym c.kind_at-q.ensures.0 ∙ c.if-q-eq-GIVEN.true in
    rw (given_names _ _ c.requires.0 q, ← c.part.ensures) c.place_in.ensures

pub place_in_text-requires : goal.place_in_text-requires
place_in_text-requires c = ((axiom_names _ _ c.requires.0 (sym c.kind_at-q.ensures.0 ∙ c.if-q-eq-AXIOM.true) _ c.operand.ensures.0).0, c.requires.1, c.requires.2)

pub returns-then-q-eq-AXIOM : goal.returns-then-q-eq-AXIOM
returns-then-q-eq-AXIOM c = rw (axiom_names _ _ c.requires.0 (sym c.kind_at-q.ensures.0 ∙ c.if-q-eq-AXIOM.true) c.operand.result c.operand.ensures.0).1 c.place_in_text.ensures

pub returns : goal.returns
unfolding entry_from
returns c =
    let e = c.kind_at-q.ensures.0 in
    rw (other_names _ _ c.requires.0 (λ x. c.if-q-eq-GIVEN.false (e ∙ x)) (λ x. c.if-q-eq-AXIOM.false (e ∙ x)))
