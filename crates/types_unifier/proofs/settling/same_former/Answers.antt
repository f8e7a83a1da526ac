use mathlib.Core.Path.{refl, sym, ap, subst, ◌∙◌}
use mathlib.Core.Bool.{true, false}
use native.Mathlib.Omega.{arith}
use Prim.Native.Nat.{◌+◌}
use lib.ListN.{get_or}
use Rattle.types_rules.proofs.Terms.{bool_no}
use Rattle.types_cells.specs.Settled.{heap, parts_of, lead_words}
use Rattle.types_unifier.specs.Meeting.{SameNames}
use Rattle.types_cells.proofs.Reading.{place_few, parts_5}
use Rattle.types_unifier.proofs.MeetingLaws.{tag_differs, count_differs, plain_like, plain_unlike, names_like, two_words}
use Rattle.types_unifier.proofs.settling.same_former.Goals as goal

pub returns-then-t-type_word : goal.returns-then-t-type_word
returns-then-t-type_word c = record { tells = λ h gs R. record { holds = λ z. absurd (bool_no false z refl); fails = λ z. tag_differs _ _ _ _ c.requires h gs R (λ q. c.if-t-type_word.true (c.field-t.ensures.0 ∙ q ∙ sym c.type_word.ensures.0)) } }

pub parts_of-requires : goal.parts_of-requires
parts_of-requires c = (c.requires.areas.size, let z = place_few _ _ _ _ c.requires.areas c.requires.readable.reads in omega arith)

pub returns-then-n-parts_of : goal.returns-then-n-parts_of
returns-then-n-parts_of c =
    let t = sym c.field-t.ensures.0 ∙ c.if-t-type_word.false ∙ c.type_word.ensures.0 in
    record {
      tells = λ h gs R. record {
        holds = λ z. absurd (bool_no false z refl);
        fails = λ z. count_differs _ _ _ _ c.requires h gs R t (λ q. c.if-n-parts_of.true (c.field-n.ensures.0 ∙ q ∙ ap (λ y. parts_of y (get_or (heap c.args.a.now c.args.d.now) (c.args.p + 1) 0)) (sym c.field-t.ensures.0) ∙ sym c.parts_of.ensures.0));
      };
    }

pub same_names-requires : goal.same_names-requires
same_names-requires c =
    let t5 = c.if-t-eq-BINDING.true in
    let tf = c.field-t.ensures.0 in
    let tw = c.type_word.ensures.0 in
    let e1 = c.if-t-type_word.false in
    let e2 = c.if-n-parts_of.false in
    let po = c.parts_of.ensures.0 in
    record { meeting = c.requires; binds = sym tf ∙ t5; count = c.field-n.ensures.0; tag_there = sym tw ∙ sym e1 ∙ t5; parts_at = sym (parts_5 _ _ t5) ∙ sym po ∙ sym e2 }

pub returns-then-t-eq-BINDING : goal.returns-then-t-eq-BINDING
returns-then-t-eq-BINDING c =
    let t = sym c.field-t.ensures.0 ∙ c.if-t-type_word.false ∙ c.type_word.ensures.0 in
    let k = sym c.field-n.ensures.0 ∙ c.if-n-parts_of.false ∙ c.parts_of.ensures.0 ∙ ap (λ y. parts_of y (get_or (heap c.args.a.now c.args.d.now) (c.args.p + 1) 0)) c.field-t.ensures.0 in
    record { tells = λ h gs R. names_like _ _ _ _ c.requires h gs R t k (sym c.field-t.ensures.0 ∙ c.if-t-eq-BINDING.true) _ (subst (λ z. SameNames c.args.a.now c.args.d.now c.args.r c.args.p z c.same_names.result) c.field-n.ensures.0 c.same_names.ensures) }

pub returns-then-lead_words-eq1 : goal.returns-then-lead_words-eq1
returns-then-lead_words-eq1 c =
    let t = sym c.field-t.ensures.0 ∙ c.if-t-type_word.false ∙ c.type_word.ensures.0 in
    let k = sym c.field-n.ensures.0 ∙ c.if-n-parts_of.false ∙ c.parts_of.ensures.0 ∙ ap (λ y. parts_of y (get_or (heap c.args.a.now c.args.d.now) (c.args.p + 1) 0)) c.field-t.ensures.0 in
    let one = sym c.lead_words.ensures.0 ∙ c.if-lead_words-eq1.true in
    record { tells = λ h gs R. record { holds = λ z. plain_like _ _ _ _ c.requires h gs R t k (λ q. c.if-t-eq-BINDING.false (c.field-t.ensures.0 ∙ q)) (λ q. let y = sym (ap lead_words c.field-t.ensures.0) ∙ one in absurd (omega arith)); fails = λ z. absurd (bool_no true refl z) } }

pub overflow_add-p : goal.overflow_add-p
overflow_add-p c = let z = place_few _ _ _ _ c.requires.areas c.requires.readable.reads in omega arith

pub returns-then-field-type_word : goal.returns-then-field-type_word
returns-then-field-type_word c =
    let t = sym c.field-t.ensures.0 ∙ c.if-t-type_word.false ∙ c.type_word.ensures.0 in
    let k = sym c.field-n.ensures.0 ∙ c.if-n-parts_of.false ∙ c.parts_of.ensures.0 ∙ ap (λ y. parts_of y (get_or (heap c.args.a.now c.args.d.now) (c.args.p + 1) 0)) c.field-t.ensures.0 in
    record {
      tells = λ h gs R. record {
        holds = λ z. absurd (bool_no false z refl);
        fails = λ z. plain_unlike _ _ _ _ c.requires h gs R t k (λ q. c.if-t-eq-BINDING.false (c.field-t.ensures.0 ∙ q))
            (sym (ap lead_words c.field-t.ensures.0) ∙ sym c.lead_words.ensures.0 ∙ two_words _ c.lead_words.ensures.1 c.lead_words.ensures.2 c.if-lead_words-eq1.false)
            (λ q. c.if-field-type_word.true (c.field.ensures.0 ∙ q ∙ sym c.type_word-2.ensures.0));
      };
    }

pub returns : goal.returns
returns c =
    let t = sym c.field-t.ensures.0 ∙ c.if-t-type_word.false ∙ c.type_word.ensures.0 in
    let k = sym c.field-n.ensures.0 ∙ c.if-n-parts_of.false ∙ c.parts_of.ensures.0 ∙ ap (λ y. parts_of y (get_or (heap c.args.a.now c.args.d.now) (c.args.p + 1) 0)) c.field-t.ensures.0 in
    record { tells = λ h gs R. record { holds = λ z. plain_like _ _ _ _ c.requires h gs R t k (λ q. c.if-t-eq-BINDING.false (c.field-t.ensures.0 ∙ q)) (λ q. sym c.field.ensures.0 ∙ c.if-field-type_word.false ∙ c.type_word-2.ensures.0); fails = λ z. absurd (bool_no true refl z) } }
