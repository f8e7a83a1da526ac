use mathlib.Core.Path.{refl, sym, ap, ◌∙◌}
use mathlib.Core.Bool.{true, false}
use native.Mathlib.Omega.{arith}
use Prim.Native.Nat.{◌+◌}
use lib.ListN.{get_or}
use borrow.Author.Count.{below_more}
use Rattle.types_rules.proofs.Terms.{bool_no}
use Rattle.types_cells.specs.Store.{frozen}
use Rattle.types_cells.proofs.Reading.{place_few, names_length, heap_length}
use Rattle.types_unifier.proofs.MeetingLaws.{named_start, named_step, named_on, ids_yes, ids_no, binding_of_lem}
use Rattle.types_cells.proofs.Words.{frozen_length}
use Rattle.types_unifier.proofs.settling.same_names.Goals as goal

pub overflow_add-at : goal.overflow_add-at
overflow_add-at c = let z = place_few _ _ _ _ c.requires.meeting.areas c.requires.meeting.readable.reads in omega arith

pub loop-j-init : goal.loop-j-init
loop-j-init c = λ l gs R. (named_start _ _ _ l gs R c.requires.parts_at, λ i q. absurd (omega arith))

pub overflow_add-ids : goal.overflow_add-ids
overflow_add-ids c = let f = c.field-ids.ensures.1 in let l = c.loop-j-test.true in let k = c.requires.count in let q = c.requires.meeting.cell.named c.requires.binds in let e = c.field-ids.ensures.0 in let z = c.requires.meeting.areas.size in omega (arith, frozen_length c.args.a.now z)

pub held-requires : goal.held-requires
held-requires c = let f = c.field-ids.ensures.1 in let l = c.loop-j-test.true in let k = c.requires.count in let q = c.requires.meeting.cell.named c.requires.binds in let e = c.field-ids.ensures.0 in let z = c.requires.meeting.areas.size in omega (arith, frozen_length c.args.a.now z)

pub returns-then-held-type_word : goal.returns-then-held-type_word
returns-then-held-type_word c =
    record {
      tells = λ l gs R.
          let I = c.loop-j.invariant l gs R in
          let S = named_step _ _ _ _ l I.0 c.loop-j-test.true in
          record {
            holds = λ z. absurd (bool_no false z refl);
            fails = λ z q. ids_no _ _ _ c.loop-j.j l c.loop-j-test.true (λ y. c.if-held-type_word.true (c.held.ensures.0 ∙ ap (λ x. get_or (frozen c.args.a.now) (x + c.loop-j.j) 0) c.field-ids.ensures.0 ∙ y ∙ S.here ∙ sym c.type_word.ensures.0)) q;
          };
    }

pub overflow_add-at-in-loop-j : goal.overflow_add-at-in-loop-j
overflow_add-at-in-loop-j c =
    let B = binding_of_lem _ _ _ c.requires.meeting.readable.reads c.requires.tag_there in
    let S = named_step _ _ _ _ _ (c.loop-j.invariant B.0 B.1 B.2).0 c.loop-j-test.true in
    let q = S.low in
    let h = heap_length c.args.a.now c.args.d.now c.requires.meeting.areas.size in
    let f = c.requires.meeting.areas.few in
    omega arith

pub skip-at-requires : goal.skip-at-requires
skip-at-requires c =
    let B = binding_of_lem _ _ _ c.requires.meeting.readable.reads c.requires.tag_there in
    let S = named_step _ _ _ _ _ (c.loop-j.invariant B.0 B.1 B.2).0 c.loop-j-test.true in
    record { areas = c.requires.meeting.areas; readable = record { type = S.part; reads = S.reads } }

pub loop-j-preserved : goal.loop-j-preserved
loop-j-preserved c =
    λ l gs R.
    let I = c.loop-j.invariant l gs R in
    let S = named_step _ _ _ _ l I.0 c.loop-j-test.true in (
      named_on _ _ _ _ _ l S (c.skip-at.ensures.is S.part S.reads),
      below_more _ _ I.1 (sym c.held.ensures.0 ∙ c.if-held-type_word.false ∙ c.type_word.ensures.0 ∙ sym S.here),
    )

pub returns : goal.returns
returns c =
    record {
      tells = λ l gs R.
          let I = c.loop-j.invariant l gs R in
          let P = c.requires in
          let q = c.loop-j-test.false in
          record {
            holds = λ z. ids_yes _ _ _ l (names_length _ _ _ l gs R P.parts_at) (let k = P.count in let y = P.meeting.cell.named P.binds in omega arith)
                (λ i y. ap (λ x. get_or (frozen c.args.a.now) (x + i) 0) (sym c.field-ids.ensures.0) ∙ I.1 i (omega arith));
            fails = λ z. absurd (bool_no true refl z);
          };
    }
