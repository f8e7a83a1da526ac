use mathlib.Core.Path.{refl, sym, ◌∙◌}
use native.Mathlib.Omega.{arith}
use Rattle.types_cells.proofs.Reading.{place_few, heap_length, not_binding, seek_start, seek_step, seek_on, seek_end}
use Rattle.types_solver.proofs.components.settled_component.Goals as goal

pub returns-then-type_word-ne-BINDING : goal.returns-then-type_word-ne-BINDING
returns-then-type_word-ne-BINDING c = record { none = λ e g R. not_binding _ _ _ g R (λ q. c.if-type_word-ne-BINDING.true (c.type_word.ensures.0 ∙ q)); some = λ e. absurd (e refl) }

pub overflow_add-p : goal.overflow_add-p
overflow_add-p c = let z = place_few _ _ _ _ c.requires.areas c.requires.readable.reads in omega arith

pub overflow_add-at : goal.overflow_add-at
overflow_add-at c = let z = place_few _ _ _ _ c.requires.areas c.requires.readable.reads in omega arith

pub loop-j-init : goal.loop-j-init
loop-j-init c = λ g R. seek_start _ _ _ _ g R (sym c.type_word.ensures.0 ∙ c.if-type_word-ne-BINDING.false) (sym c.type_word-n.ensures.0)

pub overflow_add-result : goal.overflow_add-result
overflow_add-result c =
    let P = c.requires in
    let S = seek_step _ _ _ _ _ _ (c.loop-j.invariant P.readable.type P.readable.reads) c.loop-j-test.true in
    let q = S.low in
    let h = heap_length c.args.a.now c.args.d.now P.areas.size in
    let f = P.areas.few in omega arith

pub returns-then-type_word-id : goal.returns-then-type_word-id
returns-then-type_word-id c =
    record {
      none = λ e. absurd (omega arith);
      some = λ e g R. let S = seek_step _ _ _ _ _ _ (c.loop-j.invariant g R) c.loop-j-test.true in
          record { type = S.part; is = S.hit (sym c.type_word-in-loop-j.ensures.0 ∙ c.if-type_word-id.true); reads = S.reads };
    }

pub overflow_add-at-in-loop-j : goal.overflow_add-at-in-loop-j
overflow_add-at-in-loop-j c =
    let P = c.requires in
    let S = seek_step _ _ _ _ _ _ (c.loop-j.invariant P.readable.type P.readable.reads) c.loop-j-test.true in
    let q = S.low in
    let h = heap_length c.args.a.now c.args.d.now P.areas.size in
    let f = P.areas.few in omega arith

pub skip-at-requires : goal.skip-at-requires
skip-at-requires c =
    let P = c.requires in
    let S = seek_step _ _ _ _ _ _ (c.loop-j.invariant P.readable.type P.readable.reads) c.loop-j-test.true in
    record { areas = P.areas; readable = record { type = S.part; reads = S.reads } }

pub loop-j-preserved : goal.loop-j-preserved
loop-j-preserved c =
    λ g R.
    let S = seek_step _ _ _ _ _ _ (c.loop-j.invariant g R) c.loop-j-test.true in
    seek_on _ _ _ _ _ _ _ S (λ q. c.if-type_word-id.false (c.type_word-in-loop-j.ensures.0 ∙ q)) (c.skip-at.ensures.is S.part S.reads)

pub returns : goal.returns
returns c = record { none = λ e g R. seek_end _ _ _ _ _ _ (c.loop-j.invariant g R) c.loop-j-test.false; some = λ e. absurd (e refl) }
