use Rattle.types_cells.proofs.Words.{run_length}
use mathlib.Core.Path.{refl, ap, ◌∙◌}
use native.Mathlib.Omega.{arith}
use Prim.Native.Nat.{◌+◌}
use lib.ListN.{length, length-append}
use Rattle.types_cells.specs.Store.{run}
use Rattle.types_cells.specs.Settled.{heap}
use Rattle.types_cells.proofs.Reading.{heap_length, place_few}
use Rattle.types_instances.proofs.FillWords.{body, fill_words, lead_inside, emit_start, emit_step, emit_end, wrote_all}
use Rattle.types_instances.proofs.+write_filled.Goals as goal

pub parts_of-n-requires : goal.parts_of-n-requires
parts_of-n-requires t c = let P = c.requires.filling in let f = place_few _ _ _ _ P.actuals.areas P.reads in (P.actuals.areas.size, omega arith)

pub overflow_add-q : goal.overflow_add-q
overflow_add-q t c = let P = c.requires.filling in let f = place_few _ _ _ _ P.actuals.areas P.reads in let z = c.lead_words-k.ensures.1 in omega arith

pub put_words-e-requires : goal.put_words-e-requires
put_words-e-requires t c =
    let P = c.requires.filling in
    let r = c.requires.room in
    let f = place_few _ _ _ _ P.actuals.areas P.reads in
    let z = c.lead_words-k.ensures.1 in
    let e = c.lead_words-k.ensures.0 in
    let i = lead_inside _ _ _ P.reads _ c.type_word-t.ensures.0 in
    (P.actuals.areas.size, omega arith, omega arith, omega arith)

pub loop-j-init : goal.loop-j-init
loop-j-init t c =
    let z = c.lead_words-k.ensures.2 in (
      omega arith,
      refl,
      λ g hs R S. emit_start _ _ g hs R _ _ _ _ c.type_word-t.ensures.0 c.name_words-w.ensures.0 c.parts_of-n.ensures.0 (ap (λ y. c.args.p + y) c.lead_words-k.ensures.0) _ _,
    )

pub put_words-e-requires-in-loop-j : goal.put_words-e-requires-in-loop-j
put_words-e-requires-in-loop-j t c =
    let s = c.args in
    let P = c.requires.filling in
    let r = c.requires.room in
    let hl = heap_length s.a.now s.d.now P.actuals.areas.size in
    let f = P.actuals.areas.few in
    let S = emit_step _ _ _ _ _ _ _ _ _ _ (c.loop-j.invariant.2 P.type P.actuals.types P.reads P.actuals.stand) c.loop-j-test.true in
    let fw = ap length (fill_words _ _ P.type P.actuals.types P.reads _ _ c.type_word-t.ensures.0 c.if-t-eq-PARAMETER.false c.lead_words-k.ensures.0) ∙ length-append (run (heap s.a.now s.d.now) s.p c.lead_words-k.result) (body P.actuals.types P.type) in
    let pe = c.put_words-e.ensures.end in
    let low = S.low in
    let rm = S.room in
    (P.actuals.areas.size, omega arith, omega arith, omega arith)

pub overflow_add-q-in-loop-j : goal.overflow_add-q-in-loop-j
overflow_add-q-in-loop-j t c =
    let s = c.args in
    let P = c.requires.filling in
    let hl = heap_length s.a.now s.d.now P.actuals.areas.size in
    let f = P.actuals.areas.few in
    let S = emit_step _ _ _ _ _ _ _ _ _ _ (c.loop-j.invariant.2 P.type P.actuals.types P.reads P.actuals.stand) c.loop-j-test.true in
    let low = S.low in omega arith

pub write_filled-e-requires : goal.write_filled-e-requires
write_filled-e-requires t c =
    let s = c.args in
    let P = c.requires.filling in
    let r = c.requires.room in
    let S = emit_step _ _ _ _ _ _ _ _ _ _ (c.loop-j.invariant.2 P.type P.actuals.types P.reads P.actuals.stand) c.loop-j-test.true in
    let fw = ap length (fill_words _ _ P.type P.actuals.types P.reads _ _ c.type_word-t.ensures.0 c.if-t-eq-PARAMETER.false c.lead_words-k.ensures.0) ∙ length-append (run (heap s.a.now s.d.now) s.p c.lead_words-k.result) (body P.actuals.types P.type) in
    let pe = c.put_words-e.ensures.end in
    let qe = c.put_words-e-in-loop-j.ensures.end in
    let low = S.low in
    let rm = S.room in
    let rl = run_length (heap s.a.now s.d.now) c.loop-j.q c.name_words-w.result (omega arith) in
    let m = c.decreases in
    let o = c.loop-j.invariant.0 in
    (omega arith, record { filling = record { actuals = P.actuals; type = S.part; reads = S.reads }; room = omega arith })

pub skip-q-requires : goal.skip-q-requires
skip-q-requires t c =
    let P = c.requires.filling in
    let S = emit_step _ _ _ _ _ _ _ _ _ _ (c.loop-j.invariant.2 P.type P.actuals.types P.reads P.actuals.stand) c.loop-j-test.true in
    record { areas = P.actuals.areas; readable = record { type = S.part; reads = S.reads } }

pub loop-j-preserved : goal.loop-j-preserved
loop-j-preserved t c =
    let P = c.requires.filling in
    let l = c.loop-j-test.true in
    let o = c.loop-j.invariant.0 in
    let T = emit_step _ _ _ _ _ _ _ _ _ _ (c.loop-j.invariant.2 P.type P.actuals.types P.reads P.actuals.stand) l in
    let e = c.skip-q.ensures.is T.part T.reads in (
      omega arith,
      c.write_filled-e.auto.out ∙ c.put_words-e-in-loop-j.auto.out ∙ c.loop-j.invariant.1,
      λ g hs R S.
          let U = emit_step _ _ _ _ _ _ _ _ _ _ (c.loop-j.invariant.2 g hs R S) l in
          U.next _ _ _ _ _ c.put_words-e-in-loop-j.ensures (c.write_filled-e.ensures.is U.part hs U.reads S) (c.skip-q.ensures.is U.part U.reads),
    )

pub returns : goal.returns
returns t c =
    record {
      is = λ g hs R S. wrote_all _ _ g hs R _ _ c.type_word-t.ensures.0 c.if-t-eq-PARAMETER.false c.lead_words-k.ensures.0 _ _ _ _ _ _ c.put_words-e.ensures (emit_end _ _ _ _ _ _ _ _ _ _ (c.loop-j.invariant.2 g hs R S) c.loop-j-test.false);
    }
