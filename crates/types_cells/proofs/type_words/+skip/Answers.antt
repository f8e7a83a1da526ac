use mathlib.Core.Path.{sym, ap}
use native.Mathlib.Omega.{arith}
use Prim.Native.Nat.{◌+◌}
use Rattle.types_cells.proofs.Reading.{heap_length, place_low, scan_start, scan_step, scan_on, scan_end}
use Rattle.types_cells.proofs.type_words.+skip.Goals as goal

pub parts_of-n-requires : goal.parts_of-n-requires
parts_of-n-requires t c =
    let P = c.requires in
    let s = c.args in
    let hl = heap_length s.a.now s.d.now P.areas.size in
    let f = P.areas.few in
    let pl = place_low _ _ _ P.readable.reads in
    (P.areas.size, omega arith)

pub overflow_add-at : goal.overflow_add-at
overflow_add-at t c =
    let P = c.requires in
    let s = c.args in
    let hl = heap_length s.a.now s.d.now P.areas.size in
    let f = P.areas.few in
    let pl = place_low _ _ _ P.readable.reads in
    let z = c.lead_words.ensures.1 in omega arith

pub loop-j-init : goal.loop-j-init
loop-j-init t c =
    let z = c.lead_words.ensures.2 in
    (omega arith, λ g R. scan_start _ _ g R _ _ _ _ c.type_word-t.ensures.0 c.name_words-w.ensures.0 c.parts_of-n.ensures.0 (ap (λ y. c.args.p + y) c.lead_words.ensures.0))

pub overflow_add-at-in-loop-j : goal.overflow_add-at-in-loop-j
overflow_add-at-in-loop-j t c =
    let P = c.requires in
    let s = c.args in
    let hl = heap_length s.a.now s.d.now P.areas.size in
    let f = P.areas.few in
    let pl = place_low _ _ _ P.readable.reads in
    let g = P.readable.type in
    let S = scan_step _ _ _ _ _ _ (c.loop-j.invariant.1 g P.readable.reads) c.loop-j-test.true in
    let q = S.low in omega arith

pub skip-at-requires : goal.skip-at-requires
skip-at-requires t c =
    let P = c.requires in
    let s = c.args in
    let hl = heap_length s.a.now s.d.now P.areas.size in
    let f = P.areas.few in
    let pl = place_low _ _ _ P.readable.reads in
    let g = P.readable.type in
    let S = scan_step _ _ _ _ _ _ (c.loop-j.invariant.1 g P.readable.reads) c.loop-j-test.true in
    let q = S.low in
    let m = c.decreases in
    let o = c.loop-j.invariant.0 in
    (omega arith, record { areas = P.areas; readable = record { type = S.part; reads = S.reads } })

pub loop-j-preserved : goal.loop-j-preserved
loop-j-preserved t c =
    let P = c.requires in
    let o = c.loop-j.invariant.0 in
    let S₀ = scan_step _ _ _ _ _ _ (c.loop-j.invariant.1 P.readable.type P.readable.reads) c.loop-j-test.true in
    let e₀ = c.skip-at.ensures.is S₀.part S₀.reads in (
      omega arith,
      λ g R.
          let S = scan_step _ _ _ _ _ _ (c.loop-j.invariant.1 g R) c.loop-j-test.true in
          scan_on _ _ _ _ _ _ _ S (c.skip-at.ensures.is S.part S.reads),
    )

pub returns : goal.returns
returns t c = record { is = λ g R. sym (scan_end _ _ _ _ _ _ (c.loop-j.invariant.1 g R) c.loop-j-test.false) }
