use mathlib.Core.Path.{ap, ◌∙◌}
use native.Mathlib.Omega.{arith}
use Prim.Native.Nat.{◌+◌}
use Rattle.types_solver.specs.Sizes.{cap}
use Rattle.types_cells.proofs.Reading.{heap_length, place_low}
use Rattle.types_solver.proofs.Marking.{cap_le}
use Rattle.types_solver.proofs.Summing.{sum_start, sum_step, sum_end}
use Rattle.types_solver.proofs.sizes.+type_size.Goals as goal

pub parts_of-n-requires : goal.parts_of-n-requires
parts_of-n-requires t c =
    let P = c.requires in
    let s = c.args in
    let hl = heap_length s.a.now s.d.now P.areas.size in
    let f = P.areas.few in
    let pl = place_low _ _ _ P.readable.reads in
    (P.areas.size, omega arith)

pub overflow_add-at : goal.overflow_add-at
overflow_add-at t c =
    let P = c.requires in
    let s = c.args in
    let hl = heap_length s.a.now s.d.now P.areas.size in
    let f = P.areas.few in
    let pl = place_low _ _ _ P.readable.reads in
    let z = c.lead_words.ensures.1 in omega arith

pub loop-j-init : goal.loop-j-init
loop-j-init t c =
    let z = c.lead_words.ensures.2 in
    (omega arith, omega arith, λ g R. sum_start _ _ g R _ _ _ _ c.type_word-t.ensures.0 c.name_words-w.ensures.0 c.parts_of-n.ensures.0 (ap (λ y. c.args.p + y) c.lead_words.ensures.0))

pub overflow_add-q : goal.overflow_add-q
overflow_add-q t c =
    let P = c.requires in
    let s = c.args in
    let hl = heap_length s.a.now s.d.now P.areas.size in
    let f = P.areas.few in
    let S = sum_step _ _ _ _ _ _ _ (c.loop-j.invariant.2 P.readable.type P.readable.reads) c.loop-j-test.true in
    let q = S.low in omega arith

pub type_size-requires : goal.type_size-requires
type_size-requires t c =
    let P = c.requires in
    let s = c.args in
    let S = sum_step _ _ _ _ _ _ _ (c.loop-j.invariant.2 P.readable.type P.readable.reads) c.loop-j-test.true in
    let q = S.low in
    let m = c.decreases in
    let o = c.loop-j.invariant.0 in
    (omega arith, record { areas = P.areas; readable = record { type = S.part; reads = S.reads } })

pub skip-at-requires : goal.skip-at-requires
skip-at-requires t c =
    let P = c.requires in
    let S = sum_step _ _ _ _ _ _ _ (c.loop-j.invariant.2 P.readable.type P.readable.reads) c.loop-j-test.true in
    record { areas = P.areas; readable = record { type = S.part; reads = S.reads } }

pub loop-j-preserved : goal.loop-j-preserved
loop-j-preserved t c =
    let P = c.requires in
    let o = c.loop-j.invariant.0 in
    let S₀ = sum_step _ _ _ _ _ _ _ (c.loop-j.invariant.2 P.readable.type P.readable.reads) c.loop-j-test.true in
    let e₀ = c.skip-at.ensures.is S₀.part S₀.reads in
    let k = c.capped-sum.ensures in
    let f = cap_le (c.loop-j.sum + c.type_size.result) in (
      omega arith,
      omega arith,
      λ g R.
          let S = sum_step _ _ _ _ _ _ _ (c.loop-j.invariant.2 g R) c.loop-j-test.true in
          S.next _ _ (c.skip-at.ensures.is S.part S.reads) (c.capped-sum.ensures ∙ ap (λ z. cap (c.loop-j.sum + z)) (c.type_size.ensures.is S.part S.reads)),
    )

pub returns : goal.returns
returns t c = record { is = λ g R. sum_end _ _ _ _ _ _ _ (c.loop-j.invariant.2 g R) c.loop-j-test.false c.loop-j.invariant.1; few = c.loop-j.invariant.1 }
