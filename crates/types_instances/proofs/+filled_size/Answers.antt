use mathlib.Core.Path.{sym, ap, ◌∙◌}
use native.Mathlib.Omega.{arith}
use Prim.Native.Nat.{◌+◌}
use lib.ListN.{length}
use Rattle.types_rules.specs.Types.{size, tnil}
use Rattle.types_cells.specs.Settled.{heap}
use Rattle.types_solver.specs.Sizes.{cap}
use Rattle.types_cells.proofs.Reading.{heap_length, place_few}
use Rattle.types_solver.proofs.Marking.{cap_le}
use Rattle.types_instances.specs.Fill.{nth_type, actual_type}
use Rattle.types_instances.proofs.Rows.{parameter_fill}
use Rattle.types_instances.proofs.FillSizes.{total_start, total_step, total_end, total_stop}
use Rattle.types_instances.proofs.+filled_size.Goals as goal

pub overflow_add-p : goal.overflow_add-p
overflow_add-p t c = let P = c.requires in let f = place_few _ _ _ _ P.actuals.areas P.reads in omega arith

pub overflow_add-past : goal.overflow_add-past
overflow_add-past t c = let P = c.requires in let f = place_few _ _ _ _ P.actuals.areas P.reads in omega arith

pub returns-then-t-eq-PARAMETER : goal.returns-then-t-eq-PARAMETER
returns-then-t-eq-PARAMETER t c =
    let s = c.args in
    let H = heap s.a.now s.d.now in
    let e = c.type_word.ensures.0 in
    let six = sym c.type_word-t.ensures.0 ∙ c.if-t-eq-PARAMETER.true in (
      record {
        is = λ g hs R S. c.actual_size-becomes.ensures.is hs S ∙ ap (λ z. cap (size (actual_type (nth_type hs z) z tnil))) e ∙ sym (ap (λ z. cap (size z)) (parameter_fill H s.p g hs R six).0);
        few = c.actual_size-becomes.ensures.few;
      },
      record { is = λ g R. sym (ap (λ z. s.p + length z) (parameter_fill H s.p g tnil R six).1) },
    )

pub parts_of-n-requires : goal.parts_of-n-requires
parts_of-n-requires t c = let P = c.requires in let f = place_few _ _ _ _ P.actuals.areas P.reads in (P.actuals.areas.size, omega arith)

pub overflow_add-at : goal.overflow_add-at
overflow_add-at t c = let P = c.requires in let f = place_few _ _ _ _ P.actuals.areas P.reads in let z = c.lead_words.ensures.1 in omega arith

pub loop-j-init : goal.loop-j-init
loop-j-init t c =
    let z = c.lead_words.ensures.2 in (
      omega arith,
      omega arith,
      λ g hs R S. total_start _ _ g hs R _ _ _ _ c.type_word-t.ensures.0 c.if-t-eq-PARAMETER.false c.name_words-w.ensures.0 c.parts_of-n.ensures.0 (ap (λ y. c.args.p + y) c.lead_words.ensures.0),
    )

pub overflow_add-q : goal.overflow_add-q
overflow_add-q t c =
    let P = c.requires in
    let s = c.args in
    let hl = heap_length s.a.now s.d.now P.actuals.areas.size in
    let f = P.actuals.areas.few in
    let S = total_step _ _ _ _ _ _ _ _ _ (c.loop-j.invariant.2 P.type P.actuals.types P.reads P.actuals.stand) c.loop-j-test.true in
    let q = S.low in omega arith

pub filled_size-part-requires : goal.filled_size-part-requires
filled_size-part-requires t c =
    let P = c.requires in
    let S = total_step _ _ _ _ _ _ _ _ _ (c.loop-j.invariant.2 P.type P.actuals.types P.reads P.actuals.stand) c.loop-j-test.true in
    let q = S.low in
    let m = c.decreases in
    let o = c.loop-j.invariant.0 in
    (omega arith, record { actuals = P.actuals; type = S.part; reads = S.reads })

pub loop-j-preserved : goal.loop-j-preserved
loop-j-preserved t c =
    let P = c.requires in
    let o = c.loop-j.invariant.0 in
    let T = total_step _ _ _ _ _ _ _ _ _ (c.loop-j.invariant.2 P.type P.actuals.types P.reads P.actuals.stand) c.loop-j-test.true in
    let e = c.filled_size-part.ensures.1.is T.part T.reads in
    let k = c.capped-sum.ensures in
    let f = cap_le (c.loop-j.sum + c.filled_size-part.result.size) in (
      omega arith,
      omega arith,
      λ g hs R S.
          let U = total_step _ _ _ _ _ _ _ _ _ (c.loop-j.invariant.2 g hs R S) c.loop-j-test.true in
          U.next _ _ (c.filled_size-part.ensures.1.is U.part U.reads) (c.capped-sum.ensures ∙ ap (λ z. cap (c.loop-j.sum + z)) (c.filled_size-part.ensures.0.is U.part hs U.reads S)),
    )

pub returns : goal.returns
returns t c =
    let A = c.requires.actuals in
    let i = c.loop-j.invariant in (
      record { is = λ g hs R S. total_end _ _ _ _ _ _ _ _ _ (i.2 g hs R S) c.loop-j-test.false i.1; few = i.1 },
      record { is = λ g R. total_stop _ _ _ _ _ _ _ _ _ (i.2 g A.types R A.stand) c.loop-j-test.false },
    )
