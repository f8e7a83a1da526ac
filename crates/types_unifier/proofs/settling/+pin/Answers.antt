use mathlib.Core.Path.{refl, sym, ap, subst, ◌∙◌}
use mathlib.Core.Bool.{true, false}
use native.Mathlib.Omega.{arith}
use Prim.Native.Nat.{◌+◌}
use lib.ListN.{length, get_or}
use Rattle.types_cells.specs.Store.{first_at}
use Rattle.types_cells.specs.Calls.{Known}
use Rattle.types_unifier.specs.Meeting.{Meeting, SameFormer}
use Rattle.types_cells.proofs.LinkLaws.{known_root, few_cell}
use Rattle.types_unifier.proofs.Turns.{pos}
use Rattle.types_cells.proofs.Reading.{heap_length, place_low}
use Rattle.types_cells.proofs.SettlingLaws.{heap_kept, kept_held}
use Rattle.types_unifier.proofs.Walking.{pin_root, pin_unlike, pin_done, pin_failed, pin_next, pin_ahead, pin_start, part_below, root_below, pin_as, reads_as}
use Rattle.types_unifier.proofs.settling.+pin.Goals as goal

pub field-t-requires : goal.field-t-requires
field-t-requires t c =
    let P = c.requires in
    let K : Known c.args.a.now c.args.c = record { n = P.n; L = P.L; held = P.held; made = P.made } in
    let l = few_cell _ _ (known_root _ _ _ K c.find-r.ensures) in (omega arith, omega arith)

pub settle-requires : goal.settle-requires
settle-requires t c =
    let P = c.requires in
    let K : Known c.args.a.now c.args.c = record { n = P.n; L = P.L; held = P.held; made = P.made } in
    let rb = root_below _ _ _ P.n P.L c.find-r.ensures P.held P.made in
    record {
      pinning = record { n = P.n; L = P.L; held = P.held; pinned = P.pinned; made = rb; few = P.few; readable = P.readable };
      open_cell = sym c.field-t.ensures.0 ∙ c.if-t-eq-UNKNOWN.true;
      root = c.find-r.ensures.free;
    }

pub returns-then-t-eq-UNKNOWN : goal.returns-then-t-eq-UNKNOWN
returns-then-t-eq-UNKNOWN t c = pin_root _ _ _ _ _ _ _ c.find-r.ensures c.settle.ensures

pub same_former-requires : goal.same_former-requires
same_former-requires t c =
    let P = c.requires in
    let K : Known c.args.a.now c.args.c = record { n = P.n; L = P.L; held = P.held; made = P.made } in
    let R = known_root _ _ _ K c.find-r.ensures in
    let rb = root_below _ _ _ P.n P.L c.find-r.ensures P.held P.made in
    let M : Meeting c.args.a.now c.args.d.now c.find-r.result c.args.p = record {
      areas = record { size = P.held.size; few = let f = P.few in omega arith };
      few = few_cell _ _ R;
      cell = P.held.cells _ rb;
      shaped = pos c.field-t.ensures.0 c.if-t-eq-UNKNOWN.false;
      readable = P.readable;
    } in
    M

pub field-n-requires : goal.field-n-requires
field-n-requires t c =
    let P = c.requires in
    let K : Known c.args.a.now c.args.c = record { n = P.n; L = P.L; held = P.held; made = P.made } in
    let l = few_cell _ _ (known_root _ _ _ K c.find-r.ensures) in (omega arith, omega arith)

pub overflow_add-at : goal.overflow_add-at
overflow_add-at t c =
    let P = c.requires in
    let l = place_low _ _ _ P.readable.reads in
    let h = heap_length c.args.a.now c.args.d.now P.held.size in
    let f = P.few in
    let z = c.lead_words.ensures.1 in omega arith

pub loop-j-init : goal.loop-j-init
loop-j-init t c =
    let P = c.requires in
    let K : Known c.args.a.now c.args.c = record { n = P.n; L = P.L; held = P.held; made = P.made } in
    let R = known_root _ _ _ K c.find-r.ensures in
    let rb = root_below _ _ _ P.n P.L c.find-r.ensures P.held P.made in
    let M : Meeting c.args.a.now c.args.d.now c.find-r.result c.args.p = record {
      areas = record { size = P.held.size; few = let f = P.few in omega arith };
      few = few_cell _ _ R;
      cell = P.held.cells _ rb;
      shaped = pos c.field-t.ensures.0 c.if-t-eq-UNKNOWN.false;
      readable = P.readable;
    } in
    pin_start _ _ _ _ _ _ c.find-r.ensures c.field-n.ensures.0 M.shaped
    (subst (λ z. SameFormer c.args.a.now c.args.d.now c.find-r.result c.args.p z) c.if-same_former.true c.same_former.ensures) M _ _ _ c.field-t.ensures.0 c.name_words-w.ensures.0
    (ap (λ y. c.args.p + y) c.lead_words.ensures.0) (let y = c.lead_words.ensures.2 in let x = c.lead_words.ensures.0 in omega arith)

pub overflow_add-q : goal.overflow_add-q
overflow_add-q t c =
    let P = c.requires in
    let Q = c.find-r.ensures in
    let ek = c.field-n.ensures.0 in
    let tx = pos c.field-t.ensures.0 c.if-t-eq-UNKNOWN.false in
    let X = subst (λ z. SameFormer c.args.a.now c.args.d.now c.find-r.result c.args.p z) c.if-same_former.true c.same_former.ensures in
    let I = c.loop-j.invariant in
    let h = heap_length c.args.a.now c.args.d.now P.held.size in
    let f = P.few in
    let A = pin_ahead _ _ _ _ _ _ Q ek tx _ _ _ _ I X c.loop-j-test.true P in
    let y = A.low in omega arith

pub part-requires : goal.part-requires
part-requires t c =
    let P = c.requires in
    let Q = c.find-r.ensures in
    let ek = c.field-n.ensures.0 in
    let tx = pos c.field-t.ensures.0 c.if-t-eq-UNKNOWN.false in
    let X = subst (λ z. SameFormer c.args.a.now c.args.d.now c.find-r.result c.args.p z) c.if-same_former.true c.same_former.ensures in
    let I = c.loop-j.invariant in
    let K : Known c.args.a.now c.args.c = record { n = P.n; L = P.L; held = P.held; made = P.made } in
    let l = few_cell _ _ (known_root _ _ _ K Q) in
    let g = c.field-n.ensures.1 in
    let q = c.loop-j-test.true in
    (omega arith, omega arith)

pub pin-requires : goal.pin-requires
pin-requires t c =
    let P = c.requires in
    let Q = c.find-r.ensures in
    let ek = c.field-n.ensures.0 in
    let tx = pos c.field-t.ensures.0 c.if-t-eq-UNKNOWN.false in
    let X = subst (λ z. SameFormer c.args.a.now c.args.d.now c.find-r.result c.args.p z) c.if-same_former.true c.same_former.ensures in
    let I = c.loop-j.invariant in
    let h = heap_length c.args.a.now c.args.d.now P.held.size in
    let f = P.few in
    let lt = c.loop-j-test.true in
    let A = pin_ahead _ _ _ _ _ _ Q ek tx _ _ _ _ I X lt P in
    let y = A.low in
    let o = I.later in
    let m = c.decreases in
    let hk = heap_kept c.args.a.now c.loop-j.a c.args.d.now I.kept.low in
    let hl = ap length hk in
    let pb = part_below _ c.args.d.now _ _ _ c.args.p Q ek tx P.n P.L P.held P.made c.loop-j.j lt in
    let pe = c.part.ensures.0 ∙ ap (λ z. get_or z (first_at z c.find-r.result + c.loop-j.j) 0) I.kept.still in (
      omega arith,
      record {
        n = P.n;
        L = P.L;
        held = kept_held _ _ I.kept P.n P.L P.held;
        pinned = (I.walk P.n P.L P.held P.pinned P.made).0;
        made = omega arith;
        few = f;
        readable = record { type = A.part; reads = reads_as _ _ _ A.part hk A.reads };
      },
    )

pub skip-at-requires : goal.skip-at-requires
skip-at-requires t c =
    let P = c.requires in
    let Q = c.find-r.ensures in
    let ek = c.field-n.ensures.0 in
    let tx = pos c.field-t.ensures.0 c.if-t-eq-UNKNOWN.false in
    let X = subst (λ z. SameFormer c.args.a.now c.args.d.now c.find-r.result c.args.p z) c.if-same_former.true c.same_former.ensures in
    let I = c.loop-j.invariant in
    let lt = c.loop-j-test.true in
    let A = pin_ahead _ _ _ _ _ _ Q ek tx _ _ _ _ I X lt P in
    let Y = c.pin.ensures in
    let hk = heap_kept _ _ c.args.d.now Y.kept.low ∙ heap_kept c.args.a.now c.loop-j.a c.args.d.now I.kept.low in
    record { areas = record { size = Y.kept.size ∙ I.kept.size ∙ P.held.size; few = let f = P.few in omega arith }; readable = record { type = A.part; reads = reads_as _ _ _ A.part hk A.reads } }

pub loop-j-preserved : goal.loop-j-preserved
loop-j-preserved t c =
    let P = c.requires in
    let Q = c.find-r.ensures in
    let ek = c.field-n.ensures.0 in
    let tx = pos c.field-t.ensures.0 c.if-t-eq-UNKNOWN.false in
    let X = subst (λ z. SameFormer c.args.a.now c.args.d.now c.find-r.result c.args.p z) c.if-same_former.true c.same_former.ensures in
    let I = c.loop-j.invariant in
    let lt = c.loop-j-test.true in
    let A = pin_ahead _ _ _ _ _ _ Q ek tx _ _ _ _ I X lt P in
    let Y = c.pin.ensures in
    let hk = heap_kept _ _ c.args.d.now Y.kept.low ∙ heap_kept c.args.a.now c.loop-j.a c.args.d.now I.kept.low in
    let ee = c.skip-at.ensures.is A.part (reads_as _ _ _ A.part hk A.reads) in
    let o = I.later in
    let pe = c.part.ensures.0 ∙ ap (λ z. get_or z (first_at z c.find-r.result + c.loop-j.j) 0) I.kept.still in
    pin_next _ _ _ _ _ _ Q ek tx _ _ _ _ I X lt _ _ (pin_as _ _ _ _ _ _ _ true Y pe c.if-not-pin.false) c.skip-at.ensures (omega arith)

pub returns-then-not-pin : goal.returns-then-not-pin
returns-then-not-pin t c =
    let P = c.requires in
    let Q = c.find-r.ensures in
    let ek = c.field-n.ensures.0 in
    let tx = pos c.field-t.ensures.0 c.if-t-eq-UNKNOWN.false in
    let X = subst (λ z. SameFormer c.args.a.now c.args.d.now c.find-r.result c.args.p z) c.if-same_former.true c.same_former.ensures in
    let I = c.loop-j.invariant in
    let lt = c.loop-j-test.true in
    let Y = c.pin.ensures in
    let pe = c.part.ensures.0 ∙ ap (λ z. get_or z (first_at z c.find-r.result + c.loop-j.j) 0) I.kept.still in
    pin_failed _ _ _ _ _ _ Q ek tx _ _ _ _ I X lt _ (pin_as _ _ _ _ _ _ _ false Y pe c.if-not-pin.true)

pub returns-then-same_former : goal.returns-then-same_former
returns-then-same_former t c =
    let P = c.requires in
    let Q = c.find-r.ensures in
    let ek = c.field-n.ensures.0 in
    let tx = pos c.field-t.ensures.0 c.if-t-eq-UNKNOWN.false in
    let X = subst (λ z. SameFormer c.args.a.now c.args.d.now c.find-r.result c.args.p z) c.if-same_former.true c.same_former.ensures in
    let I = c.loop-j.invariant in
    pin_done _ _ _ _ _ _ Q ek tx _ _ _ _ I X c.loop-j-test.false

pub returns : goal.returns
returns t c =
    pin_unlike _ _ _ _ _ _ c.find-r.ensures refl (pos c.field-t.ensures.0 c.if-t-eq-UNKNOWN.false)
    (subst (λ z. SameFormer c.args.a.now c.args.d.now c.find-r.result c.args.p z) c.if-same_former.false c.same_former.ensures)
