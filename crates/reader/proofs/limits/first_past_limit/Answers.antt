use Rattle.reader.proofs.CountLaws.{limit_eq, globals_few, globals_next, counted_none}
use Rattle.reader_rules.proofs.Scan.{scan_hit, scan_go, scan_end}
use Rattle.reader_rules.specs.Refusals.{Refused}
use Rattle.reader_rules.specs.Limits.{globals_up_to, limit_number}
use Rattle.words.specs.Loops.{total}
use borrow.Author.Tests.{lt-ltb, le-ltb}
use native.Mathlib.Omega.{arith}
use native.Mathlib.Nat.{add-sub_cancel}
use Prim.Native.Nat.{ℕ, ◌≤◌, ◌<◌}
use lib.ListN.{length}
use mathlib.Core.Path.{◌≡◌, refl, sym, ap, ◌∙◌}
use Rattle.reader.proofs.limits.first_past_limit.Goals as goal

pub loop-k-init : goal.loop-k-init
unfolding total
loop-k-init c = (rw (add-sub_cancel, c.word-n.ensures.0), counted_none _, refl, omega arith)

pub slice_bounds-limit_at-end : goal.slice_bounds-limit_at-end
slice_bounds-limit_at-end c = sym c.loop-k.invariant.1.below.size

pub slice_bounds-limit_at-end-in-loop-k : goal.slice_bounds-limit_at-end-in-loop-k
slice_bounds-limit_at-end-in-loop-k c = sym c.loop-k.invariant.1.declared.size

pub limit_at-requires : goal.limit_at-requires
limit_at-requires c = (c.requires, omega arith, omega (arith, c.word-n.ensures.0), c.loop-k.invariant.1)

pub returns-then-limit_at : goal.returns-then-limit_at
returns-then-limit_at c =
    let d = c.args.doc.now in
    let e : limit_number d c.loop-k.k ≡ 17 = limit_eq d c.loop-k.k ∙ rw (← c.limit_at.ensures.0, c.if-limit_at.true) in
    ap (λ (v : ℕ). Refused v c.loop-k.k) (sym e) ∙ scan_hit _ _ _ (omega arith) (omega (arith, e)) ∙ sym c.loop-k.invariant.0

pub overflow_add-globals : goal.overflow_add-globals
overflow_add-globals c =
    let d = c.args.doc.now in
    omega (arith, globals_few d _ c.requires c.loop-k.k (omega arith) (omega (arith, c.word-n.ensures.0)), ap length c.globals_at-ids.ensures)

pub returns-then-globals-gt-GLOBALS : goal.returns-then-globals-gt-GLOBALS
returns-then-globals-gt-GLOBALS c =
    let d = c.args.doc.now in
    let g : 64 < globals_up_to d c.loop-k.k = omega (arith, globals_next d c.loop-k.k (omega arith), c.loop-k.invariant.2, ap length c.globals_at-ids.ensures) in
    let e : limit_number d c.loop-k.k ≡ 17 = limit_eq d c.loop-k.k ∙ rw (← c.limit_at.ensures.0, c.if-limit_at.false, lt-ltb 64 (globals_up_to d c.loop-k.k) g) in
    ap (λ (v : ℕ). Refused v c.loop-k.k) (sym e) ∙ scan_hit _ _ _ (omega arith) (omega (arith, e)) ∙ sym c.loop-k.invariant.0

pub loop-k-preserved : goal.loop-k-preserved
loop-k-preserved c =
    let d = c.args.doc.now in
    let g = globals_next d c.loop-k.k (omega arith) in
    let h = ap length c.globals_at-ids.ensures in
    let m : globals_up_to d c.loop-k.k ≤ 64 = omega (arith, g, c.loop-k.invariant.2, h) in
    let e : limit_number d c.loop-k.k ≡ 0 = limit_eq d c.loop-k.k ∙ rw (← c.limit_at.ensures.0, c.if-limit_at.false, le-ltb 64 (globals_up_to d c.loop-k.k) m) in
    (c.loop-k.invariant.0 ∙ scan_go _ _ _ (omega arith) e, rw add-sub_cancel (c.limit_at.ensures.1 c.if-limit_at.false), rw add-sub_cancel (omega (arith, g, c.loop-k.invariant.2, h)), omega arith)

pub returns : goal.returns
returns c = scan_end _ _ _ (omega arith) ∙ sym c.loop-k.invariant.0
