use Rattle.reader_repeats.proofs.WritingLaws.{written_none}
use Rattle.reader_rules.proofs.Scan.{scan_hit, scan_go, scan_end}
use native.Mathlib.Omega.{arith}
use native.Mathlib.Nat.{add-sub_cancel}
use mathlib.Core.Path.{sym, ◌∙◌}
use Rattle.reader_repeats.proofs.first_repeat.Goals as goal

pub loop-k-init : goal.loop-k-init
loop-k-init c = (rw (add-sub_cancel, c.word-n.ensures.0), written_none _)

pub slice_bounds-repeat_number-end : goal.slice_bounds-repeat_number-end
slice_bounds-repeat_number-end c = omega (arith, c.loop-k.invariant.1.globals.size)

pub slice_bounds-repeat_number-end-in-loop-k : goal.slice_bounds-repeat_number-end-in-loop-k
slice_bounds-repeat_number-end-in-loop-k c = omega (arith, c.loop-k.invariant.1.schemas.size)

pub repeat_number-number-requires : goal.repeat_number-number-requires
repeat_number-number-requires c = record { linked = (c.requires, omega arith, omega (arith, c.word-n.ensures.0)); written = c.loop-k.invariant.1 }

pub returns-then-number-ne0 : goal.returns-then-number-ne0
returns-then-number-ne0 c = rw c.repeat_number-number.ensures.0 (scan_hit _ _ _ (omega arith) (omega (arith, c.repeat_number-number.ensures.0)) ∙ sym c.loop-k.invariant.0)

pub loop-k-preserved : goal.loop-k-preserved
loop-k-preserved c =
    let r = c.repeat_number-number.ensures in
    (c.loop-k.invariant.0 ∙ scan_go _ _ _ (omega arith) (sym r.0 ∙ c.if-number-ne0.false), r.1 c.if-number-ne0.false)

pub returns : goal.returns
returns c = scan_end _ _ _ (omega arith) ∙ sym c.loop-k.invariant.0
