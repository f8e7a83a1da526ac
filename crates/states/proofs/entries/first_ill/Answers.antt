use mathlib.Core.Path.{sym, ◌∙◌}
use native.Mathlib.Omega.{arith}
use Rattle.reader_rules.proofs.Scan.{scan_hit, scan_go, scan_end}
use Rattle.states.proofs.entries.first_ill.Goals as goal

pub returns-then-number-ne0 : goal.returns-then-number-ne0
returns-then-number-ne0 c = rw c.number_by-number.ensures (scan_hit _ _ _ (omega arith) (omega arith) ∙ sym c.loop-k.invariant)

pub loop-k-preserved : goal.loop-k-preserved
loop-k-preserved c = c.loop-k.invariant ∙ scan_go _ _ _ (omega arith) (sym c.number_by-number.ensures ∙ c.if-number-ne0.false)

pub returns : goal.returns
returns c = scan_end _ _ _ (omega arith) ∙ sym c.loop-k.invariant
