use mathlib.Core.Path.{sym, ap, ◌∙◌}
use native.Mathlib.Omega.{arith}
use Rattle.types_cells.specs.Settled.{lead_words}
use Rattle.types_cells.proofs.Reading.{lead_1, lead_3, lead_else}
use Rattle.types_cells.proofs.type_words.lead_words.Goals as goal

pub returns-then-t-eq-INTEGERS : goal.returns-then-t-eq-INTEGERS
returns-then-t-eq-INTEGERS c = (sym (ap lead_words c.if-t-eq-INTEGERS.true ∙ lead_1), omega arith, omega arith)

pub returns-then-t-eq-POWER : goal.returns-then-t-eq-POWER
returns-then-t-eq-POWER c = (sym (ap lead_words c.if-t-eq-POWER.true ∙ lead_3), omega arith, omega arith)

pub returns : goal.returns
returns c = (sym (lead_else _ c.if-t-eq-INTEGERS.false c.if-t-eq-POWER.false), omega arith, omega arith)
