use mathlib.Core.Path.{sym}
use Rattle.types_solver.proofs.Marking.{cap_low, cap_high}
use Rattle.types_solver.proofs.sizes.capped.Goals as goal

pub returns-then-x-lt-OVER : goal.returns-then-x-lt-OVER
returns-then-x-lt-OVER c = sym (cap_low _ c.if-x-lt-OVER.true)

pub returns : goal.returns
returns c = sym (cap_high _ c.if-x-lt-OVER.false)
