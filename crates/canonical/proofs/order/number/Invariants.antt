use mathlib.Core.Path.{◌≡◌}
use lib.ListN.{length}
use Rattle.canonical.proofs.NumberLaws.{NumbersTo}
use Rattle.canonical.proofs.order.number.Given as goal

abbrev pub invariant-loop-i : goal.invariant-loop-i
invariant-loop-i l = (length l.numbers ≡ length l.initial.numbers) × NumbersTo l.nodes l.i l.numbers
