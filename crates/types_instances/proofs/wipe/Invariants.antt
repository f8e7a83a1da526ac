use mathlib.Core.Path.{◌≡◌}
use lib.ListN.{length}
use Rattle.types_instances.proofs.Copying.{Wiped}
use Rattle.types_instances.proofs.wipe.Given as goal

abbrev pub invariant-loop-i : goal.invariant-loop-i
invariant-loop-i l = (length l.a ≡ length l.initial.a) × Wiped l.initial.a l.a l.from l.to l.i
