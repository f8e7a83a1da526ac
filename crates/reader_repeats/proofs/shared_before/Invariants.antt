use Rattle.reader_repeats.specs.Marks.{shared_at}
use Rattle.words.specs.Loops.{some}
use lib.ListN.{length}
use Prim.Native.Nat.{◌-◌}
use mathlib.Core.Path.{◌≡◌}
use Rattle.reader_repeats.proofs.shared_before.Given as goal

abbrev pub invariant-loop-i : goal.invariant-loop-i
invariant-loop-i l = some (shared_at l.doc l.k l.ids l.w) 1 (length l.w - 1) ≡ some (shared_at l.doc l.k l.ids l.w) l.i (length l.w - l.i)
