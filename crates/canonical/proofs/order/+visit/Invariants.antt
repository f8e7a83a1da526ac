use mathlib.Core.Path.{◌≡◌}
use Prim.Native.Nat.{◌+◌}
use lib.ListN.{length}
use lib.Seq.{sets}
use Rattle.canonical.proofs.VisitLaws.{numbers_from, Left}
use Rattle.canonical.proofs.order.+visit.Given as goal

abbrev pub decreases-visit : goal.decreases-visit
decreases-visit l = l.k

abbrev pub invariant-loop-i : goal.invariant-loop-i
invariant-loop-i l = (length l.order ≡ length l.initial.order) × Left l.doc l.w l.n l.i l.end l.order (sets l.initial.order l.initial.end (numbers_from l.doc l.w l.n 1)) (l.initial.end + length (numbers_from l.doc l.w l.n 1))
