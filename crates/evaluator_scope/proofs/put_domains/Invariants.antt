use mathlib.Core.Path.{◌≡◌}
use mathlib.Core.List.{List}
use Prim.Native.Nat.{ℕ, ◌+◌, ◌-◌}
use lib.ListN.{length}
use Rattle.evaluator_scope.proofs.BlockLaws.{Domained}
use Rattle.evaluator_scope.proofs.put_domains.Given as goal

abbrev pub invariant-loop-i : goal.invariant-loop-i
invariant-loop-i l = (length l.work ≡ length l.initial.work) × ((w : List ℕ) → Domained l.work w l.x (l.b + (l.i - l.j)) l.i l.v → Domained l.initial.work w l.x l.b l.j l.v)
