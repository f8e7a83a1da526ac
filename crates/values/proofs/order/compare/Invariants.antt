use Rattle.std.proofs.Common.{◌≡◌, drop}
use Rattle.values.specs.Order.{compare}
use Rattle.values.proofs.order.compare.Given as goal

abbrev pub invariant-loop-i : goal.invariant-loop-i
invariant-loop-i l = compare l.a l.b ≡ compare (drop l.i l.a) (drop l.i l.b)
