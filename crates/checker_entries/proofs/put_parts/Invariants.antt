use Prim.Native.Nat.{◌+◌, ◌*◌, ◌-◌}
use Rattle.checker_entries.proofs.Writing.{Parting}
use Rattle.checker_entries.proofs.put_parts.Given as goal

abbrev pub invariant-loop-j : goal.invariant-loop-j
invariant-loop-j l = Parting l.a l.d l.initial.w l.base l.m l.at l.w l.end (l.base + 2 * l.j) (l.m - l.j)
