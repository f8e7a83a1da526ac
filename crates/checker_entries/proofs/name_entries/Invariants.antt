use Prim.Native.Nat.{◌+◌, ◌*◌, ◌-◌}
use Rattle.checker_entries.proofs.Writing.{Naming}
use Rattle.checker_entries.proofs.name_entries.Given as goal

abbrev pub invariant-loop-j : goal.invariant-loop-j
invariant-loop-j l = Naming l.a l.d l.initial.w l.base l.m l.at l.w l.end (l.base + 2 * l.j) (l.m - l.j)
