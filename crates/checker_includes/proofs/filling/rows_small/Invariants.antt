use Prim.Native.Nat.{◌+◌, ◌*◌, ◌-◌}
use Rattle.checker_includes.proofs.SmallLaws.{AllSoFar}
use Rattle.checker_includes.proofs.filling.rows_small.Given as goal

abbrev pub invariant-loop-j : goal.invariant-loop-j
invariant-loop-j l = AllSoFar l.a l.d l.w l.row l.source l.k (l.source + 2 * l.j) (l.k - l.j)
