use Prim.Native.Nat.{◌+◌, ◌*◌, ◌-◌}
use Rattle.checker_includes.proofs.AgreeLaws.{Agreeing}
use Rattle.checker_includes.proofs.filling.rows_agree.Given as goal

abbrev pub invariant-loop-j : goal.invariant-loop-j
invariant-loop-j l = Agreeing l.a l.d l.w l.base l.m l.row l.source l.k (l.source + 2 * l.j) (l.k - l.j)
