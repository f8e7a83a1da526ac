use Rattle.checker_includes.specs.Keeping.{AllKept}
use Rattle.checker_includes.proofs.storing.keep_all.Given as goal

abbrev pub invariant-loop-j : goal.invariant-loop-j
invariant-loop-j l = AllKept l.a l.d l.initial.w l.w l.base l.m l.source l.j l.row l.at l.free l.e
