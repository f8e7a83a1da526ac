use Rattle.std.proofs.Common.{Bool, drop}
use Rattle.checker_merging.specs.Merging.{DeclaredTold}
use Rattle.checker_merging.proofs.declared_agree.Given as goal

abbrev pub invariant-loop-i : goal.invariant-loop-i
invariant-loop-i l = (b : Bool) → DeclaredTold l.a l.d l.work l.base l.m l.p (drop l.i l.part) b → DeclaredTold l.a l.d l.work l.base l.m l.p (drop l.j l.part) b
