use Rattle.std.proofs.Common.{Bool, drop}
use Rattle.checker_merging.specs.Merging.{NewTold}
use Rattle.checker_merging.proofs.names_new.Given as goal

abbrev pub invariant-loop-i : goal.invariant-loop-i
invariant-loop-i l = (b : Bool) → NewTold l.d l.work (drop l.i l.part) b → NewTold l.d l.work (drop l.j l.part) b
