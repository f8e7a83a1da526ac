use Rattle.std.proofs.Common.{◌+◌, ◌-◌, ◌*◌, Bool}
use Rattle.checker_merging.specs.Merging.{RowsTold}
use Rattle.checker_merging.proofs.rows_agree.Given as goal

abbrev pub invariant-loop-i : goal.invariant-loop-i
invariant-loop-i l = (b : Bool) → RowsTold l.a l.d l.work l.base l.m (l.source + 2 * l.i) (l.k - l.i) b → RowsTold l.a l.d l.work l.base l.m l.source l.k b
