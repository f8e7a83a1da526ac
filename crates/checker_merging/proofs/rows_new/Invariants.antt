use Rattle.std.proofs.Common.{◌+◌, ◌-◌, ◌*◌, Bool}
use Rattle.checker_signatures.specs.Rows.{rows, identifiers_of}
use Rattle.checker_merging.specs.Merging.{NewTold}
use Rattle.checker_merging.proofs.rows_new.Given as goal

abbrev pub invariant-loop-i : goal.invariant-loop-i
invariant-loop-i l = (b : Bool) → NewTold l.d l.work (identifiers_of (rows l.work (l.source + 2 * l.i) (l.k - l.i))) b → NewTold l.d l.work (identifiers_of (rows l.work l.source l.k)) b
