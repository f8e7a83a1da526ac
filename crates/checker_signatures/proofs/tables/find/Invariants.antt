use mathlib.Core.Path.{◌≡◌}
use Rattle.checker_signatures.specs.Rows.{rows, place_in}
use Rattle.checker_signatures.proofs.tables.find.Given as goal

abbrev pub invariant-loop-j : goal.invariant-loop-j
invariant-loop-j l = place_in l.id (rows l.work l.base l.m) ≡ place_in l.id (rows l.work l.base l.j)
