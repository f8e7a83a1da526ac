use Rattle.checker_signatures.specs.Rows.{rows, insert_row}
use mathlib.Core.Path.{◌≡◌}
use Rattle.checker_signatures.proofs.InsertLaws.{passed}
use Rattle.checker_signatures.proofs.tables.insert.Given as goal

abbrev pub invariant-loop-j : goal.invariant-loop-j
invariant-loop-j l = (l.work ≡ l.initial.work) × (insert_row l.id l.place (rows l.initial.work l.base l.m) ≡ passed l.initial.work l.base l.m l.j l.id l.place)
