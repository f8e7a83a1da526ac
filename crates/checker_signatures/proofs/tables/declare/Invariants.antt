use mathlib.Core.Path.{◌≡◌}
use Prim.Native.Nat.{◌+◌, ◌≤◌}
use lib.ListN.{drop}
use Rattle.checker_signatures.specs.Rows.{rows, declare_rows}
use Rattle.checker_signatures.specs.Tables.{Table}
use Rattle.checker_signatures.proofs.tables.declare.Given as goal

abbrev pub invariant-loop-i : goal.invariant-loop-i
invariant-loop-i l = (l.n + l.first ≤ l.m + l.i) × Table l.initial.work l.work l.base (rows l.work l.base l.n) l.n
    × (declare_rows (drop l.first l.part) l.place (rows l.initial.work l.base l.m) ≡ declare_rows (drop l.i l.part) l.place (rows l.work l.base l.n))
