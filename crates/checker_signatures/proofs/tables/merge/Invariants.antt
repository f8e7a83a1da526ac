use mathlib.Core.Path.{◌≡◌}
use Prim.Native.Nat.{◌+◌, ◌-◌, ◌*◌, ◌≤◌}
use Rattle.checker_signatures.specs.Rows.{rows, merge_rows}
use Rattle.checker_signatures.specs.Tables.{Table}
use Rattle.checker_signatures.proofs.tables.merge.Given as goal

abbrev pub invariant-loop-j : goal.invariant-loop-j
invariant-loop-j l = (l.n ≤ l.m + l.j) × Table l.initial.work l.work l.base (rows l.work l.base l.n) l.n
    × (merge_rows (rows l.initial.work l.source l.k) (rows l.initial.work l.base l.m) ≡ merge_rows (rows l.initial.work (l.source + 2 * l.j) (l.k - l.j)) (rows l.work l.base l.n))
