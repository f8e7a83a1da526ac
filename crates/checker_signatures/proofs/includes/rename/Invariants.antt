use Prim.Native.Nat.{◌+◌, ◌-◌, ◌*◌, ◌≤◌}
use Rattle.checker_signatures.specs.Rows.{rows, renames, rename_rows}
use Rattle.checker_signatures.specs.Tables.{Table}
use Rattle.checker_signatures.proofs.includes.rename.Given as goal

abbrev pub invariant-loop-j : goal.invariant-loop-j
invariant-loop-j l = (l.n + l.j ≤ l.m)
    × Table l.initial.work l.work l.base (rename_rows (renames l.part l.first) (rows l.initial.work (l.source + 2 * l.j) (l.m - l.j))) l.n
