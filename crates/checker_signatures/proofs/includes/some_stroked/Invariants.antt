use mathlib.Core.Path.{◌≡◌}
use Prim.Native.Nat.{◌+◌, ◌-◌, ◌*◌}
use Rattle.checker_signatures.specs.Rows.{rows, stroked_rows}
use Rattle.checker_signatures.proofs.includes.some_stroked.Given as goal

abbrev pub invariant-loop-j : goal.invariant-loop-j
invariant-loop-j l = stroked_rows l.k (rows l.work l.base l.m) ≡ stroked_rows l.k (rows l.work (l.base + 2 * l.j) (l.m - l.j))
