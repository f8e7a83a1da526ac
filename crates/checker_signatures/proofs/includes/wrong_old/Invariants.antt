use mathlib.Core.Path.{◌≡◌}
use Prim.Native.Nat.{◌+◌, ◌*◌}
use Rattle.checker_signatures.specs.Rows.{rows, renames, wrong_old_rows}
use Rattle.checker_signatures.proofs.includes.wrong_old.Given as goal

abbrev pub invariant-loop-j : goal.invariant-loop-j
invariant-loop-j l = wrong_old_rows (renames l.part l.first) (rows l.work l.base l.m) ≡ wrong_old_rows (renames l.part (l.first + 2 * l.j)) (rows l.work l.base l.m)
