use mathlib.Core.Path.{◌≡◌}
use Prim.Native.Nat.{◌+◌, ◌-◌, ◌*◌}
use mathlib.Core.Bool.{false}
use lib.Seq.{sets}
use Rattle.checker_signatures.specs.Rows.{rows, flat, stroke_rows, stroked_rows}
use Rattle.checker_signatures.proofs.IncludeLaws.{stroking}
use Rattle.checker_signatures.proofs.includes.stroke.Given as goal

abbrev pub invariant-loop-j : goal.invariant-loop-j
invariant-loop-j l = (stroked_rows l.k (rows l.work (l.base + 2 * l.j) (l.m - l.j)) ≡ false)
    × (sets l.initial.work l.base (flat (stroke_rows l.k (rows l.initial.work l.base l.m))) ≡ stroking l.work l.base l.m l.k l.j)
