use Prim.Native.Nat.{◌+◌}
use Rattle.checker_pieces.specs.Rows.{PowersMade}
use Rattle.checker_pieces.proofs.rows.power_row.Given as goal

abbrev pub invariant-loop-j : goal.invariant-loop-j
invariant-loop-j l = PowersMade l.initial.a l.a l.n l.top l.first l.j (l.n + l.j) (l.top + l.j)
