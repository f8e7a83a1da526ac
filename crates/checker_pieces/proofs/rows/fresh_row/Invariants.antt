use Rattle.checker_pieces.specs.Rows.{RowMade}
use Rattle.checker_pieces.proofs.rows.fresh_row.Given as goal

abbrev pub invariant-loop-j : goal.invariant-loop-j
invariant-loop-j l = RowMade l.initial.a l.a l.n l.j
