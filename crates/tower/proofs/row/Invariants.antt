use Rattle.tower.proofs.Building.{RowTo}
use Rattle.tower.proofs.row.Given as goal

abbrev pub invariant-loop-j : goal.invariant-loop-j
invariant-loop-j l = RowTo l.initial.a l.a l.n l.top l.first l.step l.x l.j
