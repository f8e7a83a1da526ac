use Rattle.std.proofs.Common.{take}
use Rattle.checker_pieces.specs.Building.{Laid}
use Rattle.checker_pieces.proofs.formers.lay.Given as goal

abbrev pub invariant-loop-j : goal.invariant-loop-j
invariant-loop-j l = Laid l.initial.a l.a l.n l.top (take l.j l.parts)
