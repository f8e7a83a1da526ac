use Rattle.std.proofs.Common.{◌≡◌, take}
use Rattle.checker_kinds.specs.Formers.{up_from}
use Rattle.checker_kinds.proofs.building.count_up.Given as goal

abbrev pub invariant-loop-j : goal.invariant-loop-j
invariant-loop-j l = take l.j l.x-items ≡ up_from l.first l.j
