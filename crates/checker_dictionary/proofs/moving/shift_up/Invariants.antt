use Rattle.std.proofs.Common.{◌≡◌, ◌+◌, take, drop}
use lib.Seq.{sets}
use Rattle.checker_dictionary.proofs.moving.shift_up.Given as goal

abbrev pub invariant-loop-i : goal.invariant-loop-i
invariant-loop-i l = l.d ≡ sets l.initial.d (l.to + l.i) (drop l.i (take l.m (drop l.from l.initial.d)))
