use Rattle.std.proofs.Common.{◌≡◌, ◌+◌, ◌-◌}
use Rattle.checker_dictionary.specs.Spaced.{placed}
use Rattle.checker_dictionary.proofs.placing.place_pairs.Given as goal

abbrev pub invariant-loop-k : goal.invariant-loop-k
invariant-loop-k l = placed l.n 1 l.at l.initial.d ≡ placed (l.n + 1 - l.k) l.k l.o l.d
