use Rattle.std.proofs.Common.{◌≡◌, ◌+◌, ◌-◌}
use Rattle.words.specs.Loops.{run}
use Rattle.checker_dictionary.specs.Growth.{offset_raised}
use Rattle.checker_dictionary.proofs.growth.raise_offsets.Given as goal

abbrev pub invariant-loop-k : goal.invariant-loop-k
invariant-loop-k l = run offset_raised 1 l.n l.initial.d ≡ run offset_raised l.k (l.n + 1 - l.k) l.d
