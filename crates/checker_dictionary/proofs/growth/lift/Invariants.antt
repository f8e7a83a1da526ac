use Rattle.std.proofs.Common.{◌≡◌, ◌-◌}
use Rattle.checker_dictionary.specs.Growth.{lifted}
use Rattle.checker_dictionary.proofs.growth.lift.Given as goal

abbrev pub invariant-loop-i : goal.invariant-loop-i
invariant-loop-i l = lifted l.from (l.end - l.from) l.initial.d ≡ lifted l.from (l.i - l.from) l.d
