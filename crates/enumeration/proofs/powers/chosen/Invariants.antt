use Rattle.std.proofs.Common.{◌-◌}
use Rattle.enumeration_rules.specs.OnWords.{masked_on}
use Rattle.enumeration.proofs.Laws.{Listing}
use Rattle.enumeration.proofs.powers.chosen.Given as goal

abbrev pub invariant-loop-i : goal.invariant-loop-i
invariant-loop-i l = Listing l.initial.u l.initial.at (masked_on l.n l.initial.mask l.w) l.u l.at (masked_on (l.n - l._i) l.mask l.rest)
