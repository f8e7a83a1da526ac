use Rattle.std.proofs.Common.{◌-◌}
use Rattle.enumeration_rules.specs.OnWords.{endings_on}
use Rattle.enumeration.proofs.Laws.{Listing}
use Rattle.enumeration.proofs.products.endings.Given as goal

abbrev pub invariant-loop-i : goal.invariant-loop-i
invariant-loop-i l = Listing l.initial.u l.initial.at (endings_on l.n l.t l.w) l.u l.at (endings_on (l.n - l._i) l.t l.rest)
