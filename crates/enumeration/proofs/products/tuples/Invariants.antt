use Rattle.std.proofs.Common.{◌-◌}
use Rattle.enumeration_rules.specs.OnWords.{tuples_on}
use Rattle.enumeration.proofs.Laws.{Listing}
use Rattle.enumeration.proofs.products.tuples.Given as goal

abbrev pub invariant-loop-i : goal.invariant-loop-i
invariant-loop-i l = Listing l.initial.u l.initial.at (tuples_on l.m l.p l.n l.w) l.u l.at (tuples_on (l.m - l._i) l.rest l.n l.w)
