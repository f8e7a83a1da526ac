use Rattle.std.proofs.Common.{drop}
use Rattle.enumeration_rules.specs.OnWords.{masks, sets_on}
use Rattle.enumeration.proofs.Laws.{Listing}
use Rattle.enumeration.proofs.powers.subsets.Given as goal

abbrev pub invariant-loop-m : goal.invariant-loop-m
invariant-loop-m l = Listing l.initial.u l.initial.at (sets_on masks l.n l.w) l.u l.at (sets_on (drop l.m-index masks) l.n l.w)
