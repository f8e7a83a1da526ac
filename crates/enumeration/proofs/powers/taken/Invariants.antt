use Rattle.std.proofs.Common.{◌≡◌, ◌+◌, ◌-◌, ◌≤◌}
use Rattle.enumeration_rules.specs.OnWords.{taken_on}
use Rattle.enumeration.proofs.powers.taken.Given as goal

abbrev pub invariant-loop-i : goal.invariant-loop-i
invariant-loop-i l = (l.k ≤ l._i) × (l.k + taken_on (l.n - l._i) l.mask ≡ taken_on l.n l.initial.mask)
