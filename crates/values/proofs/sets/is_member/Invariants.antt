use Rattle.std.proofs.Common.{◌≡◌, ◌+◌, ◌-◌, ◌*◌, ◌≤◌, drop}
use Rattle.values.specs.Sets.{is_member, among}
use Rattle.values.proofs.sets.is_member.Given as goal

abbrev pub invariant-loop-i : goal.invariant-loop-i
invariant-loop-i l = (l.at ≤ 2 + 96 * l._i) × (is_member l.s l.m ≡ among (l.n - l._i) (drop l.at l.s) l.m)
