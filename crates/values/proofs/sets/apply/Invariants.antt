use Rattle.std.proofs.Common.{◌≡◌, ◌+◌, ◌-◌, ◌*◌, ◌≤◌}
use Rattle.values.specs.Sets.{apply}
use Rattle.values.proofs.Members.{apply_from}
use Rattle.values.proofs.sets.apply.Given as goal

abbrev pub invariant-loop-i : goal.invariant-loop-i
invariant-loop-i l = (l.at ≤ 2 + 96 * l._i) × (l.hits ≤ l._i) × (l.hit ≤ 2 + 96 * l._i) × (apply l.f l.a ≡ apply_from l.f l.a (l.n - l._i) l.at l.hits l.hit)
