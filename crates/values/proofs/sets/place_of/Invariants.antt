use Rattle.std.proofs.Common.{◌≡◌, ◌+◌, ◌-◌, ◌*◌, ◌≤◌, drop}
use Rattle.values.specs.Sets.{place, place_from}
use Rattle.values.proofs.sets.place_of.Given as goal

abbrev pub invariant-loop-i : goal.invariant-loop-i
invariant-loop-i l = (l.at ≤ 2 + 96 * l._i) × (place l.s l.m ≡ place_from (l.n - l._i) l.at (drop l.at l.s) l.m)
