use Rattle.std.proofs.Common.{◌≡◌, ◌+◌, ◌-◌, ◌*◌, ◌≤◌, drop}
use Rattle.values.specs.Span.{span, spans}
use Rattle.values.proofs.span.span.Given as goal

abbrev pub invariant-loop-i : goal.invariant-loop-i
invariant-loop-i l = (l.at ≤ 3 * l._i) × (l.left ≤ 1 + l._i * 4294967296) × (span l.w ≡ l.at + spans (32 - l._i) l.left (drop l.at l.w))
