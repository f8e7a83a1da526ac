use mathlib.Core.Path.{◌≡◌}
use Prim.Native.Nat.{◌+◌, ◌*◌, ◌-◌, ◌≤◌}
use lib.ListN.{length, drop}
use Rattle.values.specs.Typed.{each, has_type}
use Rattle.values_forms.proofs.typed.+each_has_type_of.Given as goal

abbrev pub decreases-each_has : goal.decreases-each_has
decreases-each_has l = 2 * l.depth + 1

abbrev pub decreases-type_of : goal.decreases-type_of
decreases-type_of l = 2 * l.depth

abbrev pub invariant-each_has-loop-i : goal.invariant-each_has-loop-i
invariant-each_has-loop-i l = (l.here ≤ length l.t) × (l.at ≤ 2 + 96 * l._i) × (each (has_type l.depth) l.own l.n l.t (drop 2 l.w) ≡ each (has_type l.depth) l.own (l.n - l._i) (drop l.here l.t) (drop l.at l.w))
