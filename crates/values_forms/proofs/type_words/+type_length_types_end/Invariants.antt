use mathlib.Core.Path.{◌≡◌}
use Prim.Native.Nat.{◌+◌, ◌*◌, ◌-◌, ◌≤◌}
use lib.ListN.{length}
use Rattle.values.specs.TypeWords.{types_end, type_length}
use Rattle.values_forms.proofs.type_words.+type_length_types_end.Given as goal

abbrev pub decreases-type_length : goal.decreases-type_length
decreases-type_length l = 2 * l.depth

abbrev pub decreases-types_end : goal.decreases-types_end
decreases-types_end l = 2 * l.depth + 1

abbrev pub invariant-types_end-loop-i : goal.invariant-types_end-loop-i
invariant-types_end-loop-i l = (l.at ≤ length l.w + 2 + l._i) × (types_end (type_length l.depth) l.skip l.n l.w l.start ≡ types_end (type_length l.depth) l.skip (l.n - l._i) l.w l.at)
