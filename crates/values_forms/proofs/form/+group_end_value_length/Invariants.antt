use mathlib.Core.Path.{◌≡◌}
use mathlib.Core.List.{[]}
use Prim.Native.Nat.{◌+◌, ◌*◌, ◌-◌, ◌≤◌}
use lib.ListN.{length, take, drop}
use Rattle.values.specs.Givens.{size_of}
use Rattle.values.specs.Form.{group_end, value_length}
use Rattle.values_forms.proofs.form.+group_end_value_length.Given as goal

abbrev pub decreases-group_end : goal.decreases-group_end
decreases-group_end l = 2 * l.depth + 1

abbrev pub decreases-value_length : goal.decreases-value_length
decreases-value_length l = 2 * l.depth

abbrev pub invariant-group_end-loop-i : goal.invariant-group_end-loop-i
invariant-group_end-loop-i l = (l.last ≤ l.at) × (l.at ≤ length l.w) × (group_end (value_length (size_of l.givens) l.depth) l.ascending l.n [] (drop 2 l.w) 2 ≡ group_end (value_length (size_of l.givens) l.depth) l.ascending (l.n - l._i) (take (l.at - l.last) (drop l.last l.w)) (drop l.at l.w) l.at)
