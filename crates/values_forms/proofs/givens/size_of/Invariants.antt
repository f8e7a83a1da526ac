use mathlib.Core.Path.{◌≡◌}
use Prim.Native.Nat.{◌-◌}
use Rattle.values.specs.Givens.{size_of, size_from}
use Rattle.values_forms.proofs.givens.size_of.Given as goal

abbrev pub invariant-loop-i : goal.invariant-loop-i
invariant-loop-i l = size_of l.givens l.g ≡ size_from l.givens l.g l.i (l.i-end - l.i)
