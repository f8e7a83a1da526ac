use mathlib.Core.Path.{◌≡◌}
use Prim.Native.Nat.{◌+◌, ◌*◌, ◌-◌, ◌≤◌}
use lib.ListN.{length}
use Rattle.layout.specs.Layout.{chain}
use Rattle.layout.proofs.chained.Given as goal

abbrev pub invariant-loop-k : goal.invariant-loop-k
invariant-loop-k l = (l.at ≤ length l.words) × (chain l.shortest l.words 1 l.n (1 + 2 * l.n) ≡ chain l.shortest l.words l.k (l.n + 1 - l.k) l.at)
