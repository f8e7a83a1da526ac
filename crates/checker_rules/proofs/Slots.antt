-- Unknowns of different nodes, and different unknowns of one node, are different: a readable node has at most 6 beside its type.
use mathlib.Core.Path.{◌≡◌}
use Prim.Native.Nat.{ℕ, ◌<◌}
use native.Mathlib.Omega.{arith}
use Rattle.checker_rules.specs.Unknowns.{slot}

pub slots_apart : (n k m l : ℕ) → k < 8 → l < 8 → slot n k ≡ slot m l → (n ≡ m) × (k ≡ l)
unfolding slot
slots_apart n k m l p q e = (omega (arith, p, q, e), omega (arith, p, q, e))
