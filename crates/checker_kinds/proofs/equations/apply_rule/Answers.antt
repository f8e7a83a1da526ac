use Prim.Native.Nat.{◌+◌}
use Rattle.checker_kinds.proofs.Answering.{combined_refused, combined_fine}
use native.Mathlib.Omega.{arith}
use Rattle.checker_kinds.proofs.Applying.{apply_making, pair_building, power_building, apply_asks, apply_told}
use Rattle.checker_kinds.proofs.equations.apply_rule.Goals as goal

pub new_unknown-requires : goal.new_unknown-requires
new_unknown-requires c = apply_making _ _ _ _ _ _ c.requires

pub pair-requires : goal.pair-requires
pair-requires c = pair_building _ _ _ _ _ _ c.requires _ c.new_unknown.ensures _ (omega arith)

pub power-requires : goal.power-requires
power-requires c = power_building _ _ _ _ _ _ c.requires _ c.new_unknown.ensures _ _ _ c.pair.ensures (omega arith) _ _ (omega arith) (omega arith)

pub equal-number-requires : goal.equal-number-requires
equal-number-requires c = apply_asks _ _ _ _ _ _ c.requires _ c.new_unknown.ensures _ _ _ c.pair.ensures (omega arith) _ _ _ _ c.power.ensures (omega arith) (omega arith) _ _ (omega arith) (omega arith)

pub returns-then-number-ne0 : goal.returns-then-number-ne0
returns-then-number-ne0 c = combined_refused {n' = c.args.n + 3} {top' = c.args.top + 3} c.if-number-ne0.true (apply_told _ _ _ _ _ _ c.requires _ c.new_unknown.ensures _ _ _ c.pair.ensures (omega arith) _ _ _ _ c.power.ensures (omega arith) (omega arith) _ _ _ _ c.equal-number.ensures (omega arith) (omega arith) _ _ (omega arith) (omega arith))

pub returns : goal.returns
returns c = record { is = combined_fine c.if-number-ne0.false (apply_told _ _ _ _ _ _ c.requires _ c.new_unknown.ensures _ _ _ c.pair.ensures (omega arith) _ _ _ _ c.power.ensures (omega arith) (omega arith) _ _ _ _ c.equal-number.ensures (omega arith) (omega arith) _ _ (omega arith) (omega arith)) }
