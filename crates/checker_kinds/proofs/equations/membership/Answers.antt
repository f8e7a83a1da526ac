use Prim.Native.Nat.{◌+◌}
use Rattle.checker_kinds.proofs.Answering.{related_refused, related_fine}
use native.Mathlib.Omega.{arith}
use Rattle.checker_kinds.proofs.Relations.{member_building, member_asks, member_told}
use Rattle.checker_kinds.proofs.equations.membership.Goals as goal

pub power-requires : goal.power-requires
power-requires c = member_building _ _ _ _ _ _ c.requires

pub equal-number-requires : goal.equal-number-requires
equal-number-requires c = member_asks _ _ _ _ _ _ c.requires _ _ c.power.ensures _ (omega arith)

pub returns-then-number-ne0 : goal.returns-then-number-ne0
returns-then-number-ne0 c = related_refused {n' = c.args.n + 1} c.if-number-ne0.true (member_told _ _ _ _ _ _ c.requires _ _ c.power.ensures _ _ _ c.equal-number.ensures (omega arith) _ (omega arith))

pub returns : goal.returns
returns c = related_fine c.if-number-ne0.false (member_told _ _ _ _ _ _ c.requires _ _ c.power.ensures _ _ _ c.equal-number.ensures (omega arith) _ (omega arith))
