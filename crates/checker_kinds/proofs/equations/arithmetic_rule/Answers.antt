use Prim.Native.Nat.{◌+◌}
use Rattle.checker_kinds.proofs.Answering.{combined_refused, combined_fine}
use native.Mathlib.Omega.{arith}
use Rattle.checker_kinds.proofs.Integers.{arithmetic_told}
use Rattle.checker_kinds.proofs.equations.arithmetic_rule.Goals as goal

pub returns-then-number-ne0 : goal.returns-then-number-ne0
returns-then-number-ne0 c = combined_refused {n' = c.args.n + 1} c.if-number-ne0.true (arithmetic_told _ _ _ _ _ _ _ c.both_integers-number.ensures _ c.requires _ (omega arith))

pub returns : goal.returns
returns c = record { is = combined_fine c.if-number-ne0.false (arithmetic_told _ _ _ _ _ _ _ c.both_integers-number.ensures _ c.requires _ (omega arith)) }
