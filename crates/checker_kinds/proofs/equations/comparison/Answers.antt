use Prim.Native.Nat.{◌+◌}
use Rattle.checker_kinds.proofs.Answering.{related_refused, related_fine}
use native.Mathlib.Omega.{arith}
use Rattle.checker_kinds.proofs.Integers.{comparison_told}
use Rattle.checker_kinds.proofs.equations.comparison.Goals as goal

pub returns-then-number-ne0 : goal.returns-then-number-ne0
returns-then-number-ne0 c = λ top. related_refused {n' = c.args.n + 1} c.if-number-ne0.true (comparison_told _ _ _ _ _ _ _ c.both_integers-number.ensures _ (omega arith) top)

pub returns : goal.returns
returns c = λ top. related_fine c.if-number-ne0.false (comparison_told _ _ _ _ _ _ _ c.both_integers-number.ensures _ (omega arith) top)
