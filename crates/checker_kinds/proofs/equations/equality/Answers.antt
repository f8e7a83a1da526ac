use Rattle.checker_kinds.proofs.Answering.{related_refused, related_fine}
use Rattle.checker_kinds.proofs.Relations.{equality_told}
use Rattle.checker_kinds.proofs.equations.equality.Goals as goal

pub returns-then-number-ne0 : goal.returns-then-number-ne0
returns-then-number-ne0 c = λ top. related_refused {n' = c.args.n} c.if-number-ne0.true (equality_told _ _ _ _ _ _ _ c.equal-number.ensures top)

pub returns : goal.returns
returns c = λ top. related_fine c.if-number-ne0.false (equality_told _ _ _ _ _ _ _ c.equal-number.ensures top)
