use Rattle.std.proofs.Common.{sym, ◌∙◌, arith}
use Rattle.checker_dictionary.proofs.SpacedLaws.{first_none, first_some}
use Rattle.checker_dictionary.proofs.placing.first.Goals as goal

pub returns-then-word-eq0 : goal.returns-then-word-eq0
returns-then-word-eq0 c = (sym (first_none _ (sym c.word.ensures.0 ∙ c.if-word-eq0.true)), omega arith)

pub returns : goal.returns
returns c = (c.word-2.ensures.0 ∙ sym (first_some _ (λ e. c.if-word-eq0.false (c.word.ensures.0 ∙ e))), c.word-2.ensures.1)
