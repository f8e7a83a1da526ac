use Rattle.std.proofs.Common.{sym, ◌∙◌, arith}
use Rattle.checker_dictionary.proofs.Places.{size_none, size_some}
use Rattle.checker_dictionary.proofs.growth.size.Goals as goal

pub returns-then-n-eq0 : goal.returns-then-n-eq0
returns-then-n-eq0 c = (sym (size_none _ (sym c.word-n.ensures.0 ∙ c.if-n-eq0.true)), omega arith)

pub returns : goal.returns
returns c =
    let s = size_some c.args.d.now c.word-n.result (sym c.word-n.ensures.0) c.if-n-eq0.false in
    (sym (s ∙ rw (← c.word.ensures.0, ← c.word-2.ensures.0)), omega arith)
