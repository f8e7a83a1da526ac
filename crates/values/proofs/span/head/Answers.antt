use Rattle.std.proofs.Common.{rules}
use Rattle.words.proofs.Loops.{tests}
use Rattle.values.proofs.Spans.{head_at}
use Rattle.values.proofs.span.head.Goals as goal

pub returns-then-word-eq-ELEMENT : goal.returns-then-word-eq-ELEMENT
returns-then-word-eq-ELEMENT c =
    let s = c.args in
    (rw (head_at s.w.now s.at, ← c.word.ensures.0) (search tests), search rules)

pub returns : goal.returns
returns c =
    let s = c.args in
    (rw (head_at s.w.now s.at, ← c.word.ensures.0) (search tests), search rules)
