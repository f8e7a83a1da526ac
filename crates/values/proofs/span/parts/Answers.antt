use Rattle.std.proofs.Common.{rules}
use Rattle.words.proofs.Loops.{tests}
use Rattle.values.proofs.Spans.{parts_at}
use Rattle.values.proofs.span.parts.Goals as goal

pub returns-then-word-le-ELEMENT : goal.returns-then-word-le-ELEMENT
returns-then-word-le-ELEMENT c =
    let s = c.args in
    (rw (parts_at s.w.now s.at, ← c.word.ensures.0) (search tests), search rules)

pub returns : goal.returns
returns c =
    let s = c.args in
    (rw (parts_at s.w.now s.at, ← c.word.ensures.0, ← c.word-2.ensures.0) (search tests), c.word-2.ensures.1)
