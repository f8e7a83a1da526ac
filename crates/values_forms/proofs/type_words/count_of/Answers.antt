use native.Mathlib.Omega.{arith}
use borrow.Author.Tests.{le-leb, lt-leb}
use Rattle.values.specs.TypeWords.{count_of}
use Rattle.values_forms.proofs.type_words.count_of.Goals as goal

pub returns-then-n-w : goal.returns-then-n-w
unfolding count_of
returns-then-n-w c = (rw (← c.word-n.ensures.0, le-leb _ _ c.if-n-w.true), omega arith)

pub returns : goal.returns
unfolding count_of
returns c = (rw (← c.word-n.ensures.0, lt-leb _ _ c.if-n-w.false), omega arith)
