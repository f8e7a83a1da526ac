use native.Mathlib.Omega.{arith}
use borrow.Author.Tests.{le-leb, lt-leb}
use Rattle.values.specs.TypeWords.{clip}
use Rattle.values_forms.proofs.type_words.clip.Goals as goal

pub returns-then-n-most : goal.returns-then-n-most
unfolding clip
returns-then-n-most c = (rw (le-leb _ _ c.if-n-most.true), omega arith)

pub returns : goal.returns
unfolding clip
returns c = (rw (lt-leb _ _ c.if-n-most.false), omega arith)
