use borrow.Author.Tests.{lt-ltb, le-ltb}
use Rattle.values.specs.Form.{element_shape}
use Rattle.values_forms.proofs.form.element_shape.Goals as goal

pub returns-then-w-lt-ELEMENT_WORDS : goal.returns-then-w-lt-ELEMENT_WORDS
unfolding element_shape
returns-then-w-lt-ELEMENT_WORDS c = rw (lt-ltb _ 3 c.if-w-lt-ELEMENT_WORDS.true)

pub returns-then-word-size_of : goal.returns-then-word-size_of
unfolding element_shape
returns-then-word-size_of c = rw (le-ltb _ 3 c.if-w-lt-ELEMENT_WORDS.false, ← c.word.ensures.0, ← c.word-2.ensures.0, ← c.size_of.ensures, lt-ltb _ _ c.if-word-size_of.true)

pub returns : goal.returns
unfolding element_shape
returns c = rw (le-ltb _ 3 c.if-w-lt-ELEMENT_WORDS.false, ← c.word.ensures.0, ← c.word-2.ensures.0, ← c.size_of.ensures, le-ltb _ _ c.if-word-size_of.false)
