use borrow.Author.Tests.{lt-ltb, le-ltb, eq-eqb, ne_eqb}
use Rattle.values.specs.Form.{shape_of}
use Rattle.values_forms.proofs.form.shape_of.Goals as goal

pub returns-then-w-lt-HEAD : goal.returns-then-w-lt-HEAD
unfolding shape_of
returns-then-w-lt-HEAD c = rw (lt-ltb _ 2 c.if-w-lt-HEAD.true)

pub returns-then-tag-eq-INTEGER : goal.returns-then-tag-eq-INTEGER
unfolding shape_of
returns-then-tag-eq-INTEGER c = rw (le-ltb _ 2 c.if-w-lt-HEAD.false, ← c.word-tag.ensures.0, eq-eqb _ 1 c.if-tag-eq-INTEGER.true)

pub returns-then-tag-eq-ELEMENT : goal.returns-then-tag-eq-ELEMENT
unfolding shape_of
returns-then-tag-eq-ELEMENT c = rw (le-ltb _ 2 c.if-w-lt-HEAD.false, ← c.word-tag.ensures.0, ne_eqb _ 1 c.if-tag-eq-INTEGER.false, eq-eqb _ 2 c.if-tag-eq-ELEMENT.true) c.element_shape.ensures

pub returns : goal.returns
unfolding shape_of
returns c = rw (le-ltb _ 2 c.if-w-lt-HEAD.false, ← c.word-tag.ensures.0, ne_eqb _ 1 c.if-tag-eq-INTEGER.false, ne_eqb _ 2 c.if-tag-eq-ELEMENT.false, ← c.word.ensures.0) c.group_shape.ensures
