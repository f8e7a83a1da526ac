use borrow.Author.Tests.{eq-eqb, ne_eqb}
use Rattle.values.specs.Typed.{test_of}
use Rattle.values_forms.proofs.typed.test_of.Goals as goal

pub returns-then-tag-word : goal.returns-then-tag-word
unfolding test_of
returns-then-tag-word c = rw (← c.word-tag.ensures.0, ← c.word.ensures.0, ne_eqb _ _ c.if-tag-word.true)

pub returns-then-tag-eq-INTEGERS : goal.returns-then-tag-eq-INTEGERS
unfolding test_of
returns-then-tag-eq-INTEGERS c = rw (← c.word-tag.ensures.0, ← c.word.ensures.0, eq-eqb _ _ c.if-tag-word.false, eq-eqb _ 1 c.if-tag-eq-INTEGERS.true)

pub returns-then-tag-eq-GIVEN : goal.returns-then-tag-eq-GIVEN
unfolding test_of
returns-then-tag-eq-GIVEN c = rw (← c.word-tag.ensures.0, ← c.word.ensures.0, eq-eqb _ _ c.if-tag-word.false, ne_eqb _ 1 c.if-tag-eq-INTEGERS.false, eq-eqb _ 2 c.if-tag-eq-GIVEN.true, ← c.word-n.ensures.0, ← c.word-then-tag-eq-GIVEN.ensures.0) c.whether.ensures

pub returns-then-tag-eq-POWER : goal.returns-then-tag-eq-POWER
unfolding test_of
returns-then-tag-eq-POWER c = rw (← c.word-tag.ensures.0, ← c.word.ensures.0, eq-eqb _ _ c.if-tag-word.false, ne_eqb _ 1 c.if-tag-eq-INTEGERS.false, ne_eqb _ 2 c.if-tag-eq-GIVEN.false, eq-eqb _ 3 c.if-tag-eq-POWER.true, ← c.word-n.ensures.0)

pub returns-then-word-n : goal.returns-then-word-n
unfolding test_of
returns-then-word-n c = rw (← c.word-tag.ensures.0, ← c.word.ensures.0, eq-eqb _ _ c.if-tag-word.false, ne_eqb _ 1 c.if-tag-eq-INTEGERS.false, ne_eqb _ 2 c.if-tag-eq-GIVEN.false, ne_eqb _ 3 c.if-tag-eq-POWER.false, eq-eqb _ 4 c.if-tag-eq-PRODUCT.true, ← c.word-n.ensures.0, ← c.word-then-tag-eq-PRODUCT.ensures.0, eq-eqb _ _ c.if-word-n.true)

pub returns-then-tag-eq-PRODUCT : goal.returns-then-tag-eq-PRODUCT
unfolding test_of
returns-then-tag-eq-PRODUCT c = rw (← c.word-tag.ensures.0, ← c.word.ensures.0, eq-eqb _ _ c.if-tag-word.false, ne_eqb _ 1 c.if-tag-eq-INTEGERS.false, ne_eqb _ 2 c.if-tag-eq-GIVEN.false, ne_eqb _ 3 c.if-tag-eq-POWER.false, eq-eqb _ 4 c.if-tag-eq-PRODUCT.true, ← c.word-n.ensures.0, ← c.word-then-tag-eq-PRODUCT.ensures.0, ne_eqb _ _ c.if-word-n.false)

pub returns : goal.returns
unfolding test_of
returns c = rw (← c.word-tag.ensures.0, ← c.word.ensures.0, eq-eqb _ _ c.if-tag-word.false, ne_eqb _ 1 c.if-tag-eq-INTEGERS.false, ne_eqb _ 2 c.if-tag-eq-GIVEN.false, ne_eqb _ 3 c.if-tag-eq-POWER.false, ne_eqb _ 4 c.if-tag-eq-PRODUCT.false)
