use borrow.Author.Tests.{eq-eqb, ne_eqb}
use Rattle.values.specs.TypeWords.{former_of}
use Rattle.values_forms.proofs.type_words.former_of.Goals as goal

pub returns-then-tag-eq-GIVEN : goal.returns-then-tag-eq-GIVEN
unfolding former_of
returns-then-tag-eq-GIVEN c = rw (← c.word-tag.ensures.0, eq-eqb _ 2 c.if-tag-eq-GIVEN.true)

pub returns-then-tag-eq-POWER : goal.returns-then-tag-eq-POWER
unfolding former_of
returns-then-tag-eq-POWER c = rw (← c.word-tag.ensures.0, ne_eqb _ 2 c.if-tag-eq-GIVEN.false, eq-eqb _ 3 c.if-tag-eq-POWER.true)

pub returns-then-tag-eq-PRODUCT : goal.returns-then-tag-eq-PRODUCT
unfolding former_of
returns-then-tag-eq-PRODUCT c = rw (← c.word-tag.ensures.0, ne_eqb _ 2 c.if-tag-eq-GIVEN.false, ne_eqb _ 3 c.if-tag-eq-POWER.false, eq-eqb _ 4 c.if-tag-eq-PRODUCT.true, ← c.count_of-n.ensures.0)

pub returns-then-tag-eq-BINDING : goal.returns-then-tag-eq-BINDING
unfolding former_of
returns-then-tag-eq-BINDING c = rw (← c.word-tag.ensures.0, ne_eqb _ 2 c.if-tag-eq-GIVEN.false, ne_eqb _ 3 c.if-tag-eq-POWER.false, ne_eqb _ 4 c.if-tag-eq-PRODUCT.false, eq-eqb _ 5 c.if-tag-eq-BINDING.true, ← c.count_of-n-then-tag-eq-BINDING.ensures.0)

pub returns-then-tag-eq-PARAMETER : goal.returns-then-tag-eq-PARAMETER
unfolding former_of
returns-then-tag-eq-PARAMETER c = rw (← c.word-tag.ensures.0, ne_eqb _ 2 c.if-tag-eq-GIVEN.false, ne_eqb _ 3 c.if-tag-eq-POWER.false, ne_eqb _ 4 c.if-tag-eq-PRODUCT.false, ne_eqb _ 5 c.if-tag-eq-BINDING.false, eq-eqb _ 6 c.if-tag-eq-PARAMETER.true)

pub returns : goal.returns
unfolding former_of
returns c = rw (← c.word-tag.ensures.0, ne_eqb _ 2 c.if-tag-eq-GIVEN.false, ne_eqb _ 3 c.if-tag-eq-POWER.false, ne_eqb _ 4 c.if-tag-eq-PRODUCT.false, ne_eqb _ 5 c.if-tag-eq-BINDING.false, ne_eqb _ 6 c.if-tag-eq-PARAMETER.false)
