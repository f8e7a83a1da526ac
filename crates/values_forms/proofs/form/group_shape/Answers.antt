use Prim.Native.Nat.{◌^◌}
use borrow.Author.Tests.{eq-eqb, ne_eqb, lt-ltb, le-ltb, le-leb, lt-leb}
use Rattle.values.specs.Form.{group_shape}
use Rattle.values_forms.proofs.form.group_shape.Goals as goal

pub returns-then-n-lt-NEGATIVE : goal.returns-then-n-lt-NEGATIVE
unfolding group_shape
returns-then-n-lt-NEGATIVE c = rw (eq-eqb _ 3 c.if-tag-eq-SET.true, lt-ltb _ (2 ^ 31) c.if-n-lt-NEGATIVE.true)

pub returns-then-tag-eq-SET : goal.returns-then-tag-eq-SET
unfolding group_shape
returns-then-tag-eq-SET c = rw (eq-eqb _ 3 c.if-tag-eq-SET.true, le-ltb _ (2 ^ 31) c.if-n-lt-NEGATIVE.false)

pub returns-then-n-lt-FEWEST_PARTS : goal.returns-then-n-lt-FEWEST_PARTS
unfolding group_shape
returns-then-n-lt-FEWEST_PARTS c = rw (ne_eqb _ 3 c.if-tag-eq-SET.false, eq-eqb _ 4 c.if-tag-eq-TUPLE.true, lt-ltb _ 2 c.if-n-lt-FEWEST_PARTS.true)

pub returns-then-n-le-PARTS : goal.returns-then-n-le-PARTS
unfolding group_shape
returns-then-n-le-PARTS c = rw (ne_eqb _ 3 c.if-tag-eq-SET.false, eq-eqb _ 4 c.if-tag-eq-TUPLE.true, le-ltb _ 2 c.if-n-lt-FEWEST_PARTS.false, le-leb _ 6 c.if-n-le-PARTS.true)

pub returns-then-tag-eq-TUPLE : goal.returns-then-tag-eq-TUPLE
unfolding group_shape
returns-then-tag-eq-TUPLE c = rw (ne_eqb _ 3 c.if-tag-eq-SET.false, eq-eqb _ 4 c.if-tag-eq-TUPLE.true, le-ltb _ 2 c.if-n-lt-FEWEST_PARTS.false, lt-leb _ 6 c.if-n-le-PARTS.false)

pub returns : goal.returns
unfolding group_shape
returns c = rw (ne_eqb _ 3 c.if-tag-eq-SET.false, ne_eqb _ 4 c.if-tag-eq-TUPLE.false)
