use borrow.Author.Tests.{le-leb, lt-leb}
use Rattle.values.specs.Form.{is_value}
use Rattle.values_forms.proofs.form.is_value.Goals as goal

pub returns-then-len-lt1 : goal.returns-then-len-lt1
unfolding is_value
returns-then-len-lt1 c = rw (lt-leb 1 _ c.if-len-lt1.true)

pub returns-then-len-gt-VALUE : goal.returns-then-len-gt-VALUE
unfolding is_value
returns-then-len-gt-VALUE c = rw (le-leb 1 _ c.if-len-lt1.false, lt-leb _ 64 c.if-len-gt-VALUE.true)

pub returns : goal.returns
unfolding is_value
returns c = rw (le-leb 1 _ c.if-len-lt1.false, le-leb _ 64 c.if-len-gt-VALUE.false, ← c.value_length.ensures.0)
