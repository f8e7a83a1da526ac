use mathlib.Core.Path.{◌∙◌, ap}
use Rattle.std.specs.Ordering.{is_lt}
use Rattle.values.specs.Order.{is_less}
use Rattle.values.specs.Form.{follows}
use Rattle.values_forms.proofs.form.follows.Goals as goal

pub returns-then-ascending : goal.returns-then-ascending
unfolding follows is_less
returns-then-ascending c = rw c.if-ascending.true (c.is_lt.ensures ∙ ap is_lt c.compare.ensures)

pub returns : goal.returns
unfolding follows
returns c = rw c.if-ascending.false
