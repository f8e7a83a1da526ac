use Rattle.values.specs.Typed.{whether}
use Rattle.values_forms.proofs.typed.whether.Goals as goal

pub returns-then-b : goal.returns-then-b
unfolding whether
returns-then-b c = rw c.if-b.true

pub returns : goal.returns
unfolding whether
returns c = rw c.if-b.false
