use Rattle.values.specs.Lookup.{value_at}
use Rattle.values.proofs.lookup.value_at.Goals as goal

pub returns-then-in_state : goal.returns-then-in_state
unfolding value_at
returns-then-in_state c = rw c.if-in_state.true c.span.ensures

pub returns : goal.returns
unfolding value_at
returns c = rw c.if-in_state.false c.span-2.ensures
