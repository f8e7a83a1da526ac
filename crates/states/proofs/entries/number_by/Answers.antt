use Rattle.states.specs.Table.{number_by}
use Rattle.states.proofs.entries.number_by.Goals as goal

pub returns-then-given : goal.returns-then-given
unfolding number_by
returns-then-given c = rw c.if-given.true c.given_by.ensures

pub returns : goal.returns
unfolding number_by
returns c = rw c.if-given.false c.value_by.ensures
