use Rattle.words.proofs.Loops.{tests}
use Rattle.states_rules.specs.States.{is_size}
use Rattle.states.proofs.entries.is_size.Goals as goal

pub returns-then-w-eq1 : goal.returns-then-w-eq1
unfolding is_size
returns-then-w-eq1 c = rw (← c.word.ensures.0) (search tests)

pub returns : goal.returns
unfolding is_size
returns c = search tests
