use borrow.Author.Tests.{eq-eqb}
use Rattle.words.proofs.Loops.{tests}
use Rattle.states.specs.Table.{value_by}
use Rattle.states.proofs.entries.value_by.Goals as goal

pub returns-then-is_value : goal.returns-then-is_value
unfolding value_by
returns-then-is_value c = rw (← c.word-g.ensures.0, eq-eqb c.word-g.result 0 c.if-g-eq0.true, ← c.part.ensures, ← c.is_value.ensures, c.if-is_value.true)

pub returns-then-g-eq0 : goal.returns-then-g-eq0
unfolding value_by
returns-then-g-eq0 c = rw (← c.word-g.ensures.0, eq-eqb c.word-g.result 0 c.if-g-eq0.true, ← c.part.ensures, ← c.is_value.ensures, c.if-is_value.false)

pub returns : goal.returns
unfolding value_by
returns c = rw (← c.word-g.ensures.0) (search tests)
