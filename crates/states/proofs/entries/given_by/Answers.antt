use borrow.Author.Tests.{ne_eqb}
use Rattle.words.proofs.Loops.{tests}
use Rattle.states.specs.Table.{given_by}
use Rattle.states.proofs.entries.given_by.Goals as goal

pub returns-then-g-eq0 : goal.returns-then-g-eq0
unfolding given_by
returns-then-g-eq0 c = rw (← c.word-g.ensures.0) (search tests)

pub returns-then-is_size : goal.returns-then-is_size
unfolding given_by
returns-then-is_size c = rw (← c.word-g.ensures.0, ne_eqb c.word-g.result 0 c.if-g-eq0.false, ← c.part.ensures, ← c.is_size.ensures, c.if-is_size.true)

pub returns : goal.returns
unfolding given_by
returns c = rw (← c.word-g.ensures.0, ne_eqb c.word-g.result 0 c.if-g-eq0.false, ← c.part.ensures, ← c.is_size.ensures, c.if-is_size.false)
