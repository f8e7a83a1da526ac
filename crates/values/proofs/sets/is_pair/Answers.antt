use Rattle.std.proofs.Common.{eq-eqb, ne_eqb}
use Rattle.values.specs.Sets.{is_pair}
use Rattle.values.proofs.sets.is_pair.Goals as goal

pub returns-then-word-eq-TUPLE : goal.returns-then-word-eq-TUPLE
unfolding is_pair
returns-then-word-eq-TUPLE c = rw (← c.word.ensures.0, ← c.word-then-word-eq-TUPLE.ensures.0, eq-eqb _ 4 c.if-word-eq-TUPLE.true)

pub returns : goal.returns
unfolding is_pair
returns c = rw (← c.word.ensures.0, ne_eqb _ 4 c.if-word-eq-TUPLE.false)
