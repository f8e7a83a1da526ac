use Rattle.values.specs.Sets.{first}
use Rattle.values.proofs.sets.first.Goals as goal

pub returns : goal.returns
unfolding first
returns c = rw (← c.span.ensures.0) c.span-2.ensures
