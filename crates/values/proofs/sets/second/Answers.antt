use Rattle.values.specs.Sets.{second, rest}
use Rattle.values.proofs.sets.second.Goals as goal

pub returns : goal.returns
unfolding second rest
returns c = rw (← c.from-parts.ensures, ← c.span-k.ensures.0, ← c.from.ensures, ← c.span-len.ensures.0)
