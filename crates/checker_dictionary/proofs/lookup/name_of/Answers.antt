use Rattle.checker_dictionary.specs.Lookup.{name_at}
use Rattle.checker_dictionary.proofs.lookup.name_of.Goals as goal

pub returns : goal.returns
unfolding name_at
returns c = rw (← c.offset.ensures.0) c.word.ensures
