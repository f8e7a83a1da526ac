use Rattle.checker_dictionary.specs.Lookup.{parameters_at}
use Rattle.checker_dictionary.proofs.lookup.parameters_of.Goals as goal

pub returns : goal.returns
unfolding parameters_at
returns c = rw (← c.offset.ensures.0) c.word.ensures
