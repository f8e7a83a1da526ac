use Rattle.std.proofs.Common.{arith}
use Rattle.checker_dictionary.specs.Lookup.{type_at}
use Rattle.checker_dictionary.proofs.lookup.type_place.Goals as goal

pub returns : goal.returns
unfolding type_at
returns c = (omega arith, omega arith)
