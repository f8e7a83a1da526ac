use Rattle.values.specs.Value.{encode, count}
use Rattle.enumeration_rules.specs.Enumeration.{each}
use Rattle.enumeration.proofs.products.unit.Goals as goal

pub returns : goal.returns
unfolding encode each count
returns c = c.hold.ensures
