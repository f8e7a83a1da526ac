use Rattle.std.proofs.Common.{[], ◌∙◌}
use Rattle.values.proofs.Holding.{building_none}
use Rattle.enumeration_rules.specs.OnWords.{grow_on}
use Rattle.enumeration.proofs.products.grow.Goals as goal

pub returns : goal.returns
unfolding grow_on
returns c = c.built.ensures _ (c.tuples-b.ensures _ (c.put-a.ensures [] building_none)) ∙ rw (c.from.ensures, c.from-2.ensures, c.word-m.ensures.0, c.word-n.ensures.0)
