use Rattle.checker_pieces.proofs.PowerLaws.{unknown_making, power_requires as power_asked, equal_requires as equal-asked, powered}
use Rattle.checker_pieces.proofs.powers.is_power.Goals as goal

pub new_unknown-requires : goal.new_unknown-requires
new_unknown-requires c = unknown_making _ _ _ _ _ c.requires

pub power-requires : goal.power-requires
power-requires c = power_asked _ _ _ _ _ _ (unknown_making _ _ _ _ _ c.requires) c.new_unknown.ensures c.requires

pub equal-requires : goal.equal-requires
equal-requires c = equal-asked _ _ _ _ _ _ (unknown_making _ _ _ _ _ c.requires) c.new_unknown.ensures c.requires _ c.power.ensures

pub returns : goal.returns
returns c = powered _ _ _ _ _ _ (unknown_making _ _ _ _ _ c.requires) c.new_unknown.ensures c.requires _ c.power.ensures _ _ c.equal.ensures
