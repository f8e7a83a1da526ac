use Rattle.checker_kinds.proofs.Answering.{list_refused}
use Rattle.checker_kinds.proofs.SetRule.{set_unknown, set_members, set_power, set_ruled, set_refused}
use Rattle.checker_kinds.proofs.building.set_rule.Goals as goal

pub new_unknown-requires : goal.new_unknown-requires
new_unknown-requires c = set_unknown _ _ _ _ _ _ c.requires

pub all_equal-number-requires : goal.all_equal-number-requires
all_equal-number-requires c = set_members _ _ _ _ _ _ c.requires _ c.new_unknown.ensures

pub power-requires : goal.power-requires
power-requires c = set_power _ _ _ _ _ _ c.requires _ c.new_unknown.ensures _ _ c.all_equal-number.ensures c.if-number-ne0.false

pub returns : goal.returns
returns c = record { is = set_ruled _ _ _ _ _ _ c.requires _ c.new_unknown.ensures _ _ c.all_equal-number.ensures c.if-number-ne0.false _ c.power.ensures }

pub returns-then-number-ne0 : goal.returns-then-number-ne0
returns-then-number-ne0 c = list_refused c.if-number-ne0.true (set_refused _ _ _ _ _ _ c.requires _ c.new_unknown.ensures _ _ c.all_equal-number.ensures c.if-number-ne0.true)
