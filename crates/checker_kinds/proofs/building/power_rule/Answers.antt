use Rattle.checker_kinds.proofs.Answering.{derived_refused}
use Rattle.checker_kinds.proofs.PowerRule.{power_asks, power_first, power_second, power_ruled, power_refused}
use Rattle.checker_kinds.proofs.building.power_rule.Goals as goal

pub is_power-number-requires : goal.is_power-number-requires
is_power-number-requires c = power_asks _ _ _ _ _ c.requires

pub power-requires : goal.power-requires
power-requires c = power_first _ _ _ _ _ c.requires _ _ c.is_power-number.ensures c.if-number-ne0.false

pub power-requires-2 : goal.power-requires-2
power-requires-2 c = power_second _ _ _ _ _ c.requires _ _ c.is_power-number.ensures c.if-number-ne0.false _ c.power.ensures

pub returns : goal.returns
returns c = record { is = power_ruled _ _ _ _ _ c.requires _ _ c.is_power-number.ensures c.if-number-ne0.false _ c.power.ensures _ c.power-2.ensures }

pub returns-then-number-ne0 : goal.returns-then-number-ne0
returns-then-number-ne0 c = derived_refused c.if-number-ne0.true (power_refused _ _ _ _ _ c.requires _ _ c.is_power-number.ensures c.if-number-ne0.true)
