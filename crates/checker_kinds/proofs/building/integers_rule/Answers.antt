use native.Mathlib.Omega.{arith}
use Rattle.checker_kinds.proofs.FormerLaws.{integer_making, integers_ask, integers_ruled}
use Rattle.checker_kinds.proofs.building.integers_rule.Goals as goal

pub integer-requires : goal.integer-requires
integer-requires c = integer_making _ _ _ _ _ c.requires (omega arith)

pub power-requires : goal.power-requires
power-requires c = integers_ask _ _ _ c.requires _ c.integer.ensures

pub returns : goal.returns
returns c = integers_ruled _ _ _ c.requires _ c.integer.ensures _ c.power.ensures
