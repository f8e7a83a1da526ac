use native.Mathlib.Omega.{arith}
use Rattle.checker_kinds.proofs.FormerLaws.{integer_making, number_ruled}
use Rattle.checker_kinds.proofs.building.number_rule.Goals as goal

pub integer-requires : goal.integer-requires
integer-requires c = integer_making _ _ _ _ _ c.requires (omega arith)

pub returns : goal.returns
returns c = number_ruled _ _ _ _ c.requires c.integer.ensures
