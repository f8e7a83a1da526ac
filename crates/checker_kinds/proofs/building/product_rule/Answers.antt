use Rattle.checker_kinds.proofs.Answering.{list_refused}
use native.Mathlib.Omega.{arith}
use Rattle.checker_kinds.proofs.ProductRule.{product_asks, product_ask, product_power, product_ruled, product_refused}
use Rattle.checker_kinds.proofs.building.product_rule.Goals as goal

pub are_powers-number-requires : goal.are_powers-number-requires
are_powers-number-requires c = product_asks _ _ _ _ _ _ c.requires

pub product-requires : goal.product-requires
product-requires c = let p = c.requires.0 in let k = c.count_up.auto.row in product_ask _ _ _ _ _ _ c.requires _ _ c.are_powers-number.ensures c.if-number-ne0.false _ c.count_up.ensures (omega arith)

pub power-requires : goal.power-requires
power-requires c = product_power _ _ _ _ _ _ c.requires _ _ c.are_powers-number.ensures c.if-number-ne0.false _ c.count_up.ensures _ c.product.ensures

pub returns : goal.returns
returns c = record { is = product_ruled _ _ _ _ _ _ c.requires _ _ c.are_powers-number.ensures c.if-number-ne0.false _ c.count_up.ensures _ c.product.ensures _ c.power.ensures }

pub returns-then-number-ne0 : goal.returns-then-number-ne0
returns-then-number-ne0 c = list_refused c.if-number-ne0.true (product_refused _ _ _ _ _ _ c.requires _ _ c.are_powers-number.ensures c.if-number-ne0.true)
