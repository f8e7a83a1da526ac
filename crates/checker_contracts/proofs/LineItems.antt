-- The items of a line in order: its own, 36 in two cases, 38 in two cases, then those of the lines after it (checker_rules/specs/Rules, lines_items).
use Rattle.checker_rules.specs.Items.{Items}
use Rattle.checker_contracts.proofs.ItemOrder.{Order, only, ◌then◌}

abbrev pub line_order : Items → Items → Items → Items → Items → Order → Order
line_order own agree new sizes count rest = only own then ((only agree then only new) then ((only sizes then only count) then rest))
