use mathlib.Core.Path.{◌≡◌}
use Prim.Native.Nat.{◌≤◌}
use lib.ListN.{length}
use Prim.Native.Nat.{◌+◌, ◌*◌, ◌-◌}
use mathlib.Core.Path.{◌≡◌}
use mathlib.Core.Path.{◌≡◌}
use Prim.Native.Nat.{◌+◌, ◌-◌}
use Prim.Native.Nat.{◌+◌}
use lib.ListN.{length}
use mathlib.Core.Path.{◌≡◌}
use Prim.Native.Nat.{◌+◌, ◌*◌, ◌≤◌}
use lib.ListN.{length}
use Rattle.evaluator_nodes.proofs.EachLaws.{EachLeft}
use Prim.Native.Nat.{◌≤◌}
use Prim.Native.Nat.{◌+◌, ◌*◌, ◌-◌, ◌≤◌}
use Prim.Native.Nat.{◌≤◌}
use lib.ListN.{length}
use Prim.Native.Nat.{◌-◌}
use mathlib.Core.Path.{◌≡◌}
use Rattle.evaluator_nodes.proofs.nodes.+adds_all_apply_arith_assign_below_body_compr_connect_display_each_each_part_expr_factors_lines_member_negate_parts_power_pred_product_quant_reckon_refers_same_subsets_tests_tuple_tuples_turn_value.Given as goal

abbrev pub invariant-each-loop-i : goal.invariant-each-loop-i
invariant-each-loop-i l = (length l.work ≡ length l.initial.work) × (length l.s ≡ length l.initial.s) × (l.at ≤ 160) × EachLeft l.doc l.state l.n l.m l.k l.c l.initial.work l.initial.s l.work l.s l.at (l.c - l.i)

abbrev pub decreases-adds : goal.decreases-adds
decreases-adds l = 1099511627776 * l.k + (256 - l.i)

abbrev pub decreases-all : goal.decreases-all
decreases-all l = 1099511627776 * l.k + 549755813891 + l.c

abbrev pub decreases-apply : goal.decreases-apply
decreases-apply l = 1099511627776 * l.k + 1000

abbrev pub decreases-arith : goal.decreases-arith
decreases-arith l = 1099511627776 * l.k + 1000

abbrev pub decreases-assign : goal.decreases-assign
decreases-assign l = 1099511627776 * l.k + 17179869184 * l.m + 4

abbrev pub decreases-below : goal.decreases-below
decreases-below l = 1099511627776 * l.k + 1000

abbrev pub decreases-body : goal.decreases-body
decreases-body l = 1099511627776 * l.k

abbrev pub decreases-compr : goal.decreases-compr
decreases-compr l = 1099511627776 * l.k + 274877907944

abbrev pub decreases-connect : goal.decreases-connect
decreases-connect l = 1099511627776 * l.k + 1000

abbrev pub decreases-display : goal.decreases-display
decreases-display l = 1099511627776 * l.k + 1000

abbrev pub decreases-each : goal.decreases-each
decreases-each l = 1099511627776 * l.k + 17179869184 * l.m + 5

abbrev pub decreases-each_part : goal.decreases-each_part
decreases-each_part l = 1099511627776 * l.k + (256 - l.i)

abbrev pub decreases-expr : goal.decreases-expr
decreases-expr l = 1099511627776 * l.k + 549755813888

abbrev pub decreases-factors : goal.decreases-factors
decreases-factors l = 1099511627776 * l.k + (256 - l.i)

abbrev pub decreases-lines : goal.decreases-lines
decreases-lines l = 1099511627776 * l.k + 274877906944 + (256 - l.i)

abbrev pub decreases-member : goal.decreases-member
decreases-member l = 1099511627776 * l.k + 1000

abbrev pub decreases-negate : goal.decreases-negate
decreases-negate l = 1099511627776 * l.k + 1000

abbrev pub decreases-parts : goal.decreases-parts
decreases-parts l = 1099511627776 * l.k + (256 - l.i)

abbrev pub decreases-power : goal.decreases-power
decreases-power l = 1099511627776 * l.k + 549755813889

abbrev pub decreases-pred : goal.decreases-pred
decreases-pred l = 1099511627776 * l.k + 549755813888

abbrev pub decreases-product : goal.decreases-product
decreases-product l = 1099511627776 * l.k + 549755813889

abbrev pub decreases-quant : goal.decreases-quant
decreases-quant l = 1099511627776 * l.k + 274877907944

abbrev pub decreases-reckon : goal.decreases-reckon
decreases-reckon l = 1099511627776 * l.k + 549755813889

abbrev pub decreases-refers : goal.decreases-refers
decreases-refers l = 1099511627776 * l.k + 1000

abbrev pub decreases-same : goal.decreases-same
decreases-same l = 1099511627776 * l.k + 1000

abbrev pub decreases-subsets : goal.decreases-subsets
decreases-subsets l = 1099511627776 * l.k + 1000

abbrev pub decreases-tests : goal.decreases-tests
decreases-tests l = 1099511627776 * l.k + 549755813890

abbrev pub decreases-tuple : goal.decreases-tuple
decreases-tuple l = 1099511627776 * l.k + 1000

abbrev pub decreases-tuples : goal.decreases-tuples
decreases-tuples l = 1099511627776 * l.k + 1000

abbrev pub decreases-turn : goal.decreases-turn
decreases-turn l = 1099511627776 * l.k + 1

abbrev pub decreases-value : goal.decreases-value
decreases-value l = 1099511627776 * l.k + 549755813889
