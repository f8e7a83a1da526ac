use Prim.Native.Nat.{◌+◌, ◌*◌, ◌-◌}
use Rattle.checker_nodes.proofs.nodes.+actuals_apply_arith_brings_compr_conn_decl_expr_group_incl_include_line_lines_opers_power_pred_quant_refer_rel_select_sset_text.Given as goal

abbrev pub decreases-actuals : goal.decreases-actuals
decreases-actuals l = 1024 * l.k + (l.q - l.j)

abbrev pub decreases-apply : goal.decreases-apply
decreases-apply l = 1024 * l.k + 900

abbrev pub decreases-arith : goal.decreases-arith
decreases-arith l = 1024 * l.k + 900

abbrev pub decreases-brings : goal.decreases-brings
decreases-brings l = 1024 * l.k + 900

abbrev pub decreases-compr : goal.decreases-compr
decreases-compr l = 1024 * l.k + 900

abbrev pub decreases-conn : goal.decreases-conn
decreases-conn l = 1024 * l.k + 900

abbrev pub decreases-decl : goal.decreases-decl
decreases-decl l = 1024 * l.k + 900

abbrev pub decreases-expr : goal.decreases-expr
decreases-expr l = 1024 * l.k + 1000

abbrev pub decreases-group : goal.decreases-group
decreases-group l = 1024 * l.k + 900

abbrev pub decreases-incl : goal.decreases-incl
decreases-incl l = 1024 * l.k + 900

abbrev pub decreases-include : goal.decreases-include
decreases-include l = 1024 * l.k + 800

abbrev pub decreases-line : goal.decreases-line
decreases-line l = 1024 * l.k + 1000

abbrev pub decreases-lines : goal.decreases-lines
decreases-lines l = 1024 * l.k + (257 - l.i)

abbrev pub decreases-opers : goal.decreases-opers
decreases-opers l = 1024 * l.k + (257 - l.i)

abbrev pub decreases-power : goal.decreases-power
decreases-power l = 1024 * l.k + 900

abbrev pub decreases-pred : goal.decreases-pred
decreases-pred l = 1024 * l.k + 1000

abbrev pub decreases-quant : goal.decreases-quant
decreases-quant l = 1024 * l.k + 900

abbrev pub decreases-refer : goal.decreases-refer
decreases-refer l = 1024 * l.k + 900

abbrev pub decreases-rel : goal.decreases-rel
decreases-rel l = 1024 * l.k + 900

abbrev pub decreases-select : goal.decreases-select
decreases-select l = 1024 * l.k + 900

abbrev pub decreases-sset : goal.decreases-sset
decreases-sset l = 1024 * l.k + 900

abbrev pub decreases-text : goal.decreases-text
decreases-text l = 1024 * l.k + 900
