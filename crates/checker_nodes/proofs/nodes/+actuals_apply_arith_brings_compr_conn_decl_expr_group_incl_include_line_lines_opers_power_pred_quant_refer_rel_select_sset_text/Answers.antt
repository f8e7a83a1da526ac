use mathlib.Core.Path.{◌∙◌}
use native.Mathlib.Omega.{arith}
use Prim.Native.Nat.{◌<◌}
use Rattle.checker_nodes.proofs.ActualNodes.{actual_lower, node_actuals_none, node_actual_ask, node_actual_asked, node_actual_refused, node_actuals_next, node_actuals_done}
use mathlib.Core.Path.{refl}
use Rattle.checker_kinds.specs.Equations.{apply_items}
use Rattle.checker_nodes.proofs.ExprNodes.{ruled_done, visit_done}
use Rattle.checker_nodes.proofs.ExprNodes.{apply_node, joining_start, joining_stop, joining_then_start, joining_then_stop, joining_rule, joining_end}
use Rattle.checker_kinds.specs.Equations.{arithmetic_items}
use Rattle.checker_nodes.proofs.ExprNodes.{arithmetic_node, joining_start, joining_stop, joining_then_start, joining_then_stop, joining_rule, joining_end}
use mathlib.Core.Path.{refl, sym}
use Rattle.checker_contracts.proofs.Bringing.{brings_ask}
use Rattle.checker_nodes.proofs.BringsNodes.{node_brings_brought, node_brings_told}
use mathlib.Core.Path.{refl, ◌∙◌}
use Rattle.checker_nodes.proofs.WaitingNodes.{compr_node, compr_save, compr_text, compr_stop, compr_restore, compr_rows, compr_body, compr_then_stop, compr_rule, compr_end}
use lib.ListN.{get_or}
use Rattle.checker_nodes.proofs.PredLaws.{at_first, at_first_stopped, at_second, at_connected}
use Rattle.checker_nodes.proofs.DeclNodes.{node_decl_lower, node_decl_ask, node_decl_asked, node_decl_told}
use mathlib.Core.Logic.{⊎_elim}
use Rattle.reader_rules.proofs.TreeExpr.{expr_range}
use Rattle.checker_nodes.proofs.ExprNodes.{handed_node, past}
use Rattle.checker_nodes.proofs.ListNodes.{node_kind}
use Rattle.checker_nodes.proofs.WaitingNodes.{number_rule, number_end, integers_rule, integers_end, theta_asked, theta_end}
use Rattle.checker_nodes.proofs.ExprNodes.{node_word}
use Rattle.checker_nodes.proofs.ExprNodes.{last_kind_low, last_kind}
use mathlib.Core.Path.{refl, sym, ◌∙◌}
use Rattle.checker_kinds.specs.Formers.{set_items, tuple_items, product_items}
use Rattle.checker_nodes.proofs.ListNodes.{group_any, set_node, tuple_node, product_node, node_kind, third_kind, listing_start, listing_stop, listing_size, listing_operate, listing_build, listing_end}
use Rattle.checker_nodes.proofs.InclNodes.{node_incl_at, node_incl_ask, node_incl_included, node_incl_told}
use Rattle.checker_nodes.proofs.NamedNodes.{schema_found, node_schema_refused, node_schema_actuals, node_schema_named, node_schema_told}
use mathlib.Core.Path.{refl, sym, ◌∙◌}
use Rattle.checker_nodes.proofs.LineNodes.{kind_of, not_eleven}
use Rattle.checker_nodes.proofs.NodeWords.{node_of}
use mathlib.Core.Path.{refl}
use Rattle.checker_nodes.proofs.LineNodes.{lines_few, line_lower, node_lines_none, node_line_ask, node_line_refused, node_lines_ask, node_lines_then}
use mathlib.Core.Path.{sym, subst}
use Rattle.reader_rules.specs.Kinds.{expressions}
use Rattle.reader_rules.specs.Promise.{Lower}
use Rattle.checker_nodes.proofs.ListNodes.{few_words, opers_space, opers_none, opers_start, opers_stop, opers_cell, opers_next, opers_end}
use Rattle.checker_kinds.specs.Formers.{power_rule_items}
use Rattle.checker_nodes.proofs.ExprNodes.{power_node, over_start, over_stop, over_rule, over_end}
use Prim.Native.Nat.{◌≤◌}
use Rattle.reader_rules.specs.Nodes.{kind_at}
use Rattle.reader_rules.proofs.TreePred.{pred_range}
use Rattle.checker_nodes.proofs.PredLaws.{beyond, at_truth, at_not_ask, at_not}
use Rattle.checker_nodes.proofs.NodeWords.{node_of, kind_at_lem}
use Rattle.checker_nodes.proofs.PredLaws.{pred_told}
use Rattle.checker_nodes.proofs.QuantLaws.{at_text, at_text_stopped, at_body, at_body_stopped, at_quantified}
use Rattle.checker_nodes.proofs.ListNodes.{reference_node, listing_start, listing_stop, listing_refer, listing_referred}
use Rattle.checker_nodes.proofs.RelLaws.{at_left, at_left_stopped, at_right, at_relation_asked, at_relation_told}
use Rattle.checker_kinds.specs.Equations.{select_items}
use Rattle.checker_nodes.proofs.ExprNodes.{select_node, over_start, over_stop, over_rule, over_end}
use Rattle.checker_nodes.proofs.WaitingNodes.{sset_node, sset_save, sset_include, sset_stop, sset_restore, sset_rule, sset_end}
use Rattle.checker_nodes.proofs.TextLaws.{text_told, each_line, at_lines, at_lines_stopped, at_push, at_text_body, at_text_refused, at_text_done}
use Rattle.checker_nodes.proofs.nodes.+actuals_apply_arith_brings_compr_conn_decl_expr_group_incl_include_line_lines_opers_power_pred_quant_refer_rel_select_sset_text.Goals as goal

pub actuals-lined_at-requires : goal.actuals-lined_at-requires
actuals-lined_at-requires t c =
    let z = c.requires.0.at.small in
    omega arith

pub actuals-returns-then-q-j : goal.actuals-returns-then-q-j
actuals-returns-then-q-j t c = node_actuals_none c.args.j c.args.q c.requires.0 c.requires.3 c.if-q-j.true c.lined_at.ensures

pub actuals-overflow_add-j : goal.actuals-overflow_add-j
actuals-overflow_add-j t c =
    let z = c.if-q-j.false in
    let y = c.requires.1 in
    omega arith

pub actuals-expr-x-requires : goal.actuals-expr-x-requires
actuals-expr-x-requires t c =
    let z = c.if-q-j.false in
    let l : c.args.j < c.args.q = omega arith in
    let L = actual_lower c.args.doc.now c.args.p.now c.args.k c.args.j c.args.q c.requires.2 c.word.ensures.0 l in
    let x = L.below in
    let y = c.decreases in
    (omega arith, (L.at, node_actual_ask c.args.j c.args.q c.requires.0 c.requires.3 _ c.word.ensures.0 l (actual_lower c.args.doc.now c.args.p.now c.args.k c.args.j c.args.q c.requires.2 c.word.ensures.0 l)))

pub actuals-actual-r-requires : goal.actuals-actual-r-requires
actuals-actual-r-requires t c =
    let z = c.if-q-j.false in
    let l : c.args.j < c.args.q = omega arith in
    node_actual_asked c.args.j c.args.q c.requires.0 c.requires.3 _ c.word.ensures.0 l (actual_lower c.args.doc.now c.args.p.now c.args.k c.args.j c.args.q c.requires.2 c.word.ensures.0 l) c.expr-x.ensures

pub actuals-returns-then-r-ne0 : goal.actuals-returns-then-r-ne0
actuals-returns-then-r-ne0 t c =
    let z = c.if-q-j.false in
    let l : c.args.j < c.args.q = omega arith in
    node_actual_refused c.args.j c.args.q c.requires.0 c.requires.3 _ c.word.ensures.0 l (actual_lower c.args.doc.now c.args.p.now c.args.k c.args.j c.args.q c.requires.2 c.word.ensures.0 l) c.expr-x.ensures _ c.actual-r.ensures c.if-r-ne0.true

pub actuals-overflow_add-j-2 : goal.actuals-overflow_add-j-2
actuals-overflow_add-j-2 t c =
    let z = c.if-q-j.false in
    let y = c.requires.1 in
    omega arith

pub actuals-actuals-requires : goal.actuals-actuals-requires
actuals-actuals-requires t c =
    let z = c.if-q-j.false in
    let l : c.args.j < c.args.q = omega arith in
    let y = c.decreases in
    (omega arith, (c.requires.0, c.requires.1, c.requires.2, node_actuals_next c.args.j c.args.q c.requires.0 c.requires.3 _ c.word.ensures.0 l (actual_lower c.args.doc.now c.args.p.now c.args.k c.args.j c.args.q c.requires.2 c.word.ensures.0 l) c.expr-x.ensures _ c.actual-r.ensures c.if-r-ne0.false))

pub actuals-shape_of-a : goal.actuals-shape_of-a
actuals-shape_of-a t c = c.actuals.auto.a ∙ c.actual-r.auto.a ∙ c.expr-x.auto.a

pub actuals-shape_of-w : goal.actuals-shape_of-w
actuals-shape_of-w t c = c.actuals.auto.w ∙ c.actual-r.auto.w ∙ c.expr-x.auto.w

pub actuals-returns : goal.actuals-returns
actuals-returns t c =
    let z = c.if-q-j.false in
    let l : c.args.j < c.args.q = omega arith in
    node_actuals_done c.args.j c.args.q c.requires.0 c.requires.3 _ c.word.ensures.0 l (actual_lower c.args.doc.now c.args.p.now c.args.k c.args.j c.args.q c.requires.2 c.word.ensures.0 l) c.expr-x.ensures _ c.actual-r.ensures c.if-r-ne0.false c.actuals.ensures

pub apply-expr-x-requires : goal.apply-expr-x-requires
apply-expr-x-requires t c = let K = c.requires.2 in let O = apply_node c.requires.0 _ c.word.ensures.0 _ refl c.requires.1 in let x = O.left.below in let y = c.decreases in (omega arith, (O.left.at, joining_start apply_items O K))

pub apply-returns-then-x-ne0 : goal.apply-returns-then-x-ne0
apply-returns-then-x-ne0 t c = let K = c.requires.2 in let O = apply_node c.requires.0 _ c.word.ensures.0 _ refl c.requires.1 in joining_stop apply_items O K c.expr-x.ensures c.if-x-ne0.true

pub apply-expr-y-requires : goal.apply-expr-y-requires
apply-expr-y-requires t c = let K = c.requires.2 in let O = apply_node c.requires.0 _ c.word.ensures.0 _ c.word-2.ensures.0 c.requires.1 in let x = O.right.below in let y = c.decreases in (omega arith, (O.right.at, joining_then_start apply_items O K c.expr-x.ensures c.if-x-ne0.false))

pub apply-returns-then-y-ne0 : goal.apply-returns-then-y-ne0
apply-returns-then-y-ne0 t c = let K = c.requires.2 in let O = apply_node c.requires.0 _ c.word.ensures.0 _ c.word-2.ensures.0 c.requires.1 in joining_then_stop apply_items O K c.expr-x.ensures c.if-x-ne0.false c.expr-y.ensures c.if-y-ne0.true

pub apply-apply_rule-r-requires : goal.apply-apply_rule-r-requires
apply-apply_rule-r-requires t c = let K = c.requires.2 in let O = apply_node c.requires.0 _ c.word.ensures.0 _ c.word-2.ensures.0 c.requires.1 in joining_rule apply_items O K c.expr-x.ensures c.if-x-ne0.false c.expr-y.ensures c.if-y-ne0.false 4 (omega arith)

pub apply-ruled_at-requires : goal.apply-ruled_at-requires
apply-ruled_at-requires t c = let z = c.requires.0.at.small in omega arith

pub apply-shape_of-a : goal.apply-shape_of-a
apply-shape_of-a t c = c.apply_rule-r.auto.a ∙ c.expr-y.auto.a ∙ c.expr-x.auto.a

pub apply-shape_of-w : goal.apply-shape_of-w
apply-shape_of-w t c = c.expr-y.auto.w ∙ c.expr-x.auto.w

pub apply-returns : goal.apply-returns
apply-returns t c = let K = c.requires.2 in let O = apply_node c.requires.0 _ c.word.ensures.0 _ c.word-2.ensures.0 c.requires.1 in ruled_done c.apply_rule-r.result c.ruled_at.ensures c.apply_rule-r.ensures (λ number g R. joining_end apply_items O K c.expr-x.ensures c.if-x-ne0.false c.expr-y.ensures c.if-y-ne0.false (omega arith) c.apply_rule-r.auto.a R)

pub arith-expr-x-requires : goal.arith-expr-x-requires
arith-expr-x-requires t c = let K = c.requires.3 in let O = arithmetic_node c.requires.0 _ c.word.ensures.0 _ refl c.requires.1 c.requires.2 in let x = O.left.below in let y = c.decreases in (omega arith, (O.left.at, joining_start arithmetic_items O K))

pub arith-returns-then-x-ne0 : goal.arith-returns-then-x-ne0
arith-returns-then-x-ne0 t c = let K = c.requires.3 in let O = arithmetic_node c.requires.0 _ c.word.ensures.0 _ refl c.requires.1 c.requires.2 in joining_stop arithmetic_items O K c.expr-x.ensures c.if-x-ne0.true

pub arith-expr-y-requires : goal.arith-expr-y-requires
arith-expr-y-requires t c = let K = c.requires.3 in let O = arithmetic_node c.requires.0 _ c.word.ensures.0 _ c.word-2.ensures.0 c.requires.1 c.requires.2 in let x = O.right.below in let y = c.decreases in (omega arith, (O.right.at, joining_then_start arithmetic_items O K c.expr-x.ensures c.if-x-ne0.false))

pub arith-returns-then-y-ne0 : goal.arith-returns-then-y-ne0
arith-returns-then-y-ne0 t c = let K = c.requires.3 in let O = arithmetic_node c.requires.0 _ c.word.ensures.0 _ c.word-2.ensures.0 c.requires.1 c.requires.2 in joining_then_stop arithmetic_items O K c.expr-x.ensures c.if-x-ne0.false c.expr-y.ensures c.if-y-ne0.true

pub arith-arithmetic_rule-r-requires : goal.arith-arithmetic_rule-r-requires
arith-arithmetic_rule-r-requires t c = let K = c.requires.3 in let O = arithmetic_node c.requires.0 _ c.word.ensures.0 _ c.word-2.ensures.0 c.requires.1 c.requires.2 in joining_rule arithmetic_items O K c.expr-x.ensures c.if-x-ne0.false c.expr-y.ensures c.if-y-ne0.false 1 (omega arith)

pub arith-ruled_at-requires : goal.arith-ruled_at-requires
arith-ruled_at-requires t c = let z = c.requires.0.at.small in omega arith

pub arith-shape_of-a : goal.arith-shape_of-a
arith-shape_of-a t c = c.arithmetic_rule-r.auto.a ∙ c.expr-y.auto.a ∙ c.expr-x.auto.a

pub arith-shape_of-w : goal.arith-shape_of-w
arith-shape_of-w t c = c.expr-y.auto.w ∙ c.expr-x.auto.w

pub arith-returns : goal.arith-returns
arith-returns t c = let K = c.requires.3 in let O = arithmetic_node c.requires.0 _ c.word.ensures.0 _ c.word-2.ensures.0 c.requires.1 c.requires.2 in ruled_done c.arithmetic_rule-r.result c.ruled_at.ensures c.arithmetic_rule-r.ensures (λ number g R. joining_end arithmetic_items O K c.expr-x.ensures c.if-x-ne0.false c.expr-y.ensures c.if-y-ne0.false (omega arith) c.arithmetic_rule-r.auto.a R)

pub brings-slice_bounds-include-end : goal.brings-slice_bounds-include-end
brings-slice_bounds-include-end t c = refl

pub brings-include-i-requires : goal.brings-include-i-requires
brings-include-i-requires t c =
    let m = c.decreases in
    (omega arith, (record { at = c.requires.0; words = c.part-p.ensures }, brings_ask _ _ _ _ _ _ _ c.requires.1 _ refl))

pub brings-slice_bounds-brought-end : goal.brings-slice_bounds-brought-end
brings-slice_bounds-brought-end t c = search sym

pub brings-brought-requires : goal.brings-brought-requires
brings-brought-requires t c = node_brings_brought c.requires.0 c.part-p.ensures c.requires.1 c.include-i.ensures

pub brings-returns : goal.brings-returns
brings-returns t c = node_brings_told c.requires.0 c.part-p.ensures c.requires.1 c.include-i.ensures c.brought.ensures

pub compr-save-e-requires : goal.compr-save-e-requires
compr-save-e-requires t c = let N = c.requires.0 in let K = c.requires.2 in let O = compr_node N c.requires.1 _ refl _ refl in compr_save O K

pub compr-text-t-requires : goal.compr-text-t-requires
compr-text-t-requires t c = let N = c.requires.0 in let K = c.requires.2 in let O = compr_node N c.requires.1 _ c.word.ensures.0 _ refl in let x = O.text.below in let y = c.decreases in (omega arith, (O.text.at, compr_text O K c.save-e.ensures))

pub compr-returns-then-t-ne0 : goal.compr-returns-then-t-ne0
compr-returns-then-t-ne0 t c = let N = c.requires.0 in let K = c.requires.2 in let O = compr_node N c.requires.1 _ c.word.ensures.0 _ refl in compr_stop O K c.save-e.ensures c.text-t.ensures c.if-t-ne0.true c.unvisited.ensures

pub compr-restore-requires : goal.compr-restore-requires
compr-restore-requires t c = let N = c.requires.0 in let K = c.requires.2 in let O = compr_node N c.requires.1 _ c.word.ensures.0 _ refl in compr_restore O K c.save-e.ensures c.text-t.ensures c.if-t-ne0.false

pub compr-overflow_add-rows : goal.compr-overflow_add-rows
compr-overflow_add-rows t c = let N = c.requires.0 in let K = c.requires.2 in let O = compr_node N c.requires.1 _ c.word.ensures.0 _ refl in let x = compr_rows O K c.save-e.ensures c.text-t.ensures c.if-t-ne0.false in omega arith

pub compr-expr-x-requires : goal.compr-expr-x-requires
compr-expr-x-requires t c = let N = c.requires.0 in let K = c.requires.2 in let O = compr_node N c.requires.1 _ c.word.ensures.0 _ c.word-2.ensures.0 in let x = O.body.below in let y = c.decreases in (omega arith, (O.body.at, compr_body O K c.save-e.ensures c.text-t.ensures c.if-t-ne0.false c.restore.ensures))

pub compr-shape_of-a-then-x-ne0 : goal.compr-shape_of-a-then-x-ne0
compr-shape_of-a-then-x-ne0 t c = c.expr-x.auto.a ∙ c.restore.auto.a ∙ c.text-t.auto.a

pub compr-shape_of-w-then-x-ne0 : goal.compr-shape_of-w-then-x-ne0
compr-shape_of-w-then-x-ne0 t c = c.expr-x.auto.w ∙ c.text-t.auto.w ∙ c.save-e.auto.out

pub compr-returns-then-x-ne0 : goal.compr-returns-then-x-ne0
compr-returns-then-x-ne0 t c = let N = c.requires.0 in let K = c.requires.2 in let O = compr_node N c.requires.1 _ c.word.ensures.0 _ c.word-2.ensures.0 in compr_then_stop O K c.save-e.ensures c.text-t.ensures c.if-t-ne0.false c.restore.ensures c.expr-x.ensures c.if-x-ne0.true

pub compr-comprehension_rule-r-requires : goal.compr-comprehension_rule-r-requires
compr-comprehension_rule-r-requires t c = let N = c.requires.0 in let K = c.requires.2 in let O = compr_node N c.requires.1 _ c.word.ensures.0 _ c.word-2.ensures.0 in compr_rule O K c.save-e.ensures c.text-t.ensures c.if-t-ne0.false c.restore.ensures c.expr-x.ensures c.if-x-ne0.false 1 (omega arith)

pub compr-visit_at-requires : goal.compr-visit_at-requires
compr-visit_at-requires t c = let z = c.requires.0.at.small in omega arith

pub compr-shape_of-a : goal.compr-shape_of-a
compr-shape_of-a t c = c.comprehension_rule-r.auto.a ∙ c.expr-x.auto.a ∙ c.restore.auto.a ∙ c.text-t.auto.a

pub compr-shape_of-w : goal.compr-shape_of-w
compr-shape_of-w t c = c.expr-x.auto.w ∙ c.text-t.auto.w ∙ c.save-e.auto.out

pub compr-returns : goal.compr-returns
compr-returns t c = let N = c.requires.0 in let K = c.requires.2 in let O = compr_node N c.requires.1 _ c.word.ensures.0 _ c.word-2.ensures.0 in compr_end O K c.save-e.ensures c.text-t.ensures c.if-t-ne0.false c.restore.ensures c.expr-x.ensures c.if-x-ne0.false (omega arith) c.comprehension_rule-r.auto.a (c.comprehension_rule-r.ensures _) c.visit_at.ensures

pub conn-pred-x-requires : goal.conn-pred-x-requires
conn-pred-x-requires t c =
    let o = at_first c.requires.0 c.requires.3 c.requires.1 c.requires.2 _ (get_or c.args.p.now 2 0) c.word.ensures.0 refl in
    let x = o.0.below in
    let m = c.decreases in
    (omega arith, (o.0.at, o.1))

pub conn-returns-then-x-ne0 : goal.conn-returns-then-x-ne0
conn-returns-then-x-ne0 t c = at_first_stopped c.requires.0 c.requires.3 c.requires.1 c.requires.2 _ (get_or c.args.p.now 2 0) c.word.ensures.0 refl c.pred-x.ensures c.if-x-ne0.true

pub conn-pred-requires : goal.conn-pred-requires
conn-pred-requires t c =
    let o = at_second c.requires.0 c.requires.3 c.requires.1 c.requires.2 _ _ c.word.ensures.0 c.word-2.ensures.0 c.pred-x.ensures c.if-x-ne0.false c.pred-x.auto.a in
    let x = o.0.below in
    let m = c.decreases in
    (omega arith, (o.0.at, o.1))

pub conn-returns : goal.conn-returns
conn-returns t c = at_connected c.requires.0 c.requires.3 c.requires.1 c.requires.2 _ _ c.word.ensures.0 c.word-2.ensures.0 c.pred-x.ensures c.if-x-ne0.false c.pred.ensures

pub decl-expr-x-requires : goal.decl-expr-x-requires
decl-expr-x-requires t c =
    let L = node_decl_lower c.requires.0 c.requires.1 _ c.word.ensures.0 c.requires.2 c.args.global in
    let x = L.below in
    let y = c.decreases in
    (omega arith, (L.at, node_decl_ask c.requires.0 c.requires.1 _ c.word.ensures.0 c.requires.2 c.args.global))

pub decl-declared-requires : goal.decl-declared-requires
decl-declared-requires t c = node_decl_asked c.requires.0 c.requires.1 _ c.word.ensures.0 c.requires.2 c.args.global c.expr-x.ensures

pub decl-returns : goal.decl-returns
decl-returns t c = node_decl_told c.requires.0 c.requires.1 _ c.word.ensures.0 c.requires.2 c.args.global c.expr-x.ensures _ c.declared.ensures

pub expr-refer-requires : goal.expr-refer-requires
expr-refer-requires t c = let y = c.decreases in let N = handed_node c.requires.0 c.part-p.ensures in let K = c.requires.1 in let w = node_kind N _ c.word-q.ensures.0 in (omega arith, (N, w ∙ c.in-30.is, K))

pub expr-number_rule-r-requires : goal.expr-number_rule-r-requires
expr-number_rule-r-requires t c = let y = c.decreases in let N = handed_node c.requires.0 c.part-p.ensures in let K = c.requires.1 in let w = node_kind N _ c.word-q.ensures.0 in number_rule c.requires.0 K (w ∙ c.in-31.is) 1 (omega arith)

pub expr-visit_at-requires : goal.expr-visit_at-requires
expr-visit_at-requires t c = let z = c.requires.0.small in omega arith

pub expr-integers_rule-r-requires : goal.expr-integers_rule-r-requires
expr-integers_rule-r-requires t c = let y = c.decreases in let N = handed_node c.requires.0 c.part-p.ensures in let K = c.requires.1 in let w = node_kind N _ c.word-q.ensures.0 in integers_rule c.requires.0 K (w ∙ c.in-32.is) 2 (omega arith)

pub expr-visit_at-requires-in-32 : goal.expr-visit_at-requires-in-32
expr-visit_at-requires-in-32 t c = let z = c.requires.0.small in omega arith

pub expr-power-requires : goal.expr-power-requires
expr-power-requires t c = let y = c.decreases in let N = handed_node c.requires.0 c.part-p.ensures in let K = c.requires.1 in let w = node_kind N _ c.word-q.ensures.0 in (omega arith, (N, w ∙ c.in-36.is, K))

pub expr-apply-requires : goal.expr-apply-requires
expr-apply-requires t c = let y = c.decreases in let N = handed_node c.requires.0 c.part-p.ensures in let K = c.requires.1 in let w = node_kind N _ c.word-q.ensures.0 in (omega arith, (N, w ∙ c.in-37.is, K))

pub expr-select-requires : goal.expr-select-requires
expr-select-requires t c = let y = c.decreases in let N = handed_node c.requires.0 c.part-p.ensures in let K = c.requires.1 in let w = node_kind N _ c.word-q.ensures.0 in (omega arith, (N, w ∙ c.in-38.is, K))

pub expr-theta_rule-r-requires : goal.expr-theta_rule-r-requires
expr-theta_rule-r-requires t c = let y = c.decreases in let N = handed_node c.requires.0 c.part-p.ensures in let K = c.requires.1 in let w = node_kind N _ c.word-q.ensures.0 in let i = node_word N 1 _ c.word.ensures.0 in let j = node_word N 2 _ c.word-in-39.ensures.0 in theta_asked c.requires.0 K (w ∙ c.in-39.is) _ _ i j

pub expr-ruled_at-requires : goal.expr-ruled_at-requires
expr-ruled_at-requires t c = let z = c.requires.0.small in omega arith

pub expr-sset-requires : goal.expr-sset-requires
expr-sset-requires t c = let y = c.decreases in let N = handed_node c.requires.0 c.part-p.ensures in let K = c.requires.1 in let w = node_kind N _ c.word-q.ensures.0 in (omega arith, (N, w ∙ c.in-40.is, K))

pub expr-group-requires : goal.expr-group-requires
expr-group-requires t c = let y = c.decreases in let N = handed_node c.requires.0 c.part-p.ensures in let K = c.requires.1 in let w = node_kind N _ c.word-q.ensures.0 in let a = past _ 32 (past _ 31 (past _ 30 c.in-33-to-35.if-q-lt30-own.false c.in-33-to-35.in_default-own.rest.0.0.0.0.0.0.0.1) c.in-33-to-35.in_default-own.rest.0.0.0.0.0.0.1) c.in-33-to-35.in_default-own.rest.0.0.0.0.0.1 in let b = c.in-33-to-35.if-q-lt36-own.true in (omega arith, (N, omega arith, omega arith, K))

pub expr-arith-requires : goal.expr-arith-requires
expr-arith-requires t c = let y = c.decreases in let N = handed_node c.requires.0 c.part-p.ensures in let K = c.requires.1 in let w = node_kind N _ c.word-q.ensures.0 in let a = past _ 40 (past _ 39 (past _ 38 (past _ 37 (past _ 36 c.in-41-to-45.if-q-lt36-own.false c.in-41-to-45.in_default-own.rest.0.0.0.0.1) c.in-41-to-45.in_default-own.rest.0.0.0.1) c.in-41-to-45.in_default-own.rest.0.0.1) c.in-41-to-45.in_default-own.rest.0.1) c.in-41-to-45.in_default-own.rest.1 in let b = c.in-41-to-45.if-q-lt46-own.true in (omega arith, (N, omega arith, omega arith, K))

pub expr-compr-requires : goal.expr-compr-requires
expr-compr-requires t c = let y = c.decreases in let N = handed_node c.requires.0 c.part-p.ensures in let K = c.requires.1 in let w = node_kind N _ c.word-q.ensures.0 in let r = expr_range _ _ c.requires.0 in let k = ⊎_elim (λ z. let u = z.if-q-lt30-1.true in last_kind_low r.0 w u) (λ z. last_kind r.1 w z.if-q-lt46-1.false) c.in_default.branch-raw in (omega arith, (N, k, K))

pub expr-returns-in-30 : goal.expr-returns-in-30
expr-returns-in-30 t c = c.refer.ensures

pub expr-returns-in-31 : goal.expr-returns-in-31
expr-returns-in-31 t c = let y = c.decreases in let N = handed_node c.requires.0 c.part-p.ensures in let K = c.requires.1 in let w = node_kind N _ c.word-q.ensures.0 in number_end c.requires.0 K (w ∙ c.in-31.is) (omega arith) c.number_rule-r.auto.a (c.number_rule-r.ensures _) c.visit_at.ensures

pub expr-returns-in-32 : goal.expr-returns-in-32
expr-returns-in-32 t c = let y = c.decreases in let N = handed_node c.requires.0 c.part-p.ensures in let K = c.requires.1 in let w = node_kind N _ c.word-q.ensures.0 in integers_end c.requires.0 K (w ∙ c.in-32.is) (omega arith) c.integers_rule-r.auto.a (c.integers_rule-r.ensures _) c.visit_at-in-32.ensures

pub expr-returns-in-36 : goal.expr-returns-in-36
expr-returns-in-36 t c = c.power.ensures

pub expr-returns-in-37 : goal.expr-returns-in-37
expr-returns-in-37 t c = c.apply.ensures

pub expr-returns-in-38 : goal.expr-returns-in-38
expr-returns-in-38 t c = c.select.ensures

pub expr-returns-in-39 : goal.expr-returns-in-39
expr-returns-in-39 t c = let y = c.decreases in let N = handed_node c.requires.0 c.part-p.ensures in let K = c.requires.1 in let w = node_kind N _ c.word-q.ensures.0 in let i = node_word N 1 _ c.word.ensures.0 in let j = node_word N 2 _ c.word-in-39.ensures.0 in ruled_done c.theta_rule-r.result c.ruled_at.ensures c.theta_rule-r.ensures (λ number g R. theta_end c.requires.0 K (w ∙ c.in-39.is) _ _ i j c.theta_rule-r.auto.a c.theta_rule-r.auto.w R)

pub expr-returns-in-40 : goal.expr-returns-in-40
expr-returns-in-40 t c = c.sset.ensures

pub expr-returns-in-33-to-35 : goal.expr-returns-in-33-to-35
expr-returns-in-33-to-35 t c = c.group.ensures

pub expr-returns-in-41-to-45 : goal.expr-returns-in-41-to-45
expr-returns-in-41-to-45 t c = c.arith.ensures

pub expr-returns-in_default : goal.expr-returns-in_default
expr-returns-in_default t c = c.compr.ensures

pub group-slice_bounds-opers-end : goal.group-slice_bounds-opers-end
group-slice_bounds-opers-end t c = refl

pub group-opers-x-requires : goal.group-opers-x-requires
group-opers-x-requires t c = let N = c.requires.0 in let K = c.requires.3 in let O = (group_any N c.requires.1 c.requires.2).1 in let y = c.decreases in (omega arith, (N, omega arith, O.lower, listing_start O K _ refl))

pub group-returns-then-x-ne0 : goal.group-returns-then-x-ne0
group-returns-then-x-ne0 t c = let N = c.requires.0 in let K = c.requires.3 in let O = (group_any N c.requires.1 c.requires.2).1 in listing_stop O K _ refl c.opers-x.ensures c.if-x-ne0.true

pub group-overflow_sub-m : goal.group-overflow_sub-m
group-overflow_sub-m t c = let N = c.requires.0 in let K = c.requires.3 in let O = (group_any N c.requires.1 c.requires.2).1 in O.some

pub group-slice_bounds-set_rule-end : goal.group-slice_bounds-set_rule-end
group-slice_bounds-set_rule-end t c = sym c.opers-x.ensures.size

pub group-set_rule-r-requires : goal.group-set_rule-r-requires
group-set_rule-r-requires t c = let N = c.requires.0 in let K = c.requires.3 in let O = set_node N (node_kind N _ c.word-q.ensures.0 ∙ c.if-q-eq-SET.true) in ((listing_size O K _ refl c.opers-x.ensures c.if-x-ne0.false _ refl).1, listing_operate O K _ refl c.opers-x.ensures c.if-x-ne0.false _ refl 2 (omega arith))

pub group-ruled_at-requires : goal.group-ruled_at-requires
group-ruled_at-requires t c = let z = c.requires.0.at.small in omega arith

pub group-returns-then-q-eq-SET : goal.group-returns-then-q-eq-SET
group-returns-then-q-eq-SET t c = let N = c.requires.0 in let K = c.requires.3 in let O = set_node N (node_kind N _ c.word-q.ensures.0 ∙ c.if-q-eq-SET.true) in ruled_done c.set_rule-r.result c.ruled_at.ensures c.set_rule-r.ensures (λ number g R. listing_end O K _ refl c.opers-x.ensures c.if-x-ne0.false _ refl set_items (λ Γ. refl) (omega arith) c.set_rule-r.auto.a R)

pub group-slice_bounds-tuple_rule-end : goal.group-slice_bounds-tuple_rule-end
group-slice_bounds-tuple_rule-end t c = sym c.opers-x.ensures.size

pub group-tuple_rule-r-requires : goal.group-tuple_rule-r-requires
group-tuple_rule-r-requires t c = let N = c.requires.0 in let K = c.requires.3 in let O = tuple_node N (node_kind N _ c.word-q.ensures.0 ∙ c.if-q-eq-TUPLE.true) in let z = listing_size O K _ refl c.opers-x.ensures c.if-x-ne0.false _ refl in (z.0, z.1, listing_build O K _ refl c.opers-x.ensures c.if-x-ne0.false _ refl 4 (omega arith))

pub group-visit_at-requires : goal.group-visit_at-requires
group-visit_at-requires t c = let z = c.requires.0.at.small in omega arith

pub group-returns-then-q-eq-TUPLE : goal.group-returns-then-q-eq-TUPLE
group-returns-then-q-eq-TUPLE t c = let N = c.requires.0 in let K = c.requires.3 in let O = tuple_node N (node_kind N _ c.word-q.ensures.0 ∙ c.if-q-eq-TUPLE.true) in visit_done c.visit_at.ensures (listing_end O K _ refl c.opers-x.ensures c.if-x-ne0.false _ refl tuple_items (λ Γ. refl) (omega arith) c.tuple_rule-r.auto.a (c.tuple_rule-r.ensures _))

pub group-slice_bounds-product_rule-end : goal.group-slice_bounds-product_rule-end
group-slice_bounds-product_rule-end t c = sym c.opers-x.ensures.size

pub group-product_rule-r-requires : goal.group-product_rule-r-requires
group-product_rule-r-requires t c = let N = c.requires.0 in let K = c.requires.3 in let O = product_node N (third_kind N _ c.word-q.ensures.0 c.requires.1 c.requires.2 c.if-q-eq-SET.false c.if-q-eq-TUPLE.false) in let z = listing_size O K _ refl c.opers-x.ensures c.if-x-ne0.false _ refl in (z.0, z.1, listing_operate O K _ refl c.opers-x.ensures c.if-x-ne0.false _ refl 17 (omega arith))

pub group-ruled_at-requires-2 : goal.group-ruled_at-requires-2
group-ruled_at-requires-2 t c = let z = c.requires.0.at.small in omega arith

pub group-returns : goal.group-returns
group-returns t c = let N = c.requires.0 in let K = c.requires.3 in let O = product_node N (third_kind N _ c.word-q.ensures.0 c.requires.1 c.requires.2 c.if-q-eq-SET.false c.if-q-eq-TUPLE.false) in ruled_done c.product_rule-r.result c.ruled_at-2.ensures c.product_rule-r.ensures (λ number g R. listing_end O K _ refl c.opers-x.ensures c.if-x-ne0.false _ refl product_items (λ Γ. refl) (omega arith) c.product_rule-r.auto.a R)

pub incl-slice_bounds-include-end : goal.incl-slice_bounds-include-end
incl-slice_bounds-include-end t c = refl

pub incl-include-i-requires : goal.incl-include-i-requires
incl-include-i-requires t c =
    let m = c.decreases in
    (omega arith, (record { at = node_incl_at c.requires.0 c.requires.1 c.requires.2 c.args.global; words = c.requires.0.words }, node_incl_ask c.requires.0 c.requires.1 c.requires.2 c.args.global _ refl))

pub incl-slice_bounds-included-end : goal.incl-slice_bounds-included-end
incl-slice_bounds-included-end t c = search sym

pub incl-included-requires : goal.incl-included-requires
incl-included-requires t c = node_incl_included c.requires.0 c.requires.1 c.requires.2 c.args.global c.include-i.ensures

pub incl-returns : goal.incl-returns
incl-returns t c = node_incl_told c.requires.0 c.requires.1 c.requires.2 c.args.global c.include-i.ensures c.included.ensures

pub include-lined_at-requires : goal.include-lined_at-requires
include-lined_at-requires t c =
    let z = c.requires.0.at.small in
    omega arith

pub include-returns-in-Err : goal.include-returns-in-Err
include-returns-in-Err t c = node_schema_refused c.requires.0 c.requires.1 (c.in-Err.ensures.1 0) c.in-Err.ensures.0 c.lined_at.ensures

pub include-actuals-x-requires : goal.include-actuals-x-requires
include-actuals-x-requires t c =
    let a = node_schema_actuals c.requires.0 c.requires.1 (schema_found c.in-Ok.ensures refl) c.word.ensures.0 in
    let f = a.0 in
    let m = c.decreases in
    (omega arith, (c.requires.0, a.0, a.1, a.2))

pub include-named-requires : goal.include-named-requires
include-named-requires t c = node_schema_named c.requires.0 c.requires.1 (schema_found c.in-Ok.ensures refl) c.word.ensures.0 c.actuals-x.ensures

pub include-returns-in-Ok : goal.include-returns-in-Ok
include-returns-in-Ok t c = node_schema_told c.requires.0 c.requires.1 (schema_found c.in-Ok.ensures refl) c.word.ensures.0 c.actuals-x.ensures c.named.ensures

pub line-decl-requires : goal.line-decl-requires
line-decl-requires t c =
    let y = c.decreases in
    (omega arith, (node_of c.requires.0 c.part-p.ensures, kind_of c.args.doc.now c.part-p.result.now c.args.k c.part-p.ensures c.word.ensures.0 ∙ c.if-word-eq-DECL.true, c.requires.1))

pub line-returns-then-word-eq-DECL : goal.line-returns-then-word-eq-DECL
line-returns-then-word-eq-DECL t c = c.decl.ensures

pub line-incl-requires : goal.line-incl-requires
line-incl-requires t c =
    let y = c.decreases in
    let k = kind_of c.args.doc.now c.part-p.result.now c.args.k c.part-p.ensures c.word.ensures.0 in
    let n = c.if-word-eq-DECL.false in
    (omega arith, (node_of c.requires.0 c.part-p.ensures, not_eleven _ _ c.requires.0 (λ z. n (sym k ∙ z)), c.requires.1))

pub line-returns : goal.line-returns
line-returns t c = c.incl.ensures

pub lines-lined_at-requires : goal.lines-lined_at-requires
lines-lined_at-requires t c = let z = c.requires.0.at.small in omega arith

pub lines-returns-then-p-i : goal.lines-returns-then-p-i
lines-returns-then-p-i t c = node_lines_none c.args.i c.requires.0 c.requires.3 c.if-p-i.true c.lined_at.ensures

pub lines-line-r-requires : goal.lines-line-r-requires
lines-line-r-requires t c =
    let z = c.if-p-i.false in
    let e = c.word.ensures.0 in
    let L = line_lower c.args.doc.now c.args.p.now c.args.k c.args.i c.requires.2 e (omega arith) in
    let x = L.below in
    let y = c.decreases in
    (omega arith, (L.at, node_line_ask c.args.i c.requires.0 c.requires.3 _ e (omega arith) L))

pub lines-returns-then-r-ne0 : goal.lines-returns-then-r-ne0
lines-returns-then-r-ne0 t c =
    let z = c.if-p-i.false in
    let e = c.word.ensures.0 in
    let L = line_lower c.args.doc.now c.args.p.now c.args.k c.args.i c.requires.2 e (omega arith) in
    node_line_refused c.args.i c.requires.0 c.requires.3 _ e (omega arith) L c.line-r.ensures c.if-r-ne0.true

pub lines-overflow_add-i : goal.lines-overflow_add-i
lines-overflow_add-i t c = let z = c.requires.1 in omega arith

pub lines-lines-requires : goal.lines-lines-requires
lines-lines-requires t c =
    let z = c.if-p-i.false in
    let e = c.word.ensures.0 in
    let L = line_lower c.args.doc.now c.args.p.now c.args.k c.args.i c.requires.2 e (omega arith) in
    let f = lines_few c.args.i c.requires.0 c.requires.3 in
    let y = c.decreases in
    let g = c.requires.1 in
    (omega arith, (c.requires.0, omega arith, (λ q a b. c.requires.2 q (omega arith) b), node_lines_ask c.args.i c.requires.0 c.requires.3 _ e (omega arith) L c.line-r.ensures c.if-r-ne0.false))

pub lines-returns : goal.lines-returns
lines-returns t c =
    let z = c.if-p-i.false in
    let e = c.word.ensures.0 in
    let L = line_lower c.args.doc.now c.args.p.now c.args.k c.args.i c.requires.2 e (omega arith) in
    node_lines_then c.args.i c.requires.0 c.requires.3 _ e (omega arith) L c.line-r.ensures c.if-r-ne0.false c.lines.ensures

pub opers-visit_at-requires : goal.opers-visit_at-requires
opers-visit_at-requires t c = let z = c.requires.0.at.small in omega arith

pub opers-returns-then-p-i : goal.opers-returns-then-p-i
opers-returns-then-p-i t c = let N = c.requires.0 in let K = c.requires.3 in opers_none N K c.if-p-i.true c.visit_at.ensures

pub opers-expr-x-requires : goal.opers-expr-x-requires
opers-expr-x-requires t c = let N = c.requires.0 in let K = c.requires.3 in let h = c.if-p-i.false in let e = c.word.ensures.0 in let o : Lower c.args.doc.now c.args.k expressions c.word.result = subst (Lower c.args.doc.now c.args.k expressions) (sym e) (c.requires.2 c.args.i (omega arith) h) in let b = o.below in let y = c.decreases in let m = few_words N in (omega arith, (o.at, opers_start N K _ e h))

pub opers-returns-then-x-ne0 : goal.opers-returns-then-x-ne0
opers-returns-then-x-ne0 t c = let N = c.requires.0 in let K = c.requires.3 in let h = c.if-p-i.false in let e = c.word.ensures.0 in opers_stop N K _ e h c.expr-x.ensures c.if-x-ne0.true

pub opers-overflow_cast-x : goal.opers-overflow_cast-x
opers-overflow_cast-x t c = let N = c.requires.0 in let K = c.requires.3 in let h = c.if-p-i.false in let e = c.word.ensures.0 in let z = opers_cell N K _ e h c.expr-x.ensures c.if-x-ne0.false in omega arith

pub opers-overflow_add-i : goal.opers-overflow_add-i
opers-overflow_add-i t c = let z = c.requires.1 in omega arith

pub opers-overflow_add-j : goal.opers-overflow_add-j
opers-overflow_add-j t c = let N = c.requires.0 in let K = c.requires.3 in let h = c.if-p-i.false in let e = c.word.ensures.0 in let z = opers_space N K h in omega arith

pub opers-opers-requires : goal.opers-opers-requires
opers-opers-requires t c = let N = c.requires.0 in let K = c.requires.3 in let h = c.if-p-i.false in let e = c.word.ensures.0 in let m = few_words N in let y = c.decreases in (omega arith, (N, omega arith, λ q a b. c.requires.2 q (omega arith) b, opers_next N K _ e h c.expr-x.ensures c.if-x-ne0.false c.store.ensures))

pub opers-returns : goal.opers-returns
opers-returns t c = let N = c.requires.0 in let K = c.requires.3 in let h = c.if-p-i.false in let e = c.word.ensures.0 in opers_end N K _ e h c.expr-x.ensures c.if-x-ne0.false c.store.ensures c.opers.ensures

pub power-expr-x-requires : goal.power-expr-x-requires
power-expr-x-requires t c = let K = c.requires.2 in let O = power_node c.requires.0 _ c.word.ensures.0 c.requires.1 in let x = O.lower.below in let y = c.decreases in (omega arith, (O.lower.at, over_start power_rule_items O K))

pub power-returns-then-x-ne0 : goal.power-returns-then-x-ne0
power-returns-then-x-ne0 t c = let K = c.requires.2 in let O = power_node c.requires.0 _ c.word.ensures.0 c.requires.1 in over_stop power_rule_items O K c.expr-x.ensures c.if-x-ne0.true

pub power-power_rule-r-requires : goal.power-power_rule-r-requires
power-power_rule-r-requires t c = let K = c.requires.2 in let O = power_node c.requires.0 _ c.word.ensures.0 c.requires.1 in over_rule power_rule_items O K c.expr-x.ensures c.if-x-ne0.false 4 (omega arith)

pub power-ruled_at-requires : goal.power-ruled_at-requires
power-ruled_at-requires t c = let z = c.requires.0.at.small in omega arith

pub power-returns : goal.power-returns
power-returns t c = let K = c.requires.2 in let O = power_node c.requires.0 _ c.word.ensures.0 c.requires.1 in ruled_done c.power_rule-r.result c.ruled_at.ensures c.power_rule-r.ensures (λ number g R. over_end power_rule_items O K c.expr-x.ensures c.if-x-ne0.false (omega arith) c.power_rule-r.auto.a R)

pub pred-verdict_at-requires : goal.pred-verdict_at-requires
pred-verdict_at-requires t c =
    let h = c.requires.0.small in
    omega arith

pub pred-pred-requires : goal.pred-pred-requires
pred-pred-requires t c =
    let B = node_of c.requires.0 c.part-p.ensures in
    let o = at_not_ask B c.requires.1 (kind_at_lem B _ c.word-q.ensures.0 ∙ c.in-24.is) _ c.word.ensures.0 in
    let x = o.0.below in
    let m = c.decreases in
    (omega arith, (o.0.at, o.1))

pub pred-rel-requires : goal.pred-rel-requires
pred-rel-requires t c =
    let B = node_of c.requires.0 c.part-p.ensures in
    let q = kind_at_lem B _ c.word-q.ensures.0 in
    let l = beyond _ 20 c.in-21-to-23.if-q-lt20-own.false c.in-21-to-23.in_default-own.rest.0.1 in
    let u = c.in-21-to-23.if-q-lt24-own.true in
    let m = c.decreases in
    (omega arith, (B, omega arith, omega arith, c.requires.1))

pub pred-conn-requires : goal.pred-conn-requires
pred-conn-requires t c =
    let B = node_of c.requires.0 c.part-p.ensures in
    let q = kind_at_lem B _ c.word-q.ensures.0 in
    let l = beyond _ 24 c.in-25-to-27.if-q-lt24-own.false c.in-25-to-27.in_default-own.rest.1 in
    let u = c.in-25-to-27.if-q-lt28-own.true in
    let m = c.decreases in
    (omega arith, (B, omega arith, omega arith, c.requires.1))

pub pred-quant-requires : goal.pred-quant-requires
pred-quant-requires t c =
    let B = node_of c.requires.0 c.part-p.ensures in
    let q = kind_at_lem B _ c.word-q.ensures.0 in
    let g = pred_range _ _ c.requires.0 in
    let x = g.0 in
    let y = g.1 in
    let z : 28 ≤ kind_at c.args.doc.now c.args.k = ⊎_elim (λ t. let v = t.if-q-lt20-1.true in absurd (omega arith)) (λ p. let v = p.if-q-lt28-1.false in omega arith) c.in_default.branch-raw in
    let m = c.decreases in
    (omega arith, (B, z, y, c.requires.1))

pub pred-returns-in-20 : goal.pred-returns-in-20
pred-returns-in-20 t c =
    let B = node_of c.requires.0 c.part-p.ensures in
    at_truth B (kind_at_lem B _ c.word-q.ensures.0 ∙ c.in-20.is) _ c.verdict_at.ensures

pub pred-returns-in-24 : goal.pred-returns-in-24
pred-returns-in-24 t c =
    let B = node_of c.requires.0 c.part-p.ensures in
    at_not B c.requires.1 (kind_at_lem B _ c.word-q.ensures.0 ∙ c.in-24.is) _ c.word.ensures.0 c.pred.ensures

pub pred-returns-in-21-to-23 : goal.pred-returns-in-21-to-23
pred-returns-in-21-to-23 t c = c.rel.ensures

pub pred-returns-in-25-to-27 : goal.pred-returns-in-25-to-27
pred-returns-in-25-to-27 t c = c.conn.ensures

pub pred-returns-in_default : goal.pred-returns-in_default
pred-returns-in_default t c = c.quant.ensures

pub quant-text-t-requires : goal.quant-text-t-requires
quant-text-t-requires t c =
    let o = at_text c.requires.0 c.requires.3 c.requires.1 c.requires.2 _ (get_or c.args.p.now 2 0) c.word.ensures.0 refl in
    let x = o.0.below in
    let m = c.decreases in
    (omega arith, (o.0.at, o.1))

pub quant-returns-then-t-ne0 : goal.quant-returns-then-t-ne0
quant-returns-then-t-ne0 t c =
    pred_told c.found.ensures
    (at_text_stopped c.requires.0 c.requires.3 c.requires.1 c.requires.2 _ (get_or c.args.p.now 2 0) c.word.ensures.0 refl c.text-t.ensures c.if-t-ne0.true)

pub quant-overflow_add-rows : goal.quant-overflow_add-rows
quant-overflow_add-rows t c =
    let a = c.requires.3.walking.room.stack in
    let b = (c.text-t.ensures.done.areas c.if-t-ne0.false).few in
    omega arith

pub quant-pred-x-requires : goal.quant-pred-x-requires
quant-pred-x-requires t c =
    let o = at_body c.requires.0 c.requires.3 c.requires.1 c.requires.2 _ _ c.word.ensures.0 c.word-2.ensures.0 c.text-t.ensures c.if-t-ne0.false in
    let x = o.0.below in
    let m = c.decreases in
    (omega arith, (o.0.at, o.1))

pub quant-returns-then-x-ne0 : goal.quant-returns-then-x-ne0
quant-returns-then-x-ne0 t c = at_body_stopped c.requires.0 c.requires.3 c.requires.1 c.requires.2 _ _ c.word.ensures.0 c.word-2.ensures.0 c.text-t.ensures c.if-t-ne0.false c.pred-x.ensures c.if-x-ne0.true

pub quant-wipe-requires : goal.quant-wipe-requires
quant-wipe-requires t c =
    let T = c.text-t.ensures in
    let a = c.requires.3.walking.room.pool in
    let b = (T.done.areas c.if-t-ne0.false).few in
    let e = (T.done.areas c.if-t-ne0.false).short in
    omega arith

pub quant-returns : goal.quant-returns
quant-returns t c =
    at_quantified c.requires.0 c.requires.3 c.requires.1 c.requires.2 _ _ c.word.ensures.0 c.word-2.ensures.0 c.text-t.ensures c.if-t-ne0.false c.pred-x.ensures c.if-x-ne0.false
    c.pred-x.auto.a c.wipe.ensures

pub refer-slice_bounds-opers-end : goal.refer-slice_bounds-opers-end
refer-slice_bounds-opers-end t c = refl

pub refer-opers-x-requires : goal.refer-opers-x-requires
refer-opers-x-requires t c = let N = c.requires.0 in let K = c.requires.2 in let O = reference_node N c.requires.1 _ refl in let y = c.decreases in (omega arith, (N, omega arith, O.lower, listing_start O K _ refl))

pub refer-returns-then-x-ne0 : goal.refer-returns-then-x-ne0
refer-returns-then-x-ne0 t c = let N = c.requires.0 in let K = c.requires.2 in let O = reference_node N c.requires.1 _ refl in listing_stop O K _ refl c.opers-x.ensures c.if-x-ne0.true

pub refer-slice_bounds-ref_rule-end : goal.refer-slice_bounds-ref_rule-end
refer-slice_bounds-ref_rule-end t c = sym c.opers-x.ensures.size

pub refer-overflow_sub-p : goal.refer-overflow_sub-p
refer-overflow_sub-p t c = let N = c.requires.0 in let K = c.requires.2 in let O = reference_node N c.requires.1 _ refl in O.some

pub refer-ref_rule-r-requires : goal.refer-ref_rule-r-requires
refer-ref_rule-r-requires t c = let N = c.requires.0 in let K = c.requires.2 in let O = reference_node N c.requires.1 _ refl in listing_refer O K _ refl c.opers-x.ensures c.if-x-ne0.false _ refl

pub refer-ruled_at-requires : goal.refer-ruled_at-requires
refer-ruled_at-requires t c = let z = c.requires.0.at.small in omega arith

pub refer-returns : goal.refer-returns
refer-returns t c = let N = c.requires.0 in let K = c.requires.2 in let O = reference_node N c.requires.1 _ c.word.ensures.0 in ruled_done c.ref_rule-r.result c.ruled_at.ensures c.ref_rule-r.ensures (λ number g R. listing_referred O K _ refl c.opers-x.ensures c.if-x-ne0.false _ refl (λ Γ. refl) c.ref_rule-r.auto.a R)

pub rel-expr-x-requires : goal.rel-expr-x-requires
rel-expr-x-requires t c =
    let o = at_left c.requires.0 c.requires.3 c.requires.1 c.requires.2 _ (get_or c.args.p.now 2 0) c.word.ensures.0 refl in
    let x = o.0.below in
    let m = c.decreases in
    (omega arith, (o.0.at, o.1))

pub rel-returns-then-x-ne0 : goal.rel-returns-then-x-ne0
rel-returns-then-x-ne0 t c =
    pred_told c.found.ensures
    (at_left_stopped c.requires.0 c.requires.3 c.requires.1 c.requires.2 _ (get_or c.args.p.now 2 0) c.word.ensures.0 refl c.expr-x.ensures c.if-x-ne0.true)

pub rel-expr-y-requires : goal.rel-expr-y-requires
rel-expr-y-requires t c =
    let o = at_right c.requires.0 c.requires.3 c.requires.1 c.requires.2 _ _ c.word.ensures.0 c.word-2.ensures.0 c.expr-x.ensures c.if-x-ne0.false in
    let x = o.0.below in
    let m = c.decreases in
    (omega arith, (o.0.at, o.1))

pub rel-relation-requires : goal.rel-relation-requires
rel-relation-requires t c = at_relation_asked c.requires.0 c.requires.3 c.requires.1 c.requires.2 _ _ c.word.ensures.0 c.word-2.ensures.0 c.expr-x.ensures c.if-x-ne0.false c.expr-y.ensures _ c.word-3.ensures.0

pub rel-returns : goal.rel-returns
rel-returns t c = at_relation_told c.requires.0 c.requires.3 c.requires.1 c.requires.2 _ _ c.word.ensures.0 c.word-2.ensures.0 c.expr-x.ensures c.if-x-ne0.false c.expr-y.ensures _ c.word-3.ensures.0 c.relation.ensures

pub select-expr-x-requires : goal.select-expr-x-requires
select-expr-x-requires t c = let K = c.requires.2 in let O = select_node c.requires.0 _ c.word.ensures.0 c.requires.1 _ refl in let x = O.lower.below in let y = c.decreases in (omega arith, (O.lower.at, over_start (select_items _) O K))

pub select-returns-then-x-ne0 : goal.select-returns-then-x-ne0
select-returns-then-x-ne0 t c = let K = c.requires.2 in let O = select_node c.requires.0 _ c.word.ensures.0 c.requires.1 _ refl in over_stop (select_items _) O K c.expr-x.ensures c.if-x-ne0.true

pub select-select_rule-r-requires : goal.select-select_rule-r-requires
select-select_rule-r-requires t c = let K = c.requires.2 in let O = select_node c.requires.0 _ c.word.ensures.0 c.requires.1 _ refl in over_rule (select_items _) O K c.expr-x.ensures c.if-x-ne0.false 1 (omega arith)

pub select-ruled_at-requires : goal.select-ruled_at-requires
select-ruled_at-requires t c = let z = c.requires.0.at.small in omega arith

pub select-returns : goal.select-returns
select-returns t c = let K = c.requires.2 in let O = select_node c.requires.0 _ c.word.ensures.0 c.requires.1 _ c.word-2.ensures.0 in ruled_done c.select_rule-r.result c.ruled_at.ensures c.select_rule-r.ensures (λ number g R. over_end (select_items _) O K c.expr-x.ensures c.if-x-ne0.false (omega arith) c.select_rule-r.auto.a R)

pub sset-save-e-requires : goal.sset-save-e-requires
sset-save-e-requires t c = let N = c.requires.0 in let K = c.requires.2 in let O = sset_node N c.requires.1 _ refl in sset_save O K

pub sset-brings-i-requires : goal.sset-brings-i-requires
sset-brings-i-requires t c = let N = c.requires.0 in let K = c.requires.2 in let O = sset_node N c.requires.1 _ c.word.ensures.0 in let x = O.lower.below in let y = c.decreases in (omega arith, (O.lower.at, sset_include O K c.save-e.ensures))

pub sset-returns-then-i-ne0 : goal.sset-returns-then-i-ne0
sset-returns-then-i-ne0 t c = let N = c.requires.0 in let K = c.requires.2 in let O = sset_node N c.requires.1 _ c.word.ensures.0 in sset_stop O K c.save-e.ensures c.brings-i.ensures c.if-i-ne0.true c.unvisited.ensures

pub sset-restore-requires : goal.sset-restore-requires
sset-restore-requires t c = let N = c.requires.0 in let K = c.requires.2 in let O = sset_node N c.requires.1 _ c.word.ensures.0 in sset_restore O K c.save-e.ensures c.brings-i.ensures c.if-i-ne0.false

pub sset-schema_set-g-requires : goal.sset-schema_set-g-requires
sset-schema_set-g-requires t c = let N = c.requires.0 in let K = c.requires.2 in let O = sset_node N c.requires.1 _ c.word.ensures.0 in sset_rule O K c.save-e.ensures c.brings-i.ensures c.if-i-ne0.false c.restore.ensures

pub sset-visit_at-requires : goal.sset-visit_at-requires
sset-visit_at-requires t c = let z = c.requires.0.at.small in omega arith

pub sset-shape_of-w : goal.sset-shape_of-w
sset-shape_of-w t c = c.brings-i.auto.w ∙ c.save-e.auto.out

pub sset-returns : goal.sset-returns
sset-returns t c = let N = c.requires.0 in let K = c.requires.2 in let O = sset_node N c.requires.1 _ c.word.ensures.0 in sset_end O K c.save-e.ensures c.brings-i.ensures c.if-i-ne0.false c.restore.ensures c.schema_set-g.auto.a c.schema_set-g.ensures c.visit_at.ensures

pub text-overflow_add-free : goal.text-overflow_add-free
text-overflow_add-free t c =
    let f = c.requires.1.walking.room.frames in
    omega arith

pub text-lines-r-requires : goal.text-lines-r-requires
text-lines-r-requires t c =
    let m = c.decreases in
    (omega arith, (node_of c.requires.0 c.part-p.ensures, omega arith, each_line c.requires.0 c.requires.1 _ c.part-p.ensures _ refl, at_lines c.requires.0 c.requires.1 _ c.part-p.ensures _ refl))

pub text-returns-then-r-ne0 : goal.text-returns-then-r-ne0
text-returns-then-r-ne0 t c = at_lines_stopped c.requires.0 c.requires.1 _ c.part-p.ensures _ refl _ c.lines-r.ensures c.if-r-ne0.true _ _

pub text-push-requires : goal.text-push-requires
text-push-requires t c = at_push c.requires.0 c.requires.1 _ c.part-p.ensures _ refl _ c.lines-r.ensures c.if-r-ne0.false

pub text-overflow_add-rows : goal.text-overflow_add-rows
text-overflow_add-rows t c =
    let a = c.requires.1.walking.room.stack in
    let b = (c.lines-r.ensures.done.areas c.if-r-ne0.false).few in
    omega arith

pub text-overflow_add-free-2 : goal.text-overflow_add-free-2
text-overflow_add-free-2 t c =
    let f = c.requires.1.walking.room.frames in
    omega arith

pub text-pred-x-requires : goal.text-pred-x-requires
text-pred-x-requires t c =
    let o = at_text_body c.requires.0 c.requires.1 _ c.part-p.ensures _ c.word.ensures.0 _ c.lines-r.ensures c.if-r-ne0.false c.push.ensures in
    let x = o.0.below in
    let m = c.decreases in
    (omega arith, (o.0.at, o.1))

pub text-shape_of-a-then-x-ne0 : goal.text-shape_of-a-then-x-ne0
text-shape_of-a-then-x-ne0 t c = c.pred-x.auto.a ∙ c.lines-r.auto.a

pub text-returns-then-x-ne0 : goal.text-returns-then-x-ne0
text-returns-then-x-ne0 t c =
    text_told c.unlined.ensures
    (at_text_refused c.requires.0 c.requires.1 _ c.part-p.ensures _ c.word.ensures.0 _ c.lines-r.ensures c.if-r-ne0.false c.push.ensures c.pred-x.ensures c.if-x-ne0.true 0 0)

pub text-returns : goal.text-returns
text-returns t c = at_text_done c.requires.0 c.requires.1 _ c.part-p.ensures _ c.word.ensures.0 _ c.lines-r.ensures c.if-r-ne0.false c.push.ensures c.pred-x.ensures c.if-x-ne0.false c.pred-x.auto.a
