use Prim.Native.Nat.{ℕ, ◌≤◌, ◌+◌, ◌*◌, ◌-◌}
use mathlib.Core.Path.{◌≡◌, refl, sym, ap, subst, ◌∙◌}
use mathlib.Core.List.{List, ◌++◌, [], ◌∷◌}
use lib.ListN.{length, get_or}
use native.Mathlib.Omega.{arith}
use Rattle.reader_rules.specs.Kinds.{expressions, predicates, lines}
use Rattle.reader_rules.specs.Promise.{Lower}
use Rattle.evaluator_scope.proofs.BlockLaws.{scoped_same, same_less}
use Rattle.evaluator_nodes.proofs.NodeLaws.{ready_lower, handed_same, in_words, adds_end, adds_stop, adds_over, adds_go, ready_same, apply_operands, apply_told, arith_operands, arith_told, relation_operands, below_told, connected_operands, connected_stop, connected_known, connected_right, member_operands, set_stop, set_go, handed_of, exprs_stop, few_words, member_stop, member_go, not_operand, not_stop, not_go, parts_end, parts_go, power_operand, node_words, reference_plain, no_actuals, reference_operands, reference_stop, reference_go, has_actuals_lem, equal_told, tuple_stop, tuple_go}
use Rattle.evaluator_nodes.proofs.TestLaws.{all_end, all_stop, all_false, all_go, product_end, product_stop, product_false, product_go, power_other, power_told, product_other, product_uneven, product_told, integers_test, value_stop, value_go}
use Rattle.evaluator_operations.proofs.ToldLaws.{halt_told, second_told, both_told, exit_told, stopped_told, fine_told}
use Rattle.values.specs.Value.{Value, nil, encode}
use Rattle.evaluator_operations.specs.Steps.{arithmetic_of, verdict_of, decision_of}
use Rattle.evaluator_operations.specs.Worked.{Told, fine, Counted, no_parts}
use Rattle.evaluator_nodes.proofs.AssignLaws.{scoping_shift, assigns_none, assigns_some, body_expr, body_pred, body_ready, gather_stop, gather_over, gather_go, decide_stop, decide_halt, decide_go, compr_scoping, compr_stop, compr_halt, compr_go, lines_start, scoping_same, quant_scoping, quant_stop, quant_halt, quant_go, text_pred, turn_stop, turn_true, turn_false}
use Rattle.reader_rules.specs.Decode.{quantifier_of, connective_of}
use Rattle.evaluator_nodes.specs.Ready.{Ready, SoFar, Rest}
use Rattle.evaluator_rules.specs.Environment.{empty}
use mathlib.Core.Bool.{true, false}
use Rattle.evaluator_scope.specs.Blocks.{Scoped, block_words}
use Rattle.evaluator_rules.specs.Assignments.{no_more}
use Rattle.values.proofs.Holding.{held_len}
use Rattle.std.proofs.Common.{Ok}
use Rattle.std.proofs.lemmas.Result.{err_from_is_err_and}
use Rattle.values.specs.Span.{span}
use Rattle.evaluator_nodes.proofs.EachLaws.{EachLeft, left_all, each_end, each_past, left_stop, left_halt, left_more}
use mathlib.Core.Logic.{⊎_elim}
use Rattle.reader_rules.specs.Nodes.{kind_at, operand_at}
use Rattle.reader_rules.proofs.TreeWords.{number_word}
use Rattle.evaluator_nodes.proofs.KindLaws.{Unrun, unrun_told, number_told, from_25, truth_told}
use Rattle.evaluator_nodes.proofs.FactorLaws.{first_tuples, factors_end, factors_go, power_stop, power_go, product_stop as tuples_stop, product_go as tuples_go}
use Rattle.evaluator_nodes.proofs.LineLaws.{lines_done, include_told, decl_operand, decl_count, decl_stop, decl_other, decl_go, decl_words, line_ready, line_at_lem}
use Rattle.reader_rules.proofs.TreePred.{pred_range}
use Rattle.evaluator_operations.proofs.OperationLaws.{counted_is, counted_word}
use Rattle.values.specs.Value as Value
use Rattle.evaluator_scope.specs.Blocks as Blocks
use Rattle.evaluator_nodes.proofs.nodes.+adds_all_apply_arith_assign_below_body_compr_connect_display_each_each_part_expr_factors_lines_member_negate_parts_power_pred_product_quant_reckon_refers_same_subsets_tests_tuple_tuples_turn_value.Goals as goal

pub adds-returns-then-w-i : goal.adds-returns-then-w-i
adds-returns-then-w-i t c =
    let a = c.args in
    record { kept = refl; told = λ vs e scope sc. adds_end a.doc.now a.k (length a.w.now) a.i scope vs c.if-w-i.true e }

pub adds-expr-requires : goal.adds-expr-requires
adds-expr-requires t c =
    let o : Lower c.args.doc.now c.args.k expressions c.word.result = subst (Lower c.args.doc.now c.args.k expressions) (sym c.word.ensures.0) (c.requires.1.each c.args.i (omega arith) (omega arith)) in
    let b = o.below in
    (omega arith, ready_lower _ expressions _ refl c.requires.0.ready o)

pub adds-returns-in_err-x : goal.adds-returns-in_err-x
adds-returns-in_err-x t c =
    let e = c.in_err-x.ensures in
    let a = c.args in
    record { kept = e.kept; told = λ vs x scope sc. exit_told c.from_residual.ensures.1 (adds_stop a.doc.now a.k (length a.w.now) a.i scope vs _ (in_words c.requires.0 a.i _ c.word.ensures.0) (omega arith) (e.told scope sc)) }

pub adds-returns-in_err-gather : goal.adds-returns-in_err-gather
adds-returns-in_err-gather t c =
    let e = c.in_ok-x.ensures in
    let a = c.args in
    record { kept = e.kept; told = λ vs x scope sc. exit_told c.from_residual-in_err-gather.ensures.1 (adds_over a.doc.now a.k (length a.w.now) a.i scope vs _ (in_words c.requires.0 a.i _ c.word.ensures.0) (omega (arith, c.if-w-i.false)) (e.told scope sc) (λ v h. c.in_err-gather.ensures vs v x h)) }

pub adds-adds-requires : goal.adds-adds-requires
adds-adds-requires t c =
    let f = c.requires.0.few in
    let l = c.if-w-i.false in
    let m = c.decreases in
    (omega arith, (handed_same _ c.expr.auto.work c.requires.0, record { each = λ j p q. c.requires.1.each j (omega arith) q }, omega arith))

pub adds-returns : goal.adds-returns
adds-returns t c =
    let e = c.in_ok-x.ensures in
    let g = c.adds.ensures in
    let a = c.args in
    record { kept = g.kept ∙ e.kept; told = λ vs x scope sc. adds_go a.doc.now a.k (length a.w.now) a.i scope vs _ (in_words c.requires.0 a.i _ c.word.ensures.0) (omega (arith, c.if-w-i.false)) (e.told scope sc) (λ v h. c.in_ok-gather.ensures vs v x h) (λ us h. g.told us h scope (scoped_same _ _ _ _ e.kept sc)) }

pub all-returns-then-c-eq0 : goal.all-returns-then-c-eq0
all-returns-then-c-eq0 t c = record { kept = refl; told = λ vs g scope sc. all_end c.args.v c.args.at c.args.c _ vs g c.if-c-eq0.true }

pub all-tests-requires : goal.all-tests-requires
all-tests-requires t c = (omega arith, c.requires.0)

pub all-returns-in_err-x : goal.all-returns-in_err-x
all-returns-in_err-x t c =
    let e = c.in_err-x.ensures in
    record { kept = e.kept; told = λ vs g scope sc. exit_told c.from_residual.ensures.1 (all_stop c.args.v c.args.at c.args.c _ _ _ c.length_at-len.ensures.0 c.member_at.ensures c.if-c-eq0.false vs g (λ y h. e.told y h scope sc)) }

pub all-all-requires : goal.all-all-requires
all-all-requires t c =
    let z = c.if-c-eq0.false in
    let l = c.length_at-len.ensures.1 in
    let m = c.requires.1 in
    let u = c.requires.2 in
    let t = c.decreases in
    (omega arith, (ready_same _ c.tests.auto.work c.requires.0, omega arith, omega arith))

pub all-returns-then-x : goal.all-returns-then-x
all-returns-then-x t c =
    let e = c.in_ok-x.ensures in
    let k = c.all.ensures in
    record { kept = k.kept ∙ e.kept; told = λ vs g scope sc. all_go c.args.v c.args.at c.args.c _ _ _ c.length_at-len.ensures.0 c.member_at.ensures c.if-c-eq0.false vs g (λ y h. e.told y h scope sc) c.if-x.true (λ us r. k.told us r scope (scoped_same _ _ _ _ e.kept sc)) }

pub all-returns : goal.all-returns
all-returns t c =
    let e = c.in_ok-x.ensures in
    record { kept = e.kept; told = λ vs g scope sc. all_false c.args.v c.args.at c.args.c _ _ _ c.length_at-len.ensures.0 c.member_at.ensures c.if-c-eq0.false vs g (λ y h. e.told y h scope sc) c.if-x.false }

pub apply-expr-requires : goal.apply-expr-requires
apply-expr-requires t c =
    let h = c.requires.0 in
    let o = apply_operands h _ (get_or c.args.w.now 2 0) c.word.ensures.0 refl c.requires.1 in
    let x = o.0.below in
    (omega arith, ready_lower _ expressions _ refl h.ready o.0)

pub apply-returns-in_err-x : goal.apply-returns-in_err-x
apply-returns-in_err-x t c =
    let e = c.in_err-x.ensures in
    let h = c.requires.0 in
    record { kept = e.kept; told = λ scope sc. exit_told c.from_residual.ensures.1 (apply_told h _ (get_or c.args.w.now 2 0) c.word.ensures.0 refl c.requires.1 scope (halt_told _ (e.told scope sc))) }

pub apply-expr-requires-2 : goal.apply-expr-requires-2
apply-expr-requires-2 t c =
    let h = c.requires.0 in
    let o = apply_operands h _ _ c.word.ensures.0 c.word-2.ensures.0 c.requires.1 in
    let x = o.1.below in
    (omega arith, ready_lower _ expressions _ c.expr.auto.work h.ready o.1)

pub apply-returns-in_err-y : goal.apply-returns-in_err-y
apply-returns-in_err-y t c =
    let e = c.in_ok-x.ensures in
    let g = c.in_err-y.ensures in
    let h = c.requires.0 in
    record { kept = g.kept ∙ e.kept; told = λ scope sc. exit_told c.from_residual-in_err-y.ensures.1 (apply_told h _ _ c.word.ensures.0 c.word-2.ensures.0 c.requires.1 scope (second_told (e.told scope sc) (g.told scope (scoped_same _ _ _ _ e.kept sc)) _)) }

pub apply-returns : goal.apply-returns
apply-returns t c =
    let e = c.in_ok-x.ensures in
    let g = c.in_ok-y.ensures in
    let h = c.requires.0 in
    record { kept = g.kept ∙ e.kept; told = λ scope sc. apply_told h _ _ c.word.ensures.0 c.word-2.ensures.0 c.requires.1 scope (both_told (e.told scope sc) (g.told scope (scoped_same _ _ _ _ e.kept sc)) (λ u v a b. c.applied.ensures u v a b)) }

pub arith-reckon-requires : goal.arith-reckon-requires
arith-reckon-requires t c =
    let h = c.requires.0 in
    let o = arith_operands h _ (get_or c.args.w.now 2 0) c.word.ensures.0 refl c.requires.1 c.requires.2 in
    let x = o.0.below in
    (omega arith, ready_lower _ expressions _ refl h.ready o.0)

pub arith-returns-in_err-x : goal.arith-returns-in_err-x
arith-returns-in_err-x t c =
    let e = c.in_err-x.ensures in
    let h = c.requires.0 in
    record { kept = e.kept; told = λ scope sc. exit_told c.from_residual.ensures.1 (arith_told h _ (get_or c.args.w.now 2 0) c.word.ensures.0 refl c.requires.1 c.requires.2 scope (halt_told _ (e.told scope sc))) }

pub arith-reckon-requires-2 : goal.arith-reckon-requires-2
arith-reckon-requires-2 t c =
    let h = c.requires.0 in
    let o = arith_operands h _ _ c.word.ensures.0 c.word-2.ensures.0 c.requires.1 c.requires.2 in
    let x = o.1.below in
    (omega arith, ready_lower _ expressions _ c.reckon.auto.work h.ready o.1)

pub arith-returns-in_err-y : goal.arith-returns-in_err-y
arith-returns-in_err-y t c =
    let e = c.in_ok-x.ensures in
    let g = c.in_err-y.ensures in
    let h = c.requires.0 in
    record { kept = g.kept ∙ e.kept; told = λ scope sc. exit_told c.from_residual-in_err-y.ensures.1 (arith_told h _ _ c.word.ensures.0 c.word-2.ensures.0 c.requires.1 c.requires.2 scope (second_told (e.told scope sc) (g.told scope (scoped_same _ _ _ _ e.kept sc)) _)) }

pub arith-returns : goal.arith-returns
arith-returns t c =
    let e = c.in_ok-x.ensures in
    let g = c.in_ok-y.ensures in
    let h = c.requires.0 in
    record { kept = g.kept ∙ e.kept; told = λ scope sc. arith_told h _ _ c.word.ensures.0 c.word-2.ensures.0 c.requires.1 c.requires.2 scope (both_told (e.told scope sc) (g.told scope (scoped_same _ _ _ _ e.kept sc)) (λ u v a b. subst (λ (q : ℕ). Told Counted c.arithmetic.result (arithmetic_of c.args.k q u v)) (in_words h 0 _ c.word-3.ensures.0) (c.arithmetic.ensures u v a b))) }

pub assign-turn-requires : goal.assign-turn-requires
assign-turn-requires t c = let e = c.if-m-eq0.true in (omega arith, scoping_shift c.requires _ 0 (omega arith) (omega arith))

pub assign-returns-then-m-eq0 : goal.assign-returns-then-m-eq0
assign-returns-then-m-eq0 t c = assigns_none c.args.doc.now c.args.state.now _ _ c.args.n c.args.m c.args.k c.args.s.now _ _ c.if-m-eq0.true c.turn.ensures

pub assign-each-requires : goal.assign-each-requires
assign-each-requires t c =
    let f = c.requires.few in
    let e = c.if-m-eq0.false in
    let w = c.word-c.ensures.1 in
    (omega arith, (scoping_shift c.requires _ _ (omega arith) (omega arith), w))

pub assign-returns : goal.assign-returns
assign-returns t c = assigns_some c.args.doc.now c.args.state.now _ _ c.args.n c.args.m c.args.k _ c.args.s.now _ _ c.if-m-eq0.false c.word-c.ensures.0 c.each.ensures

pub below-reckon-requires : goal.below-reckon-requires
below-reckon-requires t c =
    let h = c.requires.0 in
    let o = relation_operands h 23 c.requires.1 (omega arith) (omega arith) _ (get_or c.args.w.now 2 0) c.word.ensures.0 refl in
    let x = o.0.below in
    (omega arith, ready_lower _ expressions _ refl h.ready o.0)

pub below-returns-in_err-x : goal.below-returns-in_err-x
below-returns-in_err-x t c =
    let e = c.in_err-x.ensures in
    let h = c.requires.0 in
    record { kept = e.kept; told = λ scope sc. exit_told c.from_residual.ensures.1 (below_told h _ (get_or c.args.w.now 2 0) c.word.ensures.0 refl scope c.requires.1 (halt_told _ (e.told scope sc))) }

pub below-reckon-requires-2 : goal.below-reckon-requires-2
below-reckon-requires-2 t c =
    let h = c.requires.0 in
    let o = relation_operands h 23 c.requires.1 (omega arith) (omega arith) _ _ c.word.ensures.0 c.word-2.ensures.0 in
    let x = o.1.below in
    (omega arith, ready_lower _ expressions _ c.reckon.auto.work h.ready o.1)

pub below-returns-in_err-y : goal.below-returns-in_err-y
below-returns-in_err-y t c =
    let e = c.in_ok-x.ensures in
    let g = c.in_err-y.ensures in
    let h = c.requires.0 in
    record { kept = g.kept ∙ e.kept; told = λ scope sc. exit_told c.from_residual-in_err-y.ensures.1 (below_told h _ _ c.word.ensures.0 c.word-2.ensures.0 scope c.requires.1 (second_told (e.told scope sc) (g.told scope (scoped_same _ _ _ _ e.kept sc)) _)) }

pub below-returns : goal.below-returns
below-returns t c =
    let e = c.in_ok-x.ensures in
    let g = c.in_ok-y.ensures in
    let h = c.requires.0 in
    record { kept = g.kept ∙ e.kept; told = λ scope sc. below_told h _ _ c.word.ensures.0 c.word-2.ensures.0 scope c.requires.1 (both_told (e.told scope sc) (g.told scope (scoped_same _ _ _ _ e.kept sc)) (λ u v a b. c.at_most.ensures u v a b)) }

pub body-expr-requires : goal.body-expr-requires
body-expr-requires t c =
    let w = c.requires.1 in
    let q = sym (ap (λ (l : List ℕ). get_or l 0 0) w) ∙ sym c.word.ensures.0 ∙ c.if-word-eq-COMPREHENSION.true in
    let o = body_expr c.requires.0 q _ (c.word-b.ensures.0 ∙ ap (λ (l : List ℕ). get_or l 2 0) w) in
    let b = o.below in
    let z : c.args.n + 0 ≡ c.args.n = omega arith in
    (omega arith, subst (λ (j : ℕ). Ready c.args.doc.now c.args.work.now expressions j c.word-b.result) z (body_ready c.requires.0 expressions _ o))

pub body-returns-in_err-x : goal.body-returns-in_err-x
body-returns-in_err-x t c =
    let w = c.requires.1 in
    let e = c.in_err-x.ensures in
    let q = sym (ap (λ (l : List ℕ). get_or l 0 0) w) ∙ sym c.word.ensures.0 ∙ c.if-word-eq-COMPREHENSION.true in
    record { kept = e.kept; told = λ scope sc vs h. exit_told c.from_residual.ensures.1 (gather_stop c.args.doc.now c.args.k _ (c.word-b.ensures.0 ∙ ap (λ (l : List ℕ). get_or l 2 0) w) scope vs q (e.told scope sc)) }

pub body-returns-then-word-eq-COMPREHENSION : goal.body-returns-then-word-eq-COMPREHENSION
body-returns-then-word-eq-COMPREHENSION t c =
    let w = c.requires.1 in
    let e = c.in_ok-x.ensures in
    let q = sym (ap (λ (l : List ℕ). get_or l 0 0) w) ∙ sym c.word.ensures.0 ∙ c.if-word-eq-COMPREHENSION.true in
    record { kept = e.kept; told = λ scope sc vs h. gather_go c.args.doc.now c.args.k _ (c.word-b.ensures.0 ∙ ap (λ (l : List ℕ). get_or l 2 0) w) scope vs q (e.told scope sc) (λ v g. c.in_ok-gather.ensures vs v (h.gathers q) g) }

pub body-pred-requires : goal.body-pred-requires
body-pred-requires t c =
    let w = c.requires.1 in
    let o = body_pred c.requires.0 (λ q. c.if-word-eq-COMPREHENSION.false (c.word.ensures.0 ∙ ap (λ (l : List ℕ). get_or l 0 0) w ∙ q)) _ (c.word-b.ensures.0 ∙ ap (λ (l : List ℕ). get_or l 2 0) w) in
    let b = o.below in
    let z : c.args.n + 0 ≡ c.args.n = omega arith in
    (omega arith, subst (λ (j : ℕ). Ready c.args.doc.now c.args.work.now predicates j c.word-b.result) z (body_ready c.requires.0 predicates _ o))

pub body-returns-in_err-y : goal.body-returns-in_err-y
body-returns-in_err-y t c =
    let w = c.requires.1 in
    let e = c.in_err-y.ensures in
    record { kept = e.kept; told = λ scope sc vs h. exit_told c.from_residual-in_err-y.ensures.1 (decide_stop c.args.doc.now c.args.k _ (c.word-b.ensures.0 ∙ ap (λ (l : List ℕ). get_or l 2 0) w) scope vs (λ q. c.if-word-eq-COMPREHENSION.false (c.word.ensures.0 ∙ ap (λ (l : List ℕ). get_or l 0 0) w ∙ q)) (e.told scope sc)) }

pub body-returns : goal.body-returns
body-returns t c =
    let w = c.requires.1 in
    let e = c.in_ok-y.ensures in
    let k = c.word-2.ensures.0 ∙ ap (λ (l : List ℕ). get_or l 0 0) w in
    record { kept = e.kept; told = λ scope sc vs h. decide_go c.args.doc.now c.args.k _ (c.word-b.ensures.0 ∙ ap (λ (l : List ℕ). get_or l 2 0) w) scope vs (λ q. c.if-word-eq-COMPREHENSION.false (c.word.ensures.0 ∙ ap (λ (l : List ℕ). get_or l 0 0) w ∙ q)) (e.told scope sc) (sym c.if-verdict.false ∙ c.verdict.ensures ∙ ap (λ (j : ℕ). verdict_of (quantifier_of j) c.in_ok-y.y) k) }

pub compr-put_set-requires : goal.compr-put_set-requires
compr-put_set-requires t c = let h = c.empty_set.ensures in omega (arith, held_len _ _ h.words h.short, h.short)

pub compr-lines-requires : goal.compr-lines-requires
compr-lines-requires t c =
    let h = c.requires.0 in
    let x = c.word-t.ensures.0 in
    (omega arith, lines_start (compr_scoping empty _ x h c.requires.1) _ _ (in_words h 1 _ x) c.part.ensures)

pub compr-returns-in_err-x : goal.compr-returns-in_err-x
compr-returns-in_err-x t c =
    let e = c.in_err-x.ensures in
    let h = c.requires.0 in
    let z : c.args.n ≡ c.args.n + 0 = omega arith in
    let g : SoFar c.args.doc.now c.args.k _ Value.nil = record { gathers = λ q. c.put_set.ensures Value.nil (omega arith) c.empty_set.ensures } in
    record { kept = e.kept; told = λ scope sc. exit_told c.from_residual.ensures.1 (compr_stop scope _ c.word-t.ensures.0 h c.requires.1 (rw c.part.ensures at (e.told scope sc (subst (λ (j : ℕ). Scoped c.args.state.now c.args.work.now j scope) z sc) no_more Blocks.none g))) }

pub compr-returns-in-Halt : goal.compr-returns-in-Halt
compr-returns-in-Halt t c =
    let e = c.in_ok-x.ensures in
    let h = c.requires.0 in
    let m = c.in-Halt.is in
    let z : c.args.n ≡ c.args.n + 0 = omega arith in
    let g : SoFar c.args.doc.now c.args.k _ Value.nil = record { gathers = λ q. c.put_set.ensures Value.nil (omega arith) c.empty_set.ensures } in
    record { kept = e.kept; told = λ scope sc. compr_halt scope _ c.word-t.ensures.0 h c.requires.1 (rw m at (rw c.part.ensures at (e.told scope sc (subst (λ (j : ℕ). Scoped c.args.state.now c.args.work.now j scope) z sc) no_more Blocks.none g))) c.empty_set-in-Halt.ensures }

pub compr-returns-in-Go : goal.compr-returns-in-Go
compr-returns-in-Go t c =
    let e = c.in_ok-x.ensures in
    let h = c.requires.0 in
    let m = c.in-Go.is in
    let z : c.args.n ≡ c.args.n + 0 = omega arith in
    let g : SoFar c.args.doc.now c.args.k _ Value.nil = record { gathers = λ q. c.put_set.ensures Value.nil (omega arith) c.empty_set.ensures } in
    record { kept = e.kept; told = λ scope sc. compr_go scope _ c.word-t.ensures.0 h c.requires.1 (rw m at (rw c.part.ensures at (e.told scope sc (subst (λ (j : ℕ). Scoped c.args.state.now c.args.work.now j scope) z sc) no_more Blocks.none g))) c.gathered.ensures }

pub connect-pred-requires : goal.connect-pred-requires
connect-pred-requires t c =
    let h = c.requires.0 in
    let o = connected_operands h c.requires.1 c.requires.2 _ (get_or c.args.w.now 2 0) c.word.ensures.0 refl in
    let x = o.0.below in
    (omega arith, ready_lower _ predicates _ refl h.ready o.0)

pub connect-returns-in_err-x : goal.connect-returns-in_err-x
connect-returns-in_err-x t c =
    let e = c.in_err-x.ensures in
    record { kept = e.kept; told = λ scope sc. exit_told c.from_residual.ensures.1 (connected_stop c.requires.0 c.requires.1 c.requires.2 _ (get_or c.args.w.now 2 0) c.word.ensures.0 refl scope (e.told scope sc)) }

pub connect-pred-requires-in-None : goal.connect-pred-requires-in-None
connect-pred-requires-in-None t c =
    let h = c.requires.0 in
    let o = connected_operands h c.requires.1 c.requires.2 _ _ c.word.ensures.0 c.word-in-None.ensures.0 in
    let x = o.1.below in
    let m = c.decreases in
    (omega arith, ready_lower _ predicates _ c.pred.auto.work h.ready o.1)

pub connect-returns-in-Some : goal.connect-returns-in-Some
connect-returns-in-Some t c =
    let e = c.in_ok-x.ensures in
    let q = c.decides.ensures ∙ ap (λ (j : ℕ). decision_of (connective_of j) c.in_ok-x.x) (in_words c.requires.0 0 _ c.word-2.ensures.0) in
    record { kept = e.kept; told = λ scope sc. connected_known c.requires.0 c.requires.1 c.requires.2 _ (get_or c.args.w.now 2 0) c.word.ensures.0 refl scope _ (e.told scope sc) (sym c.in-Some.is ∙ q) }

pub connect-returns-in-None : goal.connect-returns-in-None
connect-returns-in-None t c =
    let e = c.in_ok-x.ensures in
    let g = c.pred-in-None.ensures in
    let q = c.decides.ensures ∙ ap (λ (j : ℕ). decision_of (connective_of j) c.in_ok-x.x) (in_words c.requires.0 0 _ c.word-2.ensures.0) in
    record { kept = g.kept ∙ e.kept; told = λ scope sc. connected_right c.requires.0 c.requires.1 c.requires.2 _ _ c.word.ensures.0 c.word-in-None.ensures.0 scope (e.told scope sc) (sym c.in-None.is ∙ q) (g.told scope (scoped_same _ _ _ _ e.kept sc)) }

pub display-put_set-requires : goal.display-put_set-requires
display-put_set-requires t c = let h = c.empty_set.ensures in omega (arith, held_len _ _ h.words h.short, h.short)

pub display-adds-requires : goal.display-adds-requires
display-adds-requires t c =
    let h = c.requires.0 in
    (omega arith, (h, member_operands h 33 c.requires.1 (omega arith) (omega arith), omega arith))

pub display-returns-in_err-adds : goal.display-returns-in_err-adds
display-returns-in_err-adds t c =
    let e = c.in_err-adds.ensures in
    let h = c.requires.0 in
    let g = c.put_set.ensures nil (omega arith) c.empty_set.ensures in
    record { kept = e.kept; told = λ scope sc. exit_told c.from_residual.ensures.1 (set_stop h c.requires.1 scope (e.told nil g scope sc)) }

pub display-returns : goal.display-returns
display-returns t c =
    let e = c.in_ok-adds.ensures in
    let h = c.requires.0 in
    let g = c.put_set.ensures nil (omega arith) c.empty_set.ensures in
    record { kept = e.kept; told = λ scope sc. set_go h c.requires.1 scope (e.told nil g scope sc) c.gathered.ensures }

pub each-loop-i-init : goal.each-loop-i-init
each-loop-i-init t c = let a = c.args in let z : a.c ≡ a.c - 0 = omega arith in (refl, refl, omega arith, subst (λ (j : ℕ). EachLeft a.doc.now a.state.now a.n a.m a.k a.c a.work.now a.s.now a.work.now a.s.now 2 j) z (left_all a.doc.now a.state.now a.n a.m a.k a.c a.work.now a.s.now))

pub each-returns-then-at-gt-VALUE : goal.each-returns-then-at-gt-VALUE
each-returns-then-at-gt-VALUE t c =
    let a = c.args in
    c.loop-i.invariant.3.each _ _ _ (each_past a.doc.now a.state.now _ a.n a.m a.k c.loop-i.at (a.c - c.loop-i.i) c.loop-i.s _ c.if-at-gt-VALUE.true)

pub each-put_head-requires : goal.each-put_head-requires
each-put_head-requires t c =
    let r = c.requires.0.room in
    let l = c.span-len.ensures.1 in
    let w = c.word.ensures.1 in
    let z = c.if-at-gt-VALUE.false in
    (omega arith, w, omega arith, omega arith)

pub each-assign-requires : goal.each-assign-requires
each-assign-requires t c =
    let t = c.decreases in
    let f = c.requires.0.few in
    (omega arith, scoping_shift (scoping_same c.requires.0 _ (c.put_head.auto.work ∙ c.loop-i.invariant.0)) _ _ (omega arith) (omega arith))

pub each-returns-in_err-x : goal.each-returns-in_err-x
each-returns-in_err-x t c =
    let a = c.args in
    let r = c.requires.0.room in
    let v = c.requires.0.wide in
    let z = c.loop-i.invariant.0 in
    let t = c.loop-i-test.true in
    let el = c.span-len.ensures.0 ∙ ap span c.from.ensures in
    let e1 = rw c.word.ensures.0 at c.put_head.ensures in
    let p = err_from_is_err_and c.from_residual.result c.from_residual.ensures.1 in
    rw (p.1, p.2)
    (left_stop a.doc.now a.state.now _ _ _ a.n a.m a.k c.loop-i.at (a.c - c.loop-i.i) _ _ c.loop-i.s _ _ refl el e1 (omega arith) c.assign.ensures (λ y. omega arith) a.c a.work.now a.s.now c.loop-i.invariant.3 _ c.in_err-x.was)

pub each-returns-in-Halt : goal.each-returns-in-Halt
each-returns-in-Halt t c =
    let a = c.args in
    let r = c.requires.0.room in
    let v = c.requires.0.wide in
    let z = c.loop-i.invariant.0 in
    let t = c.loop-i-test.true in
    let el = c.span-len.ensures.0 ∙ ap span c.from.ensures in
    let e1 = rw c.word.ensures.0 at c.put_head.ensures in
    left_halt a.doc.now a.state.now _ _ _ a.n a.m a.k c.loop-i.at (a.c - c.loop-i.i) _ _ c.loop-i.s _ _ refl el e1 (omega arith) c.assign.ensures (λ y. omega arith) a.c a.work.now a.s.now c.loop-i.invariant.3 (c.in_ok-x.was ∙ ap Ok c.in-Halt.is)

pub each-loop-i-preserved : goal.each-loop-i-preserved
each-loop-i-preserved t c =
    let a = c.args in
    let r = c.requires.0.room in
    let v = c.requires.0.wide in
    let z = c.loop-i.invariant.0 in
    let t = c.loop-i-test.true in
    let el = c.span-len.ensures.0 ∙ ap span c.from.ensures in
    let e1 = rw c.word.ensures.0 at c.put_head.ensures in
    let k = c.assign.auto in
    let q = c.if-at-gt-VALUE.false in
    let d = c.span-len.ensures.1 in
    let y : a.c - c.loop-i.i - 1 ≡ a.c - (c.loop-i.i + 1) = omega arith in
    (k.work ∙ c.put_head.auto.work ∙ z, k.s ∙ c.loop-i.invariant.1, omega arith, subst (λ (j : ℕ). EachLeft a.doc.now a.state.now a.n a.m a.k a.c a.work.now a.s.now c.assign.new.work c.assign.new.s (c.loop-i.at + c.span-len.result) j) y (left_more a.doc.now a.state.now _ _ _ a.n a.m a.k c.loop-i.at (a.c - c.loop-i.i) _ _ c.loop-i.s _ _ refl el e1 (omega arith) c.assign.ensures (λ y. omega arith) a.c a.work.now a.s.now c.loop-i.invariant.3 (c.in_ok-x.was ∙ ap Ok c.in-Go.is)))

pub each-returns : goal.each-returns
each-returns t c =
    let a = c.args in
    c.loop-i.invariant.3.each _ _ _ (each_end a.doc.now a.state.now _ a.n a.m a.k c.loop-i.at (a.c - c.loop-i.i) c.loop-i.s (omega arith))

pub each_part-returns-then-w-i : goal.each_part-returns-then-w-i
each_part-returns-then-w-i t c =
    let a = c.args in
    record { kept = refl; told = λ vs g scope sc. product_end a.doc.now a.k (length a.w.now) a.i scope a.v a.at c.if-w-i.true vs }

pub each_part-tests-requires : goal.each_part-tests-requires
each_part-tests-requires t c =
    let o : Lower c.args.doc.now c.args.k expressions c.word.result = subst (Lower c.args.doc.now c.args.k expressions) (sym c.word.ensures.0) (c.requires.1.each c.args.i (omega arith) (omega (arith, c.if-w-i.false))) in
    let b = o.below in
    (omega arith, ready_lower _ expressions _ refl c.requires.0.ready o)

pub each_part-returns-in_err-x : goal.each_part-returns-in_err-x
each_part-returns-in_err-x t c =
    let a = c.args in
    let e = c.in_err-x.ensures in
    record { kept = e.kept; told = λ vs g scope sc. exit_told c.from_residual.ensures.1 (product_stop a.doc.now a.k (length a.w.now) a.i scope a.v a.at (omega (arith, c.if-w-i.false)) _ _ c.length_at-len.ensures.0 c.member_at.ensures _ (in_words c.requires.0 a.i _ c.word.ensures.0) vs g (λ y h. e.told y h scope sc)) }

pub each_part-each_part-requires : goal.each_part-each_part-requires
each_part-each_part-requires t c =
    let l = c.if-w-i.false in
    let f = c.requires.0.few in
    let m = c.length_at-len.ensures.1 in
    let a = c.requires.3 in
    let t = c.decreases in
    (omega arith, (handed_same _ c.tests.auto.work c.requires.0, record { each = λ j p q. c.requires.1.each j (omega arith) q }, omega arith, omega arith))

pub each_part-returns-then-x : goal.each_part-returns-then-x
each_part-returns-then-x t c =
    let a = c.args in
    let e = c.in_ok-x.ensures in
    let k = c.each_part.ensures in
    record { kept = k.kept ∙ e.kept; told = λ vs g scope sc. product_go a.doc.now a.k (length a.w.now) a.i scope a.v a.at (omega (arith, c.if-w-i.false)) _ _ c.length_at-len.ensures.0 c.member_at.ensures _ (in_words c.requires.0 a.i _ c.word.ensures.0) vs g (λ y h. e.told y h scope sc) c.if-x.true (λ us r. k.told us r scope (scoped_same _ _ _ _ e.kept sc)) }

pub each_part-returns : goal.each_part-returns
each_part-returns t c =
    let a = c.args in
    let e = c.in_ok-x.ensures in
    record { kept = e.kept; told = λ vs g scope sc. product_false a.doc.now a.k (length a.w.now) a.i scope a.v a.at (omega (arith, c.if-w-i.false)) _ _ c.length_at-len.ensures.0 c.member_at.ensures _ (in_words c.requires.0 a.i _ c.word.ensures.0) vs g (λ y h. e.told y h scope sc) c.if-x.false }

pub expr-refers-requires : goal.expr-refers-requires
expr-refers-requires t c = (omega arith, (handed_of c.requires c.part-w.ensures, sym (ap (λ (l : List ℕ). get_or l 0 0) c.part-w.ensures) ∙ sym c.word-q.ensures.0 ∙ c.in-30.is))

pub expr-counted-requires : goal.expr-counted-requires
expr-counted-requires t c =
    let h = handed_of c.requires c.part-w.ensures in
    subst (λ (z : ℕ). z ≤ 2147483647) (sym (in_words h 1 _ c.word.ensures.0)) (number_word _ expressions _ c.requires.at (sym (ap (λ (l : List ℕ). get_or l 0 0) c.part-w.ensures) ∙ sym c.word-q.ensures.0 ∙ c.in-31.is))

pub expr-display-requires : goal.expr-display-requires
expr-display-requires t c = (omega arith, (handed_of c.requires c.part-w.ensures, sym (ap (λ (l : List ℕ). get_or l 0 0) c.part-w.ensures) ∙ sym c.word-q.ensures.0 ∙ c.in-33.is))

pub expr-tuple-requires : goal.expr-tuple-requires
expr-tuple-requires t c = (omega arith, (handed_of c.requires c.part-w.ensures, sym (ap (λ (l : List ℕ). get_or l 0 0) c.part-w.ensures) ∙ sym c.word-q.ensures.0 ∙ c.in-34.is))

pub expr-tuples-requires : goal.expr-tuples-requires
expr-tuples-requires t c = (omega arith, (handed_of c.requires c.part-w.ensures, sym (ap (λ (l : List ℕ). get_or l 0 0) c.part-w.ensures) ∙ sym c.word-q.ensures.0 ∙ c.in-35.is))

pub expr-subsets-requires : goal.expr-subsets-requires
expr-subsets-requires t c = (omega arith, (handed_of c.requires c.part-w.ensures, sym (ap (λ (l : List ℕ). get_or l 0 0) c.part-w.ensures) ∙ sym c.word-q.ensures.0 ∙ c.in-36.is))

pub expr-apply-requires : goal.expr-apply-requires
expr-apply-requires t c = (omega arith, (handed_of c.requires c.part-w.ensures, sym (ap (λ (l : List ℕ). get_or l 0 0) c.part-w.ensures) ∙ sym c.word-q.ensures.0 ∙ c.in-37.is))

pub expr-compr-requires : goal.expr-compr-requires
expr-compr-requires t c = (omega arith, (handed_of c.requires c.part-w.ensures, sym (ap (λ (l : List ℕ). get_or l 0 0) c.part-w.ensures) ∙ sym c.word-q.ensures.0 ∙ c.in-46.is))

pub expr-arith-requires : goal.expr-arith-requires
expr-arith-requires t c =
    let q : c.word-q.result ≡ kind_at c.args.doc.now c.args.k = c.word-q.ensures.0 ∙ ap (λ (l : List ℕ). get_or l 0 0) c.part-w.ensures in
    (omega arith, (handed_of c.requires c.part-w.ensures, omega arith, omega arith))

pub expr-returns-in-30 : goal.expr-returns-in-30
expr-returns-in-30 t c = c.refers.ensures

pub expr-returns-in-31 : goal.expr-returns-in-31
expr-returns-in-31 t c =
    let h = handed_of c.requires c.part-w.ensures in
    record { kept = refl; told = λ scope sc. number_told _ _ c.requires.at (sym (ap (λ (l : List ℕ). get_or l 0 0) c.part-w.ensures) ∙ sym c.word-q.ensures.0 ∙ c.in-31.is) _ (in_words h 1 _ c.word.ensures.0) scope (c.whole.ensures _ (counted_word _ _ c.counted.ensures)) }

pub expr-returns-in-33 : goal.expr-returns-in-33
expr-returns-in-33 t c = c.display.ensures

pub expr-returns-in-34 : goal.expr-returns-in-34
expr-returns-in-34 t c = c.tuple.ensures

pub expr-returns-in-35 : goal.expr-returns-in-35
expr-returns-in-35 t c = c.tuples.ensures

pub expr-returns-in-36 : goal.expr-returns-in-36
expr-returns-in-36 t c = c.subsets.ensures

pub expr-returns-in-37 : goal.expr-returns-in-37
expr-returns-in-37 t c = c.apply.ensures

pub expr-returns-in-46 : goal.expr-returns-in-46
expr-returns-in-46 t c = c.compr.ensures

pub expr-returns-in_ok-arith-in-41-to-45 : goal.expr-returns-in_ok-arith-in-41-to-45
expr-returns-in_ok-arith-in-41-to-45 t c = let g = c.in_ok-arith-in-41-to-45.ensures in record { kept = g.kept; told = λ scope sc. fine_told (λ a d. c.whole-in-41-to-45.ensures a (counted_word _ a d)) (g.told scope sc) }

pub expr-returns-in_default : goal.expr-returns-in_default
expr-returns-in_default t c =
    let q = c.word-q.ensures.0 ∙ ap (λ (l : List ℕ). get_or l 0 0) c.part-w.ensures in
    let r = c.in_default-1.rest in
    let u : Unrun (kind_at c.args.doc.now c.args.k) = record { a = λ e. r.0.0.0.0.0.0.0.1 (q ∙ e); b = λ e. r.0.0.0.0.0.0.1 (q ∙ e); c = λ e. r.0.0.0.0.0.1 (q ∙ e); d = λ e. r.0.0.0.0.1 (q ∙ e); e = λ e. r.0.0.0.1 (q ∙ e); f = λ e. r.0.0.1 (q ∙ e); g = λ e. r.0.1 (q ∙ e); h = λ e. r.1 (q ∙ e); i = λ x y. ⊎_elim (λ t. let v = t.if-this-lt41-1.true in omega (arith, q)) (λ p. let v = p.if-this-lt46-1.false in omega (arith, q)) c.in_default.branch-raw } in
    record { kept = refl; told = λ scope sc. unrun_told _ _ c.requires.at u scope c.refusal.ensures }

pub factors-returns-then-w-i : goal.factors-returns-then-w-i
factors-returns-then-w-i t c =
    let a = c.args in
    record { kept = refl; told = λ rs u scope sc. factors_end a.s rs a.doc.now a.k (length a.w.now) a.i scope c.if-w-i.true u }

pub factors-expr-requires : goal.factors-expr-requires
factors-expr-requires t c =
    let o : Lower c.args.doc.now c.args.k expressions c.word.result = subst (Lower c.args.doc.now c.args.k expressions) (sym c.word.ensures.0) (c.requires.1.each c.args.i (omega arith) (omega arith)) in
    let b = o.below in
    (omega arith, ready_lower _ expressions _ refl c.requires.0.ready o)

pub factors-returns-in_err-x : goal.factors-returns-in_err-x
factors-returns-in_err-x t c =
    let e = c.in_err-x.ensures in
    let a = c.args in
    record { kept = e.kept; told = λ rs u scope sc. exit_told c.from_residual.ensures.1 (exprs_stop a.doc.now a.k (length a.w.now) a.i scope _ (in_words c.requires.0 a.i _ c.word.ensures.0) (omega arith) (e.told scope sc)) }

pub factors-overflow_add-i : goal.factors-overflow_add-i
factors-overflow_add-i t c = record { fits = omega (arith, c.requires.2) }

pub factors-factors-requires : goal.factors-factors-requires
factors-factors-requires t c =
    let f = c.requires.0.few in
    let l = c.if-w-i.false in
    let m = c.decreases in
    (omega arith, (handed_same _ c.expr.auto.work c.requires.0, record { each = λ j p q. c.requires.1.each j (omega arith) q }, omega arith))

pub factors-returns : goal.factors-returns
factors-returns t c =
    let e = c.in_ok-x.ensures in
    let g = c.factors.ensures in
    let a = c.args in
    record { kept = g.kept ∙ e.kept; told = λ rs u scope sc. factors_go a.s rs a.doc.now a.k (length a.w.now) a.i scope _ (in_words c.requires.0 a.i _ c.word.ensures.0) (omega (arith, c.if-w-i.false)) (e.told scope sc) (λ v h. c.crossed.ensures rs v u h) (λ qs y. g.told qs y scope (scoped_same _ _ _ _ e.kept sc)) }

pub lines-assign-requires : goal.lines-assign-requires
lines-assign-requires t c =
    let f = c.requires.5 in
    let t = c.decreases in
    (omega arith, scoping_shift c.requires.0 _ _ (omega arith) (omega arith))

pub lines-returns-then-u-i : goal.lines-returns-then-u-i
lines-returns-then-u-i t c =
    let a = c.args in
    lines_done a.doc.now a.k a.t (length a.u.now) a.i a.state.now a.work.now a.n a.m a.s.now _ _ _ c.if-u-i.true c.assign.ensures

pub lines-refusal-requires : goal.lines-refusal-requires
lines-refusal-requires t c = let a = c.args in (line_at_lem c.requires.0 a.t c.requires.1 a.u.now c.requires.2 a.i _ c.requires.3 (omega (arith, c.if-u-i.false)) c.word-v.ensures.0).0.at.small

pub lines-refusal-requires-then-tag_of-ne-SET : goal.lines-refusal-requires-then-tag_of-ne-SET
lines-refusal-requires-then-tag_of-ne-SET t c = let a = c.args in (line_at_lem c.requires.0 a.t c.requires.1 a.u.now c.requires.2 a.i _ c.requires.3 (omega (arith, c.if-u-i.false)) c.word-v.ensures.0).0.at.small

pub lines-overflow_sub-x : goal.lines-overflow_sub-x
lines-overflow_sub-x t c =
    let a = c.args in
    let o = line_at_lem c.requires.0 a.t c.requires.1 a.u.now c.requires.2 a.i _ c.requires.3 (omega (arith, c.if-u-i.false)) c.word-v.ensures.0 in
    let d = decl_words a.doc.now _ o.0.at (λ z. c.if-word-eq-INCLUDE.false (c.word.ensures.0 ∙ ap (λ (l : List ℕ). get_or l 0 0) c.part-x.ensures ∙ z)) in
    omega (arith, ap length c.part-x.ensures)

pub lines-returns-then-word-eq-INCLUDE : goal.lines-returns-then-word-eq-INCLUDE
lines-returns-then-word-eq-INCLUDE t c =
    let a = c.args in
    let o = line_at_lem c.requires.0 a.t c.requires.1 a.u.now c.requires.2 a.i _ c.requires.3 (omega (arith, c.if-u-i.false)) c.word-v.ensures.0 in
    let q = sym (ap (λ (l : List ℕ). get_or l 0 0) c.part-x.ensures) ∙ sym c.word.ensures.0 ∙ c.if-word-eq-INCLUDE.true in
    record { kept = refl; told = include_told a.doc.now a.k a.t (length a.u.now) a.i a.state.now a.work.now a.n a.m a.s.now a.s.now (omega (arith, c.if-u-i.false)) _ o.1 o.0.at q _ c.refusal.ensures }

pub lines-expr-requires : goal.lines-expr-requires
lines-expr-requires t c =
    let a = c.args in
    let o = line_at_lem c.requires.0 a.t c.requires.1 a.u.now c.requires.2 a.i _ c.requires.3 (omega (arith, c.if-u-i.false)) c.word-v.ensures.0 in
    let d = decl_operand a.doc.now a.k a.t (length a.u.now) a.i a.state.now a.work.now a.n a.m a.s.now a.s.now (omega (arith, c.if-u-i.false)) _ o.1 o.0.at (λ z. c.if-word-eq-INCLUDE.false (c.word.ensures.0 ∙ ap (λ (l : List ℕ). get_or l 0 0) c.part-x.ensures ∙ z)) _ (c.word-2.ensures.0 ∙ ap (λ (l : List ℕ). get_or l 1 0) c.part-x.ensures) in
    let f = c.requires.5 in
    let r = line_ready c.requires.0 a.m a.t _ _ (omega arith) c.requires.1 o.0 d in
    let b = r.0 in
    (omega arith, r.1)

pub lines-returns-in_err-y : goal.lines-returns-in_err-y
lines-returns-in_err-y t c =
    let a = c.args in
    let o = line_at_lem c.requires.0 a.t c.requires.1 a.u.now c.requires.2 a.i _ c.requires.3 (omega (arith, c.if-u-i.false)) c.word-v.ensures.0 in
    let e = c.in_err-y.ensures in
    record { kept = same_less (block_words * (a.n + a.m)) _ _ e.kept (block_words * a.n) (omega arith); told = λ scope sc sm ds p gs. exit_told c.from_residual.ensures.1 (decl_stop a.doc.now a.k a.t (length a.u.now) a.i a.state.now a.work.now a.n a.m a.s.now a.s.now (omega (arith, c.if-u-i.false)) _ o.1 o.0.at (λ z. c.if-word-eq-INCLUDE.false (c.word.ensures.0 ∙ ap (λ (l : List ℕ). get_or l 0 0) c.part-x.ensures ∙ z)) _ (c.word-2.ensures.0 ∙ ap (λ (l : List ℕ). get_or l 1 0) c.part-x.ensures) e.told scope sc sm ds p gs) }

pub lines-returns-then-tag_of-ne-SET : goal.lines-returns-then-tag_of-ne-SET
lines-returns-then-tag_of-ne-SET t c =
    let a = c.args in
    let o = line_at_lem c.requires.0 a.t c.requires.1 a.u.now c.requires.2 a.i _ c.requires.3 (omega (arith, c.if-u-i.false)) c.word-v.ensures.0 in
    let e = c.in_ok-y.ensures in
    record { kept = same_less (block_words * (a.n + a.m)) _ _ e.kept (block_words * a.n) (omega arith); told = decl_other a.doc.now a.k a.t (length a.u.now) a.i a.state.now a.work.now a.n a.m a.s.now a.s.now (omega (arith, c.if-u-i.false)) _ o.1 o.0.at (λ z. c.if-word-eq-INCLUDE.false (c.word.ensures.0 ∙ ap (λ (l : List ℕ). get_or l 0 0) c.part-x.ensures ∙ z)) _ (c.word-2.ensures.0 ∙ ap (λ (l : List ℕ). get_or l 1 0) c.part-x.ensures) _ e.told (λ z. c.if-tag_of-ne-SET.true (c.tag_of.ensures ∙ z)) c.refusal-then-tag_of-ne-SET.ensures }

pub lines-put_domains-requires : goal.lines-put_domains-requires
lines-put_domains-requires t c =
    let a = c.args in
    let o = line_at_lem c.requires.0 a.t c.requires.1 a.u.now c.requires.2 a.i _ c.requires.3 (omega (arith, c.if-u-i.false)) c.word-v.ensures.0 in
    let k = decl_count a.doc.now a.k a.t (length a.u.now) a.i a.state.now a.work.now a.n a.m a.s.now a.s.now (omega (arith, c.if-u-i.false)) _ o.1 o.0.at (λ z. c.if-word-eq-INCLUDE.false (c.word.ensures.0 ∙ ap (λ (l : List ℕ). get_or l 0 0) c.part-x.ensures ∙ z)) in
    let p = ap length c.part-x.ensures in
    let f = c.requires.5 in
    let r = c.requires.0.room in
    let w = c.requires.0.wide in
    let v = few_words a.doc.now lines _ o.0.at in
    let z = c.expr.auto.work in
    (omega arith, omega arith, omega arith)

pub lines-lines-requires : goal.lines-lines-requires
lines-lines-requires t c =
    let a = c.args in
    let o = line_at_lem c.requires.0 a.t c.requires.1 a.u.now c.requires.2 a.i _ c.requires.3 (omega (arith, c.if-u-i.false)) c.word-v.ensures.0 in
    let k = decl_count a.doc.now a.k a.t (length a.u.now) a.i a.state.now a.work.now a.n a.m a.s.now a.s.now (omega (arith, c.if-u-i.false)) _ o.1 o.0.at (λ z. c.if-word-eq-INCLUDE.false (c.word.ensures.0 ∙ ap (λ (l : List ℕ). get_or l 0 0) c.part-x.ensures ∙ z)) in
    let p = ap length c.part-x.ensures in
    let f = c.requires.5 in
    let u = c.requires.4 in
    let g = c.requires.3 in
    let m = c.decreases in
    let y = c.if-u-i.false in
    (omega arith, (scoping_same c.requires.0 _ (c.put_domains.auto.work ∙ c.expr.auto.work), c.requires.1, c.requires.2, omega arith, u, omega arith))

pub lines-returns : goal.lines-returns
lines-returns t c =
    let a = c.args in
    let o = line_at_lem c.requires.0 a.t c.requires.1 a.u.now c.requires.2 a.i _ c.requires.3 (omega (arith, c.if-u-i.false)) c.word-v.ensures.0 in
    let e = c.in_ok-y.ensures in
    let d = rw c.part-x.ensures at c.put_domains.ensures in
    let g = rw c.part-x.ensures at c.lines.ensures in
    let low = d.kept ∙ e.kept in
    record { kept = g.kept ∙ same_less (block_words * (a.n + a.m)) _ _ low (block_words * a.n) (omega arith); told = decl_go a.doc.now a.k a.t (length a.u.now) a.i a.state.now a.work.now a.n a.m a.s.now _ (omega (arith, c.if-u-i.false)) _ o.1 o.0.at (λ z. c.if-word-eq-INCLUDE.false (c.word.ensures.0 ∙ ap (λ (l : List ℕ). get_or l 0 0) c.part-x.ensures ∙ z)) _ (c.word-2.ensures.0 ∙ ap (λ (l : List ℕ). get_or l 1 0) c.part-x.ensures) _ _ _ e.told (sym c.tag_of.ensures ∙ c.if-tag_of-ne-SET.false) e.kept d g.told }

pub member-expr-requires : goal.member-expr-requires
member-expr-requires t c =
    let h = c.requires.0 in
    let o = relation_operands h 22 c.requires.1 (omega arith) (omega arith) _ (get_or c.args.w.now 2 0) c.word.ensures.0 refl in
    let x = o.0.below in
    (omega arith, ready_lower _ expressions _ refl h.ready o.0)

pub member-returns-in_err-x : goal.member-returns-in_err-x
member-returns-in_err-x t c =
    let e = c.in_err-x.ensures in
    record { kept = e.kept; told = λ scope sc. exit_told c.from_residual.ensures.1 (member_stop c.requires.0 _ (get_or c.args.w.now 2 0) c.word.ensures.0 refl scope c.requires.1 (e.told scope sc)) }

pub member-tests-requires : goal.member-tests-requires
member-tests-requires t c =
    let h = c.requires.0 in
    let o = relation_operands h 22 c.requires.1 (omega arith) (omega arith) _ _ c.word.ensures.0 c.word-2.ensures.0 in
    let x = o.1.below in
    let m = c.decreases in
    (omega arith, ready_lower _ expressions _ c.expr.auto.work h.ready o.1)

pub member-returns : goal.member-returns
member-returns t c =
    let e = c.in_ok-x.ensures in
    let g = c.tests.ensures in
    record { kept = g.kept ∙ e.kept; told = λ scope sc. member_go c.requires.0 _ _ c.word.ensures.0 c.word-2.ensures.0 scope c.requires.1 (e.told scope sc) (λ v h. g.told v h scope (scoped_same _ _ _ _ e.kept sc)) }

pub negate-pred-requires : goal.negate-pred-requires
negate-pred-requires t c =
    let h = c.requires.0 in
    let o = not_operand h c.requires.1 _ c.word.ensures.0 in
    let x = o.below in
    (omega arith, ready_lower _ predicates _ refl h.ready o)

pub negate-returns-in_err-x : goal.negate-returns-in_err-x
negate-returns-in_err-x t c =
    let e = c.in_err-x.ensures in
    record { kept = e.kept; told = λ scope sc. exit_told c.from_residual.ensures.1 (not_stop c.requires.0 c.requires.1 _ c.word.ensures.0 scope (e.told scope sc)) }

pub negate-returns : goal.negate-returns
negate-returns t c =
    let e = c.in_ok-x.ensures in
    record { kept = e.kept; told = λ scope sc. not_go c.requires.0 c.requires.1 _ c.word.ensures.0 scope (e.told scope sc) }

pub parts-returns-then-w-i : goal.parts-returns-then-w-i
parts-returns-then-w-i t c =
    let a = c.args in
    record { kept = refl; told = λ ws e scope sc. parts_end a.doc.now a.k (length a.w.now) a.i scope ws c.if-w-i.true e }

pub parts-expr-requires : goal.parts-expr-requires
parts-expr-requires t c =
    let o : Lower c.args.doc.now c.args.k expressions c.word.result = subst (Lower c.args.doc.now c.args.k expressions) (sym c.word.ensures.0) (c.requires.1.each c.args.i (omega arith) (omega arith)) in
    let b = o.below in
    (omega arith, ready_lower _ expressions _ refl c.requires.0.ready o)

pub parts-returns-in_err-x : goal.parts-returns-in_err-x
parts-returns-in_err-x t c =
    let e = c.in_err-x.ensures in
    let a = c.args in
    record { kept = e.kept; told = λ ws x scope sc. exit_told c.from_residual.ensures.1 (exprs_stop a.doc.now a.k (length a.w.now) a.i scope _ (in_words c.requires.0 a.i _ c.word.ensures.0) (omega arith) (e.told scope sc)) }

pub parts-parts-requires : goal.parts-parts-requires
parts-parts-requires t c = (omega arith, (handed_same _ c.expr.auto.work c.requires.0, record { each = λ j p q. c.requires.1.each j (omega arith) q }, omega arith))

pub parts-returns : goal.parts-returns
parts-returns t c =
    let e = c.in_ok-x.ensures in
    let g = c.parts.ensures in
    let a = c.args in
    record { kept = g.kept ∙ e.kept; told = λ ws x scope sc. parts_go a.doc.now a.k (length a.w.now) a.i scope ws _ (in_words c.requires.0 a.i _ c.word.ensures.0) (omega (arith, c.if-w-i.false)) (e.told scope sc) (λ v h. g.told (ws ++ encode v) (c.joined.ensures ws v x h) scope (scoped_same _ _ _ _ e.kept sc)) }

pub power-returns-then-tag_of-ne-SET : goal.power-returns-then-tag_of-ne-SET
power-returns-then-tag_of-ne-SET t c = record { kept = refl; told = λ x h scope sc. power_other c.requires.0 _ x h scope c.requires.1 (λ e. c.if-tag_of-ne-SET.true (c.tag_of.ensures ∙ e)) c.refusal.ensures }

pub power-all-requires : goal.power-all-requires
power-all-requires t c =
    let o = power_operand c.requires.0 c.requires.1 _ c.word.ensures.0 in
    let b = o.below in
    let m = c.count_of.ensures.1 in
    (omega arith, (ready_lower _ expressions _ refl c.requires.0.ready o, omega arith, m))

pub power-returns : goal.power-returns
power-returns t c =
    let e = c.all.ensures in
    record { kept = e.kept; told = λ x h scope sc. power_told c.requires.0 _ x h scope c.requires.1 (sym c.tag_of.ensures ∙ c.if-tag_of-ne-SET.false) _ c.word.ensures.0 (λ vs g. e.told vs (subst (λ (j : ℕ). Rest c.args.v 2 j vs) (sym c.count_of.ensures.0) g) scope sc) }

pub pred-same-requires : goal.pred-same-requires
pred-same-requires t c = (omega arith, (handed_of c.requires c.part-w.ensures, sym (ap (λ (l : List ℕ). get_or l 0 0) c.part-w.ensures) ∙ sym c.word-q.ensures.0 ∙ c.in-21.is))

pub pred-member-requires : goal.pred-member-requires
pred-member-requires t c = (omega arith, (handed_of c.requires c.part-w.ensures, sym (ap (λ (l : List ℕ). get_or l 0 0) c.part-w.ensures) ∙ sym c.word-q.ensures.0 ∙ c.in-22.is))

pub pred-below-requires : goal.pred-below-requires
pred-below-requires t c = (omega arith, (handed_of c.requires c.part-w.ensures, sym (ap (λ (l : List ℕ). get_or l 0 0) c.part-w.ensures) ∙ sym c.word-q.ensures.0 ∙ c.in-23.is))

pub pred-negate-requires : goal.pred-negate-requires
pred-negate-requires t c = (omega arith, (handed_of c.requires c.part-w.ensures, sym (ap (λ (l : List ℕ). get_or l 0 0) c.part-w.ensures) ∙ sym c.word-q.ensures.0 ∙ c.in-24.is))

pub pred-connect-requires : goal.pred-connect-requires
pred-connect-requires t c =
    let q : c.word-q.result ≡ kind_at c.args.doc.now c.args.k = c.word-q.ensures.0 ∙ ap (λ (l : List ℕ). get_or l 0 0) c.part-w.ensures in
    let r = c.in-25-to-27.in_default-own.rest in
    let z = from_25 _ c.in-25-to-27.if-q-lt21-own.false r.0.0.0.1 r.0.0.1 r.0.1 r.1 in
    (omega arith, (handed_of c.requires c.part-w.ensures, omega arith, omega arith))

pub pred-quant-requires : goal.pred-quant-requires
pred-quant-requires t c =
    let q : c.word-q.result ≡ kind_at c.args.doc.now c.args.k = c.word-q.ensures.0 ∙ ap (λ (l : List ℕ). get_or l 0 0) c.part-w.ensures in
    (omega arith, (handed_of c.requires c.part-w.ensures, omega arith, omega arith))

pub pred-returns-in_default : goal.pred-returns-in_default
pred-returns-in_default t c =
    let q : c.word-q.result ≡ kind_at c.args.doc.now c.args.k = c.word-q.ensures.0 ∙ ap (λ (l : List ℕ). get_or l 0 0) c.part-w.ensures in
    let g = pred_range _ _ c.requires.at in
    let x = g.0 in
    let y = g.1 in
    let k : kind_at c.args.doc.now c.args.k ≡ 20 = omega arith in
    record { kept = refl; told = λ scope sc. truth_told _ _ c.requires.at k scope }

pub pred-returns-in-21 : goal.pred-returns-in-21
pred-returns-in-21 t c = c.same.ensures

pub pred-returns-in-22 : goal.pred-returns-in-22
pred-returns-in-22 t c = c.member.ensures

pub pred-returns-in-23 : goal.pred-returns-in-23
pred-returns-in-23 t c = c.below.ensures

pub pred-returns-in-24 : goal.pred-returns-in-24
pred-returns-in-24 t c = c.negate.ensures

pub pred-returns-in-25-to-27 : goal.pred-returns-in-25-to-27
pred-returns-in-25-to-27 t c = c.connect.ensures

pub pred-returns-in-28-to-29 : goal.pred-returns-in-28-to-29
pred-returns-in-28-to-29 t c = c.quant.ensures

pub product-returns-then-tag_of-ne-TUPLE : goal.product-returns-then-tag_of-ne-TUPLE
product-returns-then-tag_of-ne-TUPLE t c = record { kept = refl; told = λ x h scope sc. product_other c.requires.0 _ x h scope c.requires.1 (λ e. c.if-tag_of-ne-TUPLE.true (c.tag_of.ensures ∙ e)) c.refusal.ensures }

pub product-returns-then-count_of-w : goal.product-returns-then-count_of-w
product-returns-then-count_of-w t c =
    let n = c.count_of.ensures.0 in
    record { kept = refl; told = λ x h scope sc. product_uneven c.requires.0 _ x h scope c.requires.1 (sym c.tag_of.ensures ∙ c.if-tag_of-ne-TUPLE.false) (λ e. c.if-count_of-w.true (omega (arith, e, n))) (node_words c.requires.0) c.refusal-then-count_of-w.ensures }

pub product-each_part-requires : goal.product-each_part-requires
product-each_part-requires t c = (omega arith, (c.requires.0, member_operands c.requires.0 35 c.requires.1 (omega arith) (omega arith), omega arith, omega arith))

pub product-returns : goal.product-returns
product-returns t c =
    let e = c.each_part.ensures in
    let n = c.count_of.ensures.0 in
    record { kept = e.kept; told = λ x h scope sc. product_told c.requires.0 _ x h scope c.requires.1 (sym c.tag_of.ensures ∙ c.if-tag_of-ne-TUPLE.false) (omega (arith, n, c.if-count_of-w.false)) (λ vs g. e.told vs g scope sc) }

pub quant-lines-requires : goal.quant-lines-requires
quant-lines-requires t c =
    let h = c.requires.0 in
    let x = c.word-t.ensures.0 in
    (omega arith, lines_start (quant_scoping empty _ x h c.requires.1 c.requires.2) _ _ (in_words h 1 _ x) c.part.ensures)

pub quant-returns-in_err-x : goal.quant-returns-in_err-x
quant-returns-in_err-x t c =
    let e = c.in_err-x.ensures in
    let h = c.requires.0 in
    let z : c.args.n ≡ c.args.n + 0 = omega arith in
    record { kept = e.kept; told = λ scope sc. exit_told c.from_residual.ensures.1 (quant_stop scope _ c.word-t.ensures.0 h c.requires.1 c.requires.2 (rw c.part.ensures at (e.told scope sc (subst (λ (j : ℕ). Scoped c.args.state.now c.args.work.now j scope) z sc) no_more Blocks.none (record { gathers = λ q. absurd (omega (arith, c.requires.2)) })))) }

pub quant-returns-in-Halt : goal.quant-returns-in-Halt
quant-returns-in-Halt t c =
    let e = c.in_ok-x.ensures in
    let h = c.requires.0 in
    let m = c.in-Halt.is in
    let z : c.args.n ≡ c.args.n + 0 = omega arith in
    record { kept = e.kept; told = λ scope sc. quant_halt scope _ c.word-t.ensures.0 h c.requires.1 c.requires.2 (rw m at (rw c.part.ensures at (e.told scope sc (subst (λ (j : ℕ). Scoped c.args.state.now c.args.work.now j scope) z sc) no_more Blocks.none (record { gathers = λ q. absurd (omega (arith, c.requires.2)) })))) (c.verdict.ensures ∙ ap (λ (j : ℕ). verdict_of (quantifier_of j) true) (in_words h 0 _ c.word.ensures.0)) }

pub reckon-refer_integer-requires : goal.reckon-refer_integer-requires
reckon-refer_integer-requires t c = (omega (arith, c.requires.room), c.requires.at.small)

pub reckon-returns-then-w-le2 : goal.reckon-returns-then-w-le2
reckon-returns-then-w-le2 t c =
    let h = handed_of c.requires c.part-w.ensures in
    let q = sym (ap (λ (l : List ℕ). get_or l 0 0) c.part-w.ensures) ∙ sym c.word-q.ensures.0 ∙ c.in-30.is in
    let l = c.if-w-le2.true in
    record { kept = refl; told = λ scope sc. reference_plain h q scope l (rw (← c.word.ensures.0) (c.refer_integer.ensures scope sc _ (no_actuals h q scope l))) }

pub reckon-refers-requires : goal.reckon-refers-requires
reckon-refers-requires t c = (omega arith, (handed_of c.requires c.part-w.ensures, sym (ap (λ (l : List ℕ). get_or l 0 0) c.part-w.ensures) ∙ sym c.word-q.ensures.0 ∙ c.in-30.is))

pub reckon-returns-in_ok-refers-in-30 : goal.reckon-returns-in_ok-refers-in-30
reckon-returns-in_ok-refers-in-30 t c = let g = c.in_ok-refers-in-30.ensures in record { kept = g.kept; told = λ scope sc. fine_told c.number.ensures (g.told scope sc) }

pub reckon-counted-requires : goal.reckon-counted-requires
reckon-counted-requires t c =
    let h = handed_of c.requires c.part-w.ensures in
    subst (λ (z : ℕ). z ≤ 2147483647) (sym (in_words h 1 _ c.word-in-31.ensures.0)) (number_word _ expressions _ c.requires.at (sym (ap (λ (l : List ℕ). get_or l 0 0) c.part-w.ensures) ∙ sym c.word-q.ensures.0 ∙ c.in-31.is))

pub reckon-returns-in-31 : goal.reckon-returns-in-31
reckon-returns-in-31 t c =
    let h = handed_of c.requires c.part-w.ensures in
    record { kept = refl; told = λ scope sc. number_told _ _ c.requires.at (sym (ap (λ (l : List ℕ). get_or l 0 0) c.part-w.ensures) ∙ sym c.word-q.ensures.0 ∙ c.in-31.is) _ (in_words h 1 _ c.word-in-31.ensures.0) scope (counted_is _ _ (counted_word _ _ c.counted.ensures)) }

pub reckon-arith-requires : goal.reckon-arith-requires
reckon-arith-requires t c =
    let q : c.word-q.result ≡ kind_at c.args.doc.now c.args.k = c.word-q.ensures.0 ∙ ap (λ (l : List ℕ). get_or l 0 0) c.part-w.ensures in
    (omega arith, (handed_of c.requires c.part-w.ensures, omega arith, omega arith))

pub reckon-returns-in_ok-arith-in-41-to-45 : goal.reckon-returns-in_ok-arith-in-41-to-45
reckon-returns-in_ok-arith-in-41-to-45 t c = let g = c.in_ok-arith-in-41-to-45.ensures in record { kept = g.kept; told = λ scope sc. fine_told (λ a d. counted_is _ a (counted_word _ a d)) (g.told scope sc) }

pub reckon-expr-requires : goal.reckon-expr-requires
reckon-expr-requires t c = (omega arith, c.requires)

pub reckon-returns-in_ok-expr-in_default : goal.reckon-returns-in_ok-expr-in_default
reckon-returns-in_ok-expr-in_default t c = let g = c.in_ok-expr-in_default.ensures in record { kept = g.kept; told = λ scope sc. fine_told c.number-in_default.ensures (g.told scope sc) }

pub refers-refer-requires : goal.refers-refer-requires
refers-refer-requires t c = let r = c.requires.0.ready.room in let m = c.requires.0.ready.at.small in (omega arith, m)

pub refers-returns-then-w-le2 : goal.refers-returns-then-w-le2
refers-returns-then-w-le2 t c =
    let h = c.requires.0 in
    let l = c.if-w-le2.true in
    record { kept = refl; told = λ scope sc. reference_plain h c.requires.1 scope l (rw (← c.word.ensures.0) (c.refer.ensures scope sc _ (no_actuals h c.requires.1 scope l))) }

pub refers-parts-requires : goal.refers-parts-requires
refers-parts-requires t c = (omega arith, (c.requires.0, reference_operands c.requires.0 c.requires.1, omega arith))

pub refers-returns-in_err-parts : goal.refers-returns-in_err-parts
refers-returns-in_err-parts t c =
    let e = c.in_err-parts.ensures in
    record { kept = e.kept; told = λ scope sc. exit_told c.from_residual.ensures.1 (reference_stop c.requires.0 c.requires.1 scope (e.told [] c.empty.ensures scope sc)) }

pub refers-refer-requires-2 : goal.refers-refer-requires-2
refers-refer-requires-2 t c = let r = c.requires.0.ready.room in let m = c.requires.0.ready.at.small in (omega arith, m)

pub refers-returns : goal.refers-returns
refers-returns t c =
    let e = c.in_ok-parts.ensures in
    let h = c.requires.0 in
    record { kept = e.kept; told = λ scope sc. reference_go h c.requires.1 scope (e.told [] c.empty.ensures scope sc) (rw (← c.word-2.ensures.0) (c.refer-2.ensures scope (scoped_same _ _ _ _ e.kept sc) _ (has_actuals_lem h c.requires.1 c.if-w-le2.false))) }

pub same-expr-requires : goal.same-expr-requires
same-expr-requires t c =
    let h = c.requires.0 in
    let o = relation_operands h 21 c.requires.1 (omega arith) (omega arith) _ (get_or c.args.w.now 2 0) c.word.ensures.0 refl in
    let x = o.0.below in
    (omega arith, ready_lower _ expressions _ refl h.ready o.0)

pub same-returns-in_err-x : goal.same-returns-in_err-x
same-returns-in_err-x t c =
    let e = c.in_err-x.ensures in
    let h = c.requires.0 in
    record { kept = e.kept; told = λ scope sc. exit_told c.from_residual.ensures.1 (equal_told h _ (get_or c.args.w.now 2 0) c.word.ensures.0 refl scope c.requires.1 (halt_told _ (e.told scope sc))) }

pub same-expr-requires-2 : goal.same-expr-requires-2
same-expr-requires-2 t c =
    let h = c.requires.0 in
    let o = relation_operands h 21 c.requires.1 (omega arith) (omega arith) _ _ c.word.ensures.0 c.word-2.ensures.0 in
    let x = o.1.below in
    (omega arith, ready_lower _ expressions _ c.expr.auto.work h.ready o.1)

pub same-returns-in_err-y : goal.same-returns-in_err-y
same-returns-in_err-y t c =
    let e = c.in_ok-x.ensures in
    let g = c.in_err-y.ensures in
    let h = c.requires.0 in
    record { kept = g.kept ∙ e.kept; told = λ scope sc. exit_told c.from_residual-in_err-y.ensures.1 (equal_told h _ _ c.word.ensures.0 c.word-2.ensures.0 scope c.requires.1 (second_told (e.told scope sc) (g.told scope (scoped_same _ _ _ _ e.kept sc)) _)) }

pub same-returns : goal.same-returns
same-returns t c =
    let e = c.in_ok-x.ensures in
    let g = c.in_ok-y.ensures in
    let h = c.requires.0 in
    record { kept = g.kept ∙ e.kept; told = λ scope sc. equal_told h _ _ c.word.ensures.0 c.word-2.ensures.0 scope c.requires.1 (both_told (e.told scope sc) (g.told scope (scoped_same _ _ _ _ e.kept sc)) (λ u v a b. fine (c.equal.ensures u v a b))) }

pub subsets-expr-requires : goal.subsets-expr-requires
subsets-expr-requires t c =
    let h = c.requires.0 in
    let o = power_operand h c.requires.1 _ c.word.ensures.0 in
    let x = o.below in
    (omega arith, ready_lower _ expressions _ refl h.ready o)

pub subsets-returns-in_err-x : goal.subsets-returns-in_err-x
subsets-returns-in_err-x t c =
    let e = c.in_err-x.ensures in
    record { kept = e.kept; told = λ scope sc. exit_told c.from_residual.ensures.1 (power_stop c.requires.0 c.requires.1 _ c.word.ensures.0 scope (e.told scope sc)) }

pub subsets-returns : goal.subsets-returns
subsets-returns t c =
    let e = c.in_ok-x.ensures in
    record { kept = e.kept; told = λ scope sc. power_go c.requires.0 c.requires.1 _ c.word.ensures.0 scope (e.told scope sc) c.powered.ensures }

pub tests-product-requires : goal.tests-product-requires
tests-product-requires t c = (omega arith, (handed_of c.requires c.part-w.ensures, sym (ap (λ (l : List ℕ). get_or l 0 0) c.part-w.ensures) ∙ sym c.word-q.ensures.0 ∙ c.in-35.is))

pub tests-power-requires : goal.tests-power-requires
tests-power-requires t c = (omega arith, (handed_of c.requires c.part-w.ensures, sym (ap (λ (l : List ℕ). get_or l 0 0) c.part-w.ensures) ∙ sym c.word-q.ensures.0 ∙ c.in-36.is))

pub tests-value-requires : goal.tests-value-requires
tests-value-requires t c =
    let q = c.word-q.ensures.0 ∙ ap (λ (l : List ℕ). get_or l 0 0) c.part-w.ensures in
    let r = c.in_default.in_default-own.rest in
    (omega arith, (c.requires, λ e. r.0.0.1 (q ∙ e), λ e. r.0.1 (q ∙ e), λ e. r.1 (q ∙ e)))

pub tests-returns-in-32 : goal.tests-returns-in-32
tests-returns-in-32 t c = record { kept = refl; told = λ x h scope sc. integers_test c.requires (sym (ap (λ (l : List ℕ). get_or l 0 0) c.part-w.ensures) ∙ sym c.word-q.ensures.0 ∙ c.in-32.is) x scope (c.is_integer.ensures x h) }

pub tests-returns-in-35 : goal.tests-returns-in-35
tests-returns-in-35 t c = c.product.ensures

pub tests-returns-in-36 : goal.tests-returns-in-36
tests-returns-in-36 t c = c.power.ensures

pub tests-returns-in_default : goal.tests-returns-in_default
tests-returns-in_default t c = c.value.ensures

pub tuple-tuple_head-requires : goal.tuple-tuple_head-requires
tuple-tuple_head-requires t c = let f = c.requires.0.few in (node_words c.requires.0, f)

pub tuple-parts-requires : goal.tuple-parts-requires
tuple-parts-requires t c = (omega arith, (c.requires.0, member_operands c.requires.0 34 c.requires.1 (omega arith) (omega arith), omega arith))

pub tuple-returns-in_err-x : goal.tuple-returns-in_err-x
tuple-returns-in_err-x t c =
    let e = c.in_err-x.ensures in
    record { kept = e.kept; told = λ scope sc. exit_told c.from_residual.ensures.1 (tuple_stop c.requires.0 c.requires.1 scope (e.told (4 ∷ (length c.args.w.now - 1) ∷ []) c.tuple_head.ensures scope sc)) }

pub tuple-returns : goal.tuple-returns
tuple-returns t c =
    let e = c.in_ok-x.ensures in
    record { kept = e.kept; told = λ scope sc. tuple_go c.requires.0 c.requires.1 scope (e.told (4 ∷ (length c.args.w.now - 1) ∷ []) c.tuple_head.ensures scope sc) c.kept.ensures }

pub tuples-factors-requires : goal.tuples-factors-requires
tuples-factors-requires t c = (omega arith, (c.requires.0, member_operands c.requires.0 35 c.requires.1 (omega arith) (omega arith), omega arith))

pub tuples-returns-in_err-x : goal.tuples-returns-in_err-x
tuples-returns-in_err-x t c =
    let e = c.in_err-x.ensures in
    record { kept = e.kept; told = λ scope sc. exit_told c.from_residual.ensures.1 (tuples_stop c.requires.0 c.requires.1 scope (e.told no_parts (first_tuples c.unit.ensures) scope sc)) }

pub tuples-returns : goal.tuples-returns
tuples-returns t c =
    let e = c.in_ok-x.ensures in
    record { kept = e.kept; told = λ scope sc. tuples_go c.requires.0 c.requires.1 scope (e.told no_parts (first_tuples c.unit.ensures) scope sc) (c.multiplied.ensures c.unit.result) }

pub turn-pred-requires : goal.turn-pred-requires
turn-pred-requires t c =
    let x = c.word-t.ensures.0 ∙ ap (λ (l : List ℕ). get_or l 1 0) c.part.ensures in
    let y = c.word.ensures.0 ∙ ap (λ (l : List ℕ). get_or l 1 0) c.part-2.ensures in
    let p = text_pred c.requires _ _ x y in
    let l = p.0 in
    let z : c.args.n + 0 ≡ c.args.n = omega arith in
    (omega arith, subst (λ (j : ℕ). Ready c.args.doc.now c.args.work.now predicates j c.word.result) z p.1)

pub turn-returns-in_err-x : goal.turn-returns-in_err-x
turn-returns-in_err-x t c =
    let e = c.in_err-x.ensures in
    let x = c.word-t.ensures.0 ∙ ap (λ (l : List ℕ). get_or l 1 0) c.part.ensures in
    let y = c.word.ensures.0 ∙ ap (λ (l : List ℕ). get_or l 1 0) c.part-2.ensures ∙ ap (λ (j : ℕ). operand_at c.args.doc.now j 1) x in
    record { kept = e.kept; told = λ scope sc vs h. exit_told c.from_residual.ensures.1 (turn_stop c.args.doc.now c.args.k _ y scope vs (e.told scope sc)) }

pub turn-body-requires : goal.turn-body-requires
turn-body-requires t c = (omega arith, (scoping_same c.requires _ c.pred.auto.work, c.part-then-x.ensures))

pub turn-returns-then-x : goal.turn-returns-then-x
turn-returns-then-x t c =
    let e = c.in_ok-x.ensures in
    let g = c.body.ensures in
    let x = c.word-t.ensures.0 ∙ ap (λ (l : List ℕ). get_or l 1 0) c.part.ensures in
    let y = c.word.ensures.0 ∙ ap (λ (l : List ℕ). get_or l 1 0) c.part-2.ensures ∙ ap (λ (j : ℕ). operand_at c.args.doc.now j 1) x in
    record { kept = g.kept ∙ e.kept; told = λ scope sc vs h. turn_true c.args.doc.now c.args.k _ y scope vs (e.told scope sc) c.if-x.true (g.told scope (scoped_same _ _ _ _ e.kept sc) vs h) }

pub turn-returns : goal.turn-returns
turn-returns t c =
    let e = c.in_ok-x.ensures in
    let x = c.word-t.ensures.0 ∙ ap (λ (l : List ℕ). get_or l 1 0) c.part.ensures in
    let y = c.word.ensures.0 ∙ ap (λ (l : List ℕ). get_or l 1 0) c.part-2.ensures ∙ ap (λ (j : ℕ). operand_at c.args.doc.now j 1) x in
    record { kept = e.kept; told = λ scope sc vs h. turn_false c.args.doc.now c.args.k _ y scope vs (e.told scope sc) c.if-x.false h }

pub value-expr-requires : goal.value-expr-requires
value-expr-requires t c = (omega arith, c.requires.0)

pub value-returns-in_err-x : goal.value-returns-in_err-x
value-returns-in_err-x t c =
    let e = c.in_err-x.ensures in
    let p = c.requires in
    record { kept = e.kept; told = λ x h scope sc. exit_told c.from_residual.ensures.1 (value_stop p.0 p.1 p.2 p.3 x scope (e.told scope sc)) }

pub value-returns : goal.value-returns
value-returns t c =
    let e = c.in_ok-x.ensures in
    let p = c.requires in
    record { kept = e.kept; told = λ x h scope sc. value_go p.0 p.1 p.2 p.3 x scope (e.told scope sc) (λ y g. c.among.ensures x y h g) }

pub body-returns-in_err-gather : goal.body-returns-in_err-gather
body-returns-in_err-gather t c =
    let w = c.requires.1 in
    let e = c.in_ok-x.ensures in
    let q = sym (ap (λ (l : List ℕ). get_or l 0 0) w) ∙ sym c.word.ensures.0 ∙ c.if-word-eq-COMPREHENSION.true in
    record { kept = e.kept; told = λ scope sc vs h. exit_told c.from_residual-in_err-gather.ensures.1 (gather_over c.args.doc.now c.args.k _ (c.word-b.ensures.0 ∙ ap (λ (l : List ℕ). get_or l 2 0) w) scope vs q (e.told scope sc) (λ v g. c.in_err-gather.ensures vs v (h.gathers q) g)) }

pub body-returns-then-verdict : goal.body-returns-then-verdict
body-returns-then-verdict t c =
    let w = c.requires.1 in
    let e = c.in_ok-y.ensures in
    let k = c.word-2.ensures.0 ∙ ap (λ (l : List ℕ). get_or l 0 0) w in
    record { kept = e.kept; told = λ scope sc vs h. decide_halt c.args.doc.now c.args.k _ (c.word-b.ensures.0 ∙ ap (λ (l : List ℕ). get_or l 2 0) w) scope vs (λ q. c.if-word-eq-COMPREHENSION.false (c.word.ensures.0 ∙ ap (λ (l : List ℕ). get_or l 0 0) w ∙ q)) (e.told scope sc) (sym c.if-verdict.true ∙ c.verdict.ensures ∙ ap (λ (j : ℕ). verdict_of (quantifier_of j) c.in_ok-y.y) k) }

pub expr-returns-in_err-arith-in-41-to-45 : goal.expr-returns-in_err-arith-in-41-to-45
expr-returns-in_err-arith-in-41-to-45 t c = let g = c.in_err-arith-in-41-to-45.ensures in record { kept = g.kept; told = λ scope sc. exit_told c.from_residual.ensures.1 (stopped_told (g.told scope sc)) }

pub pred-returns-in_default-2 : goal.pred-returns-in_default-2
pred-returns-in_default-2 t c =
    let q : c.word-q.result ≡ kind_at c.args.doc.now c.args.k = c.word-q.ensures.0 ∙ ap (λ (l : List ℕ). get_or l 0 0) c.part-w.ensures in
    let g = pred_range _ _ c.requires.at in
    let x = g.0 in
    let y = g.1 in
    let k : kind_at c.args.doc.now c.args.k ≡ 20 = omega arith in
    record { kept = refl; told = λ scope sc. truth_told _ _ c.requires.at k scope }

pub quant-returns-in-Go : goal.quant-returns-in-Go
quant-returns-in-Go t c =
    let e = c.in_ok-x.ensures in
    let h = c.requires.0 in
    let m = c.in-Go.is in
    let z : c.args.n ≡ c.args.n + 0 = omega arith in
    record { kept = e.kept; told = λ scope sc. quant_go scope _ c.word-t.ensures.0 h c.requires.1 c.requires.2 (rw m at (rw c.part.ensures at (e.told scope sc (subst (λ (j : ℕ). Scoped c.args.state.now c.args.work.now j scope) z sc) no_more Blocks.none (record { gathers = λ q. absurd (omega (arith, c.requires.2)) })))) (c.verdict-in-Go.ensures ∙ ap (λ (j : ℕ). verdict_of (quantifier_of j) false) (in_words h 0 _ c.word-in-Go.ensures.0)) }

pub reckon-returns-in_err-refers-in-30 : goal.reckon-returns-in_err-refers-in-30
reckon-returns-in_err-refers-in-30 t c = let g = c.in_err-refers-in-30.ensures in record { kept = g.kept; told = λ scope sc. exit_told c.from_residual.ensures.1 (stopped_told (g.told scope sc)) }

pub reckon-returns-in_err-arith-in-41-to-45 : goal.reckon-returns-in_err-arith-in-41-to-45
reckon-returns-in_err-arith-in-41-to-45 t c = let g = c.in_err-arith-in-41-to-45.ensures in record { kept = g.kept; told = λ scope sc. exit_told c.from_residual-in_err-arith-in-41-to-45.ensures.1 (stopped_told (g.told scope sc)) }

pub reckon-returns-in_err-expr-in_default : goal.reckon-returns-in_err-expr-in_default
reckon-returns-in_err-expr-in_default t c = let g = c.in_err-expr-in_default.ensures in record { kept = g.kept; told = λ scope sc. exit_told c.from_residual-in_err-expr-in_default.ensures.1 (stopped_told (g.told scope sc)) }
