use mathlib.Core.Path.{sym, subst, ◌∙◌}
use mathlib.Core.Bool.{true}
use native.Mathlib.Omega.{arith}
use Rattle.types_solver.specs.Sizes.{mark_at, Visited}
use Rattle.types_solver.proofs.Visiting.{visited_as, visited_again, visited_before, parts_end, visit_falls, visit_known, visit_step, visit_stop, link_cell, link_known, link_falls, link_stop, link_end}
use Rattle.types_solver.proofs.acyclicity.+visit.Goals as goal

pub returns-then-v-eq-VISITING : goal.returns-then-v-eq-VISITING
unfolding mark_at
returns-then-v-eq-VISITING t c = visited_again _ _ (sym c.word-v.ensures.0 ∙ c.if-v-eq-VISITING.true)

pub returns-then-v-ne0 : goal.returns-then-v-ne0
unfolding mark_at
returns-then-v-ne0 t c = visited_before _ _ (λ e. c.if-v-ne0.true (c.word-v.ensures.0 ∙ e)) (λ e. c.if-v-eq-VISITING.false (c.word-v.ensures.0 ∙ e))

pub visit-requires : goal.visit-requires
unfolding mark_at
visit-requires t c =
    let m = link_falls _ c.args.a.now _ _ c.requires (sym c.word-v.ensures.0 ∙ c.if-v-ne0.false) (link_cell _ _ c.link-l.ensures.0 c.if-l-ne0.true) in let e = c.decreases in
    (omega arith, link_known _ c.args.a.now _ _ c.requires (sym c.word-v.ensures.0 ∙ c.if-v-ne0.false) (link_cell _ _ c.link-l.ensures.0 c.if-l-ne0.true))

pub returns-then-visit : goal.returns-then-visit
unfolding mark_at
returns-then-visit t c =
    subst (λ z. Visited c.args.a.now z c.args.i true) (sym c.store.ensures)
    (link_end _ _ _ _ c.requires (sym c.word-v.ensures.0 ∙ c.if-v-ne0.false) (link_cell _ _ c.link-l.ensures.0 c.if-l-ne0.true) (visited_as _ _ _ _ _ c.if-visit.true c.visit.ensures) _ c.word.ensures.0)

pub returns-then-l-ne0 : goal.returns-then-l-ne0
unfolding mark_at
returns-then-l-ne0 t c = link_stop _ _ _ _ c.requires (sym c.word-v.ensures.0 ∙ c.if-v-ne0.false) (link_cell _ _ c.link-l.ensures.0 c.if-l-ne0.true) (visited_as _ _ _ _ _ c.if-visit.false c.visit.ensures)

pub visit-requires-in-loop-j : goal.visit-requires-in-loop-j
unfolding mark_at
visit-requires-in-loop-j t c =
    let m = visit_falls _ _ _ _ c.requires (sym c.link-l.ensures.0 ∙ c.if-l-ne0.false) (sym c.word-v.ensures.0 ∙ c.if-v-ne0.false) c.store-2.ensures c.arity-k.ensures.0 _ _ _ c.loop-j.invariant c.part-c.result in let e = c.decreases in
    (omega arith, visit_known _ _ _ _ c.requires (sym c.link-l.ensures.0 ∙ c.if-l-ne0.false) (sym c.word-v.ensures.0 ∙ c.if-v-ne0.false) c.store-2.ensures c.arity-k.ensures.0 _ _ _ c.loop-j.invariant c.loop-j-test.true _ c.part-c.ensures.0)

pub loop-j-preserved : goal.loop-j-preserved
unfolding mark_at
loop-j-preserved t c =
    let t = c.loop-j-test.true in
    visit_step _ _ _ _ c.requires (sym c.link-l.ensures.0 ∙ c.if-l-ne0.false) (sym c.word-v.ensures.0 ∙ c.if-v-ne0.false) c.store-2.ensures c.arity-k.ensures.0 _ _ _ c.loop-j.invariant c.loop-j-test.true _ c.part-c.ensures.0 _ (visited_as _ _ _ _ _ c.if-not-visit.false c.visit-in-loop-j.ensures) _ _ c.word-in-loop-j.ensures.0 c.capped-sum.ensures

pub returns-then-not-visit : goal.returns-then-not-visit
unfolding mark_at
returns-then-not-visit t c = visit_stop _ _ _ _ c.requires (sym c.link-l.ensures.0 ∙ c.if-l-ne0.false) (sym c.word-v.ensures.0 ∙ c.if-v-ne0.false) c.store-2.ensures c.arity-k.ensures.0 _ _ _ c.loop-j.invariant c.loop-j-test.true _ c.part-c.ensures.0 _ (visited_as _ _ _ _ _ c.if-not-visit.true c.visit-in-loop-j.ensures)

pub returns : goal.returns
unfolding mark_at
returns t c =
    subst (λ z. Visited c.args.a.now z c.args.i true) (sym c.store-3.ensures)
    (parts_end _ _ _ _ _ _ _ c.requires (sym c.link-l.ensures.0 ∙ c.if-l-ne0.false) (sym c.word-v.ensures.0 ∙ c.if-v-ne0.false) c.store-2.ensures c.loop-j.invariant c.arity-k.ensures.0 c.loop-j-test.false)
