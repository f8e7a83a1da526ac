use mathlib.Core.Path.{◌≡◌, refl, ap, ◌∙◌, subst}
use mathlib.Core.Bool.{true, false}
use mathlib.Core.Logic.{⊎_elim}
use native.Mathlib.Omega.{arith}
use lib.Dec.{ltb}
use lib.ListN.{length}
use borrow.Author.Tests.{lt-ltb, le-ltb}
use Rattle.canonical.proofs.VisitLaws.{left_plain, left_node, left_end, visit_length, operand_visit, visited}
use Rattle.canonical.proofs.order.+visit.Goals as goal

pub visit-end-requires : goal.visit-end-requires
visit-end-requires t c =
    let v =
    operand_visit c.args.doc.now c.args.k c.args.at c.requires _ c.part-w.ensures _ c.operand_count-n.ensures c.loop-i.i c.loop-i.end _ c.loop-i.order _ (omega arith)
    c.loop-i-test.true c.loop-i.invariant.1 refl c.word.result (subst (λ x. ltb 5 x ≡ true) c.sort_at.ensures (lt-ltb _ _ c.if-sort_at-gt-LAST_PLAIN.true)) c.word.ensures.0
    in
    let m = c.decreases in
    let b = v.0 in
    (omega (arith, m, b), v.1)

pub loop-i-preserved : goal.loop-i-preserved
loop-i-preserved t c =
    let t = c.loop-i-test.true in
    let q = c.sort_at.ensures in (
      ⊎_elim (λ p. ap length p.order-is ∙ p.visit-end.auto.order ∙ c.loop-i.invariant.0) (λ p. ap length p.order-is ∙ c.loop-i.invariant.0) c.if-sort_at-gt-LAST_PLAIN.branch-raw,
      ⊎_elim
          (λ p. rw (p.order-is, p.end-is) (left_node _ _ _ _ _ _ _ _ t c.loop-i.invariant.1 p.word.result (subst (λ x. ltb 5 x ≡ true) q (lt-ltb _ _ p.if-sort_at-gt-LAST_PLAIN.true)) p.word.ensures.0 _ _ p.visit-end.ensures.0 p.visit-end.ensures.1))
          (λ p. rw (p.order-is, p.end-is) (left_plain _ _ _ _ _ _ _ _ t c.loop-i.invariant.1 (subst (λ x. ltb 5 x ≡ false) q (le-ltb _ _ p.if-sort_at-gt-LAST_PLAIN.false))))
          c.if-sort_at-gt-LAST_PLAIN.branch-raw,
    )

pub overflow_add-result : goal.overflow_add-result
overflow_add-result t c =
    let e = (left_end _ _ _ _ _ _ _ _ (omega arith) c.loop-i.invariant.1).1 in
    let v = visit_length c.args.doc.now c.args.k c.args.at c.requires _ c.part-w.ensures _ c.operand_count-n.ensures in
    let r = c.requires.room in
    omega (arith, e, v, r)

pub returns : goal.returns
returns t c =
    let e = left_end _ _ _ _ _ _ _ _ (omega arith) c.loop-i.invariant.1 in
    let v = visited c.args.doc.now c.args.k c.args.at c.requires _ c.part-w.ensures _ c.operand_count-n.ensures _ c.loop-i.order c.loop-i.end e.0 e.1 in
    (c.store.ensures ∙ v.0, v.1)
