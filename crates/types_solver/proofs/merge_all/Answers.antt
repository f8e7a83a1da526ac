use mathlib.Core.Bool.{true, false}
use native.Mathlib.Omega.{arith}
use Rattle.types_solver.proofs.Equating.{all_done, first_asking, few_next, others_ask, all_merged, all_refused}
use Rattle.types_solver.proofs.merge_all.Goals as goal

pub merge-requires : goal.merge-requires
merge-requires c = first_asking _ _ _ _ _ _ c.loop-part-test.true c.loop-part.invariant.0

pub returns-then-not-merge : goal.returns-then-not-merge
returns-then-not-merge c = c.loop-part.invariant.1 _ false (all_refused _ _ _ _ _ _ c.loop-part-test.true c.loop-part.invariant.0 _ _ c.merge.ensures c.if-not-merge.true)

pub overflow_add-cell : goal.overflow_add-cell
overflow_add-cell c = let z = few_next _ _ _ _ _ _ c.loop-part-test.true c.loop-part.invariant.0 in omega arith

pub loop-part-preserved : goal.loop-part-preserved
loop-part-preserved c =
    let t = c.loop-part-test.true in
    let P = c.loop-part.invariant in
    let M = c.merge.ensures in
    let e = c.if-not-merge.false in
    (others_ask _ _ _ _ _ _ t P.0 _ _ M e, λ u b N. P.1 u b (all_merged _ _ _ _ _ _ t P.0 _ _ M e u b N))

pub returns : goal.returns
returns c = c.loop-part.invariant.1 _ true (all_done _ _ _ _ _ _ c.loop-part-test.false)
