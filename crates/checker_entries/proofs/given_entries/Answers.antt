use native.Mathlib.Omega.{arith}
use Rattle.checker_entries.proofs.Writing.{givens_none, givens_next}
use Rattle.checker_entries.proofs.given_entries.Goals as goal

pub loop-i-preserved : goal.loop-i-preserved
loop-i-preserved c =
    let l = c.loop-i-test.true in
    let I = c.loop-i.invariant in
    let k = I.0 in (omega arith, λ w' e W. I.1 w' e (givens_next _ _ _ _ _ w' _ _ _ _ e l c.word-id.ensures.0 c.put_head.ensures c.store.ensures c.store-in-loop-i.ensures c.store-in-loop-i-2.ensures W))

pub returns : goal.returns
returns c = c.loop-i.invariant.1 _ _ (givens_none _ _ _ _ c.loop-i-test.false)
