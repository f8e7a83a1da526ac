use native.Mathlib.Omega.{arith}
use Rattle.checker_includes.proofs.KeepAll.{all_short, step_asked, all_step, all_end}
use Rattle.checker_includes.proofs.storing.keep_all.Goals as goal

pub overflow_add-at : goal.overflow_add-at
overflow_add-at c = let P = c.requires in let I = c.loop-j.invariant in let r = P.beside.1 in let q = P.near in let x = P.room in let y = I.more in let z = all_short _ _ _ _ _ _ _ _ _ _ P _ _ _ I in let u = P.many in let t = c.loop-j-test.true in omega arith

pub keep_row-e-requires : goal.keep_row-e-requires
keep_row-e-requires c = step_asked _ _ _ _ _ _ _ _ _ _ c.requires _ _ _ c.loop-j-test.true c.loop-j.invariant

pub loop-j-preserved : goal.loop-j-preserved
loop-j-preserved c =
    let l = c.loop-j-test.true in
    all_step _ _ _ _ _ _ _ _ _ _ c.requires _ _ _ l c.loop-j.invariant _ _ c.keep_row-e.ensures

pub returns : goal.returns
returns c = all_end _ _ _ _ _ _ _ _ _ _ c.requires _ _ _ (omega arith) c.loop-j-test.false c.loop-j.invariant
