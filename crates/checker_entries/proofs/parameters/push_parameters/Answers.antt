use native.Mathlib.Omega.{arith}
use mathlib.Core.Path.{refl}
use Rattle.checker_entries.proofs.ParameterLaws.{parameters_done, parameters_asked, parameters_next}
use Rattle.checker_entries.proofs.parameters.push_parameters.Goals as goal

pub loop-i-preserved : goal.loop-i-preserved
loop-i-preserved c =
    let I = c.loop-i.invariant in
    let l = c.loop-i-test.true in (
      parameters_asked _ _ _ _ _ _ _ _ _ _ _ _ I.0 l refl c.store.ensures c.store-in-loop-i.ensures c.store-in-loop-i-2.ensures c.word.ensures.0 c.push_row.ensures,
      λ s' w' end N. I.1 s' w' end (parameters_next _ _ _ _ _ _ _ _ _ _ _ _ I.0 l refl c.store.ensures c.store-in-loop-i.ensures c.store-in-loop-i-2.ensures c.word.ensures.0 c.push_row.ensures s' w' end N),
    )

pub returns : goal.returns
returns c =
    let I = c.loop-i.invariant in
    let o = I.0.order in
    let l = c.loop-i-test.false in I.1 _ _ _ (parameters_done _ _ _ _ _ _ I.0 l (omega arith))
