use native.Mathlib.Omega.{arith}
use Rattle.checker_entries.proofs.Writing.{reading_of, row_asked, parting_next, parting_end}
use Rattle.checker_entries.proofs.put_parts.Goals as goal

pub put_type-end-requires : goal.put_type-end-requires
put_type-end-requires c = let n = c.loop-j.invariant.0.near in (reading_of _ _ _ (row_asked _ _ _ _ _ _ _ c.loop-j-test.true c.loop-j.invariant.0 _ c.word-p.ensures.0), omega arith)

pub loop-j-preserved : goal.loop-j-preserved
loop-j-preserved c = parting_next _ _ _ _ _ _ _ _ _ c.loop-j-test.true _ _ c.word-id.ensures.0 c.word-p.ensures.0 _ _ c.loop-j.invariant _ c.store.ensures c.put_type-end.ensures

pub returns : goal.returns
returns c = parting_end _ _ _ _ _ _ _ _ _ c.loop-j-test.false c.loop-j.invariant
