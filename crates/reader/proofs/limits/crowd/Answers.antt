use native.Mathlib.Omega.{arith}
use Rattle.reader.proofs.CountLaws.{table_parent, table_place, crowding_next, crowded_as}
use Rattle.reader.proofs.limits.crowd.Goals as goal

pub loop-preserved : goal.loop-preserved
loop-preserved c = crowding_next _ _ _ _ _ _ _ c.loop.invariant _ (omega arith) (table_parent _ _ c.requires.0 _ _ c.loop.invariant.place c.word-a.ensures.0) c.if-a-eq0.false _ (table_place _ _ c.requires.0 c.loop.a c.word-a.result c.loop.invariant.place c.word-a.ensures.0) (crowded_as c.crowd_one.ensures c.if-crowd_one.false)
