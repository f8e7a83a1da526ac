use native.Mathlib.Omega.{arith}
use Rattle.tower.proofs.Building.{room_after, level_room, level_asking, level_applied}
use Rattle.tower.proofs.level.Goals as goal

pub applied-requires : goal.applied-requires
applied-requires c =
    let l = c.requires.made in
    (room_after _ _ _ _ 11 34 8 31 _ _ 3 3 (level_room _ _ _ _ _ c.requires) c.generic.ensures (omega arith) (omega arith) (omega arith) (omega arith), omega arith)

pub merge-requires : goal.merge-requires
merge-requires c = level_asking _ _ _ _ _ c.requires _ _ c.generic.ensures c.applied.ensures

pub returns : goal.returns
returns c = level_applied _ _ _ _ _ c.requires _ _ c.generic.ensures c.applied.ensures _ _ c.merge.ensures
