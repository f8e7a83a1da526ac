use native.Mathlib.Omega.{arith}
use Rattle.tower.proofs.Building.{room_after, built_on, form_power}
use Rattle.tower.proofs.applied.Goals as goal

pub former-requires-3 : goal.former-requires-3
former-requires-3 c =
    let b0 = c.former.ensures in
    let b1 = built_on _ _ _ _ _ 1 0 _ _ 1 2 2 2 b0 (omega arith) (omega arith) c.former-2.ensures (omega arith) (omega arith) in
    form_power _ _ _ _ (room_after _ _ _ _ 3 3 2 2 _ _ 1 1 c.requires.0 b1 (omega arith) (omega arith) (omega arith) (omega arith)) (omega arith)

pub returns : goal.returns
returns c =
    let b0 = c.former.ensures in
    let b1 = built_on _ _ _ _ _ 1 0 _ _ 1 2 2 2 b0 (omega arith) (omega arith) c.former-2.ensures (omega arith) (omega arith) in
    let b2 = built_on _ _ _ _ _ 2 2 _ _ 1 1 3 3 b1 (omega arith) (omega arith) c.former-3.ensures (omega arith) (omega arith) in
    b2
