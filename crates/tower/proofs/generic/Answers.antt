use native.Mathlib.Omega.{arith}
use Rattle.tower.proofs.Building.{room_after, built_on, form_product, form_power}
use Rattle.tower.proofs.generic.Goals as goal

pub former-requires-4 : goal.former-requires-4
former-requires-4 c =
    let b0 = c.former.ensures in
    let b1 = built_on _ _ _ _ _ 1 0 _ _ 1 6 2 6 b0 (omega arith) (omega arith) c.former-2.ensures (omega arith) (omega arith) in
    let b2 = built_on _ _ _ _ _ 2 6 _ _ 1 6 3 12 b1 (omega arith) (omega arith) c.former-3.ensures (omega arith) (omega arith) in
    form_product _ _ _ _ 0 6 (room_after _ _ _ _ 8 31 3 12 _ _ 1 6 c.requires b2 (omega arith) (omega arith) (omega arith) (omega arith)) (λ j l. omega arith) (omega arith)

pub former-requires-5 : goal.former-requires-5
former-requires-5 c =
    let b0 = c.former.ensures in
    let b1 = built_on _ _ _ _ _ 1 0 _ _ 1 6 2 6 b0 (omega arith) (omega arith) c.former-2.ensures (omega arith) (omega arith) in
    let b2 = built_on _ _ _ _ _ 2 6 _ _ 1 6 3 12 b1 (omega arith) (omega arith) c.former-3.ensures (omega arith) (omega arith) in
    let b3 = built_on _ _ _ _ _ 3 12 _ _ 1 6 4 18 b2 (omega arith) (omega arith) c.former-4.ensures (omega arith) (omega arith) in
    form_product _ _ _ _ 0 6 (room_after _ _ _ _ 8 31 4 18 _ _ 1 6 c.requires b3 (omega arith) (omega arith) (omega arith) (omega arith)) (λ j l. omega arith) (omega arith)

pub former-requires-6 : goal.former-requires-6
former-requires-6 c =
    let b0 = c.former.ensures in
    let b1 = built_on _ _ _ _ _ 1 0 _ _ 1 6 2 6 b0 (omega arith) (omega arith) c.former-2.ensures (omega arith) (omega arith) in
    let b2 = built_on _ _ _ _ _ 2 6 _ _ 1 6 3 12 b1 (omega arith) (omega arith) c.former-3.ensures (omega arith) (omega arith) in
    let b3 = built_on _ _ _ _ _ 3 12 _ _ 1 6 4 18 b2 (omega arith) (omega arith) c.former-4.ensures (omega arith) (omega arith) in
    let b4 = built_on _ _ _ _ _ 4 18 _ _ 1 6 5 24 b3 (omega arith) (omega arith) c.former-5.ensures (omega arith) (omega arith) in
    form_product _ _ _ _ 1 4 (room_after _ _ _ _ 8 31 5 24 _ _ 1 4 c.requires b4 (omega arith) (omega arith) (omega arith) (omega arith)) (λ j l. omega arith) (omega arith)

pub former-requires-7 : goal.former-requires-7
former-requires-7 c =
    let b0 = c.former.ensures in
    let b1 = built_on _ _ _ _ _ 1 0 _ _ 1 6 2 6 b0 (omega arith) (omega arith) c.former-2.ensures (omega arith) (omega arith) in
    let b2 = built_on _ _ _ _ _ 2 6 _ _ 1 6 3 12 b1 (omega arith) (omega arith) c.former-3.ensures (omega arith) (omega arith) in
    let b3 = built_on _ _ _ _ _ 3 12 _ _ 1 6 4 18 b2 (omega arith) (omega arith) c.former-4.ensures (omega arith) (omega arith) in
    let b4 = built_on _ _ _ _ _ 4 18 _ _ 1 6 5 24 b3 (omega arith) (omega arith) c.former-5.ensures (omega arith) (omega arith) in
    let b5 = built_on _ _ _ _ _ 5 24 _ _ 1 4 6 28 b4 (omega arith) (omega arith) c.former-6.ensures (omega arith) (omega arith) in
    form_product _ _ _ _ 5 2 (room_after _ _ _ _ 8 31 6 28 _ _ 1 2 c.requires b5 (omega arith) (omega arith) (omega arith) (omega arith)) (λ j l. omega arith) (omega arith)

pub former-requires-8 : goal.former-requires-8
former-requires-8 c =
    let b0 = c.former.ensures in
    let b1 = built_on _ _ _ _ _ 1 0 _ _ 1 6 2 6 b0 (omega arith) (omega arith) c.former-2.ensures (omega arith) (omega arith) in
    let b2 = built_on _ _ _ _ _ 2 6 _ _ 1 6 3 12 b1 (omega arith) (omega arith) c.former-3.ensures (omega arith) (omega arith) in
    let b3 = built_on _ _ _ _ _ 3 12 _ _ 1 6 4 18 b2 (omega arith) (omega arith) c.former-4.ensures (omega arith) (omega arith) in
    let b4 = built_on _ _ _ _ _ 4 18 _ _ 1 6 5 24 b3 (omega arith) (omega arith) c.former-5.ensures (omega arith) (omega arith) in
    let b5 = built_on _ _ _ _ _ 5 24 _ _ 1 4 6 28 b4 (omega arith) (omega arith) c.former-6.ensures (omega arith) (omega arith) in
    let b6 = built_on _ _ _ _ _ 6 28 _ _ 1 2 7 30 b5 (omega arith) (omega arith) c.former-7.ensures (omega arith) (omega arith) in
    form_power _ _ _ _ (room_after _ _ _ _ 8 31 7 30 _ _ 1 1 c.requires b6 (omega arith) (omega arith) (omega arith) (omega arith)) (omega arith)

pub returns : goal.returns
returns c =
    let b0 = c.former.ensures in
    let b1 = built_on _ _ _ _ _ 1 0 _ _ 1 6 2 6 b0 (omega arith) (omega arith) c.former-2.ensures (omega arith) (omega arith) in
    let b2 = built_on _ _ _ _ _ 2 6 _ _ 1 6 3 12 b1 (omega arith) (omega arith) c.former-3.ensures (omega arith) (omega arith) in
    let b3 = built_on _ _ _ _ _ 3 12 _ _ 1 6 4 18 b2 (omega arith) (omega arith) c.former-4.ensures (omega arith) (omega arith) in
    let b4 = built_on _ _ _ _ _ 4 18 _ _ 1 6 5 24 b3 (omega arith) (omega arith) c.former-5.ensures (omega arith) (omega arith) in
    let b5 = built_on _ _ _ _ _ 5 24 _ _ 1 4 6 28 b4 (omega arith) (omega arith) c.former-6.ensures (omega arith) (omega arith) in
    let b6 = built_on _ _ _ _ _ 6 28 _ _ 1 2 7 30 b5 (omega arith) (omega arith) c.former-7.ensures (omega arith) (omega arith) in
    let b7 = built_on _ _ _ _ _ 7 30 _ _ 1 1 8 31 b6 (omega arith) (omega arith) c.former-8.ensures (omega arith) (omega arith) in
    b7
