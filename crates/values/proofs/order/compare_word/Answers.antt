use Rattle.std.proofs.Common.{w32}
use mir.ValLaws.{to_z-of_z}
use Rattle.values.specs.Order.{compare_word}
use Rattle.values.proofs.order.compare_word.Goals as goal

pub returns : goal.returns
unfolding compare_word
returns c =
    let p = to_z-of_z w32 c.signed.result (record { sfits = c.signed.type_inv }) in
    let q = to_z-of_z w32 c.signed-2.result (record { sfits = c.signed-2.type_inv }) in
    rw (← c.signed.ensures, ← c.signed-2.ensures, rw (p, q) at c.cmp.ensures)
