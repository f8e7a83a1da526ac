use Rattle.std.proofs.Common.{subst}
use Rattle.values.specs.Held.{Building}
use Rattle.enumeration.proofs.Laws.{longer_joined}
use Rattle.enumeration.proofs.products.longer.Goals as goal

pub returns : goal.returns
returns c =
    λ ws b.
    let p = c.put.ensures _ (c.put-b.ensures _ (c.put-a.ensures ws b)) in
    subst (Building _ _) (rw (c.wrapping_add_u32.ensures.value, c.word.ensures.0, c.from.ensures) (longer_joined ws _ _)) p
