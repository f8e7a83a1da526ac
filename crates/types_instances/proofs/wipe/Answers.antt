use mathlib.Core.Path.{sym, ap, subst, ◌∙◌}
use Prim.Native.Nat.{◌+◌}
use lib.ListN.{length, length-set}
use Rattle.types_instances.proofs.Copying.{Wiped, wiped_step}
use Rattle.types_instances.proofs.wipe.Goals as goal

pub loop-i-preserved : goal.loop-i-preserved
loop-i-preserved c =
    let s = c.args in
    let E = c.store.ensures in (
      ap length E ∙ length-set c.loop-i.a c.loop-i.i 0 ∙ c.loop-i.invariant.0,
      subst (λ z. Wiped s.a.now z s.from s.to (c.loop-i.i + 1)) (sym E)
          (wiped_step s.a.now c.loop-i.a s.from s.to c.loop-i.i c.loop-i-test.true c.loop-i.invariant.1),
    )
