use mathlib.Core.Path.{sym, subst}
use Prim.Native.Nat.{◌+◌}
use Rattle.types_solver.specs.Sizes.{Cleared}
use Rattle.types_solver.proofs.Testing.{clear_step}
use Rattle.types_solver.proofs.acyclicity.clear_marks.Goals as goal

pub loop-i-preserved : goal.loop-i-preserved
loop-i-preserved c =
    let i = c.loop-i.i in
    subst (λ z. Cleared c.args.a.now z (i + 1)) (sym c.store.ensures) (clear_step _ _ _ i c.loop-i.invariant c.requires c.loop-i-test.true)
