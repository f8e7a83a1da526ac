use mathlib.Core.Path.{◌≡◌, subst}
use Prim.Native.Nat.{ℕ, ◌+◌, ◌-◌}
use native.Mathlib.Omega.{arith}
use Rattle.evaluator_scope.proofs.BlockLaws.{Domained, pushed_none, pushed_more}
use Rattle.evaluator_scope.proofs.put_domains.Goals as goal

pub loop-i-preserved : goal.loop-i-preserved
loop-i-preserved c =
    let a = c.args in
    let i = c.loop-i.i in
    let long = c.loop-i.invariant.0 in
    let z : a.b + (i + 1 - a.j) ≡ a.b + (i - a.j) + 1 = omega arith in (
      omega (arith, c.put_value.auto.work, c.put_head.auto.work),
      λ w p.
          c.loop-i.invariant.1 w
          (pushed_more c.loop-i.work c.put_head.new.work c.put_value.new.work w a.x.now (a.b + (i - a.j)) i a.v (rw c.word.ensures.0 at c.put_head.ensures) c.put_value.ensures (omega arith) (omega arith)
          (subst (λ (b : ℕ). Domained c.put_value.new.work w a.x.now b (i + 1) a.v) z p)),
    )

pub returns : goal.returns
returns c = c.loop-i.invariant.1 _ (pushed_none _ _ _ _ _ (omega arith))
