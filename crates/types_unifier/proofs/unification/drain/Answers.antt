use mathlib.Core.Path.{refl}
use native.Mathlib.Omega.{arith}
use Rattle.types_unifier.proofs.Turns.{draining_open, draining_step, draining_stop, draining_end}
use Rattle.types_unifier.proofs.unification.drain.Goals as goal

pub turn-requires : goal.turn-requires
turn-requires c = let t = c.loop-k-test.true in draining_open _ _ _ _ _ c.loop-k.invariant (omega arith) c.requires

pub loop-k-preserved : goal.loop-k-preserved
loop-k-preserved c = let t = c.loop-k-test.true in draining_step _ _ _ _ _ _ _ _ c.loop-k.invariant (omega arith) c.in-Some.ensures c.turn.auto.a refl

pub returns-in_default : goal.returns-in_default
returns-in_default c = let t = c.loop-k-test.true in draining_stop _ _ _ _ _ _ _ _ c.loop-k.invariant (omega arith) c.in_default.ensures refl

pub returns : goal.returns
returns c = draining_end _ _ _ _ c.loop-k-test.false c.loop-k.invariant
