use Rattle.evaluator_scope.specs.Blocks.{headed}
use Rattle.evaluator_scope.proofs.put_head.Goals as goal

pub returns : goal.returns
unfolding headed
returns c = rw (← c.store.ensures, ← c.store-2.ensures, ← c.store-3.ensures) c.store-4.ensures
