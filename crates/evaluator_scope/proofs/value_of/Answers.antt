use Rattle.evaluator_scope.specs.Blocks.{value_of}
use Rattle.evaluator_scope.proofs.value_of.Goals as goal

pub returns : goal.returns
unfolding value_of
returns c = rw (← c.word.ensures.0, ← c.word-2.ensures.0, ← c.word-3.ensures.0) c.value_at.ensures
