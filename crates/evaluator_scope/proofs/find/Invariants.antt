use mathlib.Core.Path.{◌≡◌}
use Rattle.evaluator_scope.specs.Blocks.{last_block}
use Rattle.evaluator_scope.proofs.find.Given as goal

abbrev pub invariant-loop-b : goal.invariant-loop-b
invariant-loop-b l = last_block l.work l.name l.n ≡ last_block l.work l.name l.b
