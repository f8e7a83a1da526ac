use mathlib.Core.Path.{refl}
use Rattle.evaluator_scope.proofs.BlockLaws.{bind_entry}
use Rattle.evaluator_scope.proofs.put_entry.Goals as goal

pub returns : goal.returns
returns c = let a = c.args in bind_entry a.work.now c.put_head.new.work a.n a.name 1 a.at a.len c.put_head.ensures c.requires.0 refl
