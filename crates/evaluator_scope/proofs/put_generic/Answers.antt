use mathlib.Core.Path.{refl}
use Rattle.evaluator_scope.proofs.BlockLaws.{bind_generic}
use Rattle.evaluator_scope.proofs.put_generic.Goals as goal

pub returns : goal.returns
returns c = let a = c.args in bind_generic a.work.now c.put_head.new.work a.n a.name 3 0 0 c.put_head.ensures c.requires.0 refl
