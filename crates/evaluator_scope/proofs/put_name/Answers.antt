use Rattle.evaluator_scope.proofs.BlockLaws.{bind_value}
use Rattle.evaluator_scope.proofs.put_name.Goals as goal

pub returns : goal.returns
returns c = let a = c.args in bind_value a.work.now c.put_value.new.work c.put_head.new.work a.n a.name a.v c.put_value.ensures c.put_head.ensures c.requires.0
