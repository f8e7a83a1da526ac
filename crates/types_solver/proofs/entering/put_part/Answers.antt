use Rattle.types_solver.proofs.Instancing.{put_named, put_part}
use Rattle.types_solver.proofs.entering.put_part.Goals as goal

pub returns-then-w-eq1 : goal.returns-then-w-eq1
returns-then-w-eq1 c = put_named _ _ _ _ _ _ _ _ _ c.requires _ c.add_word.ensures _ _ c.add_word-then-w-eq1.ensures c.type_word-id.ensures.0

pub returns-else-w-eq1 : goal.returns-else-w-eq1
returns-else-w-eq1 c = put_part _ _ _ _ _ _ _ _ _ c.requires _ c.add_word.ensures c.if-w-eq1.false
