use Rattle.types_unifier.proofs.Turns.{merged, merge_open}
use Rattle.types_unifier.proofs.unification.merge.Goals as goal

pub drain-requires : goal.drain-requires
drain-requires c = merge_open _ _ _ _ _ c.push.ensures c.requires

pub returns : goal.returns
returns c = merged _ _ _ _ _ _ _ c.push.ensures c.drain.ensures c.requires.solved.held.size
