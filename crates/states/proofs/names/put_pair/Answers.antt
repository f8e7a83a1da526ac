use Rattle.states.specs.Table.{put_pair}
use Rattle.states.proofs.names.put_pair.Goals as goal

pub returns : goal.returns
unfolding put_pair
returns c = rw (← c.word.ensures.0, ← c.part.ensures, ← c.word-2.ensures.0, ← c.store.ensures) c.store-2.ensures
