use Rattle.checker_dictionary.proofs.PlacingLaws.{close_ask, closed}
use Rattle.checker_dictionary.proofs.placing.close.Goals as goal

pub place-requires : goal.place-requires
place-requires c = rw c.word-n.ensures.0 (close_ask _ c.requires.0 c.requires.1)

pub returns : goal.returns
returns c = λ D S. closed D _ _ S (rw (← c.word-n.ensures.0) (c.place.ensures D S))
