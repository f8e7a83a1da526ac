use Rattle.values.specs.Sets.{insert, insert_at}
use Rattle.values.proofs.sets.insert.Goals as goal

pub returns-in-None : goal.returns-in-None
unfolding insert insert_at
returns-in-None c = rw (← c.place_of-p.ensures, c.in-None.is) c.hold.ensures

pub returns-in-Some : goal.returns-in-Some
unfolding insert
returns-in-Some c = rw (← c.place_of-p.ensures, c.in-Some.is) c.insert_at.ensures
