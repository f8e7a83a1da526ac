use Rattle.reader.proofs.CountLaws.{Crowding}
use Rattle.reader.proofs.limits.crowd.Given as goal

abbrev pub invariant-loop : goal.invariant-loop
invariant-loop l = Crowding l.doc l.n l.k l.initial.below l.counter l.a l.below
