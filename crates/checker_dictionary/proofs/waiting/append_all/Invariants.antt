use Rattle.std.proofs.Common.{ℕ, ◌-◌, Bool, List}
use Rattle.checker_dictionary.specs.Waiting.{Waiting}
use Rattle.checker_dictionary.proofs.WaitingLaws.{AllAppended}
use Rattle.checker_dictionary.proofs.waiting.append_all.Given as goal

abbrev pub invariant-loop : goal.invariant-loop
invariant-loop l = Waiting l.work l.p (l.m - l.counter) × ((d : List ℕ) (b : Bool) → AllAppended l.work l.p (l.m - l.counter) l.d d b → AllAppended l.work l.at l.m l.initial.d d b)
