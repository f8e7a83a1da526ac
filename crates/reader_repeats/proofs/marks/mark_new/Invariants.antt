use Rattle.reader_repeats.specs.Marks.{unmarked, marked}
use lib.ListN.{drop}
use mathlib.Core.Path.{◌≡◌}
use Rattle.reader_repeats.proofs.marks.mark_new.Given as goal

abbrev pub invariant-loop-id : goal.invariant-loop-id
invariant-loop-id l = (unmarked l.ids l.initial.seen ≡ unmarked (drop l.id-index l.ids) l.seen) × (marked l.ids l.initial.seen ≡ marked (drop l.id-index l.ids) l.seen)
