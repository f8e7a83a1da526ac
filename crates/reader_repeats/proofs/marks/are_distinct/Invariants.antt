use Rattle.reader_repeats.specs.Marks.{distinct}
use lib.ListN.{drop}
use mathlib.Core.Path.{◌≡◌}
use Rattle.reader_repeats.proofs.marks.are_distinct.Given as goal

abbrev pub invariant-loop-i : goal.invariant-loop-i
invariant-loop-i l = distinct l.xs ≡ distinct (drop l.i l.xs)
