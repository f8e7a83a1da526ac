use Rattle.reader_repeats.specs.Marks.{shares}
use lib.ListN.{drop}
use mathlib.Core.Path.{◌≡◌}
use Rattle.reader_repeats.proofs.marks.share.Given as goal

abbrev pub invariant-loop-y : goal.invariant-loop-y
invariant-loop-y l = shares l.xs l.ys ≡ shares l.xs (drop l.y-index l.ys)
