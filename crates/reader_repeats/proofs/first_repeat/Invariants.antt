use Rattle.reader_repeats.specs.Marks.{Written}
use Rattle.reader_rules.specs.Reading.{lowest}
use Rattle.reader_rules.specs.Repeats.{repeat_number}
use Rattle.reader_rules.specs.Findings.{scan}
use Prim.Native.Nat.{◌+◌, ◌-◌}
use mathlib.Core.Path.{◌≡◌}
use Rattle.reader_repeats.proofs.first_repeat.Given as goal

abbrev pub invariant-loop-k : goal.invariant-loop-k
invariant-loop-k l = (lowest l.doc (repeat_number l.doc) ≡ scan (repeat_number l.doc) l.k (l.n + 1 - l.k)) × Written l.doc l.k l.seen l.names
