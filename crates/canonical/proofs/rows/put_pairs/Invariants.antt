use mathlib.Core.Path.{◌≡◌}
use mathlib.Core.List.{map}
use lib.ListN.{length}
use lib.Seq.{sets}
use Rattle.layout.specs.Layout.{part}
use Rattle.layout.specs.Rows.{row_pairs}
use Rattle.canonical.proofs.RowLaws.{PairsLeft}
use Rattle.canonical.proofs.rows.put_pairs.Given as goal

abbrev pub invariant-loop-i : goal.invariant-loop-i
invariant-loop-i l = (length l.output ≡ length l.initial.output) × PairsLeft (part l.doc) l.nodes l.i l.at l.output (sets l.initial.output 1 (row_pairs (map (part l.doc) l.nodes) l.initial.at))
