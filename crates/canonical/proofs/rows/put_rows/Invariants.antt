use mathlib.Core.Path.{◌≡◌}
use mathlib.Core.List.{List, map}
use Prim.Native.Nat.{ℕ}
use lib.ListN.{length}
use lib.Seq.{sets}
use Rattle.layout.specs.Layout.{part}
use Rattle.layout.specs.Rows.{row_words}
use Rattle.canonical_rules.specs.RowMap.{map_row}
use Rattle.canonical.specs.Rows.{table_at}
use Rattle.canonical.proofs.RowLaws.{WordsLeft}
use Rattle.canonical.proofs.rows.put_rows.Given as goal

abbrev pub row_by : List ℕ → List ℕ → ℕ → List ℕ
row_by doc numbers k = map_row (table_at numbers) (part doc k)

abbrev pub invariant-loop-k : goal.invariant-loop-k
invariant-loop-k l = (length l.output ≡ length l.initial.output) × WordsLeft (row_by l.doc l.numbers) l.nodes l.k-index l.at l.output (sets l.initial.output l.initial.at (row_words (map (row_by l.doc l.numbers) l.nodes)))
