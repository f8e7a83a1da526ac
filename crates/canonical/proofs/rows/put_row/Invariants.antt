use mathlib.Core.Path.{◌≡◌}
use Prim.Native.Nat.{◌+◌}
use lib.ListN.{length, drop}
use lib.Seq.{sets}
use Rattle.canonical_rules.specs.RowMap.{map_row}
use Rattle.canonical.specs.Rows.{table_at}
use Rattle.canonical.proofs.rows.put_row.Given as goal

abbrev pub invariant-loop-i : goal.invariant-loop-i
invariant-loop-i l = let v = map_row (table_at l.numbers) l.w in (length l.output ≡ length l.initial.output) × (sets l.initial.output (l.at + 1) (drop 1 v) ≡ sets l.output (l.at + l.i) (drop l.i v))
