use Prim.Native.Nat.{◌+◌, ◌-◌, ◌<◌}
use lib.ListN.{length}
use Rattle.types_rules.specs.Types.{Ty}
use Rattle.types_rules.specs.Words.{words}
use Rattle.types_cells.specs.Settled.{heap, Reads}
use Rattle.types_cells.proofs.Reading.{Scan}
use Rattle.types_cells.proofs.type_words.+skip.Given as goal

abbrev pub decreases-skip : goal.decreases-skip
decreases-skip l = length (heap l.a.now l.d.now) - l.p

abbrev pub invariant-loop-j : goal.invariant-loop-j
invariant-loop-j l = (l.p < l.at) × ((g : Ty) → Reads (heap l.a l.d) l.p g → Scan (heap l.a l.d) l.w l.at l.n l.j (l.p + length (words g)))
