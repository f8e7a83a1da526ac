use mathlib.Core.Path.{◌≡◌}
use Prim.Native.Nat.{◌+◌, ◌-◌, ◌<◌}
use lib.ListN.{length}
use lib.Seq.{sets}
use Rattle.types_rules.specs.Types.{Ty, Tys}
use Rattle.types_cells.specs.Settled.{heap, Reads}
use Rattle.types_instances.specs.Filled.{Row}
use Rattle.types_instances.proofs.FillWords.{body, Emitting}
use Rattle.types_instances.proofs.+write_filled.Given as goal

abbrev pub decreases-write_filled : goal.decreases-write_filled
decreases-write_filled l = length (heap l.a.now l.d.now) - l.p

abbrev pub invariant-loop-j : goal.invariant-loop-j
invariant-loop-j l = (l.p < l.q) × (length l.out ≡ length l.initial.out) × ((g : Ty) (hs : Tys) → Reads (heap l.a l.d) l.p g → Row (heap l.a l.d) l.row hs → Emitting (heap l.a l.d) hs l.w l.q l.n l.j l.out l.e (sets l.initial.out l.initial.e (body hs g)) (l.initial.e + length (body hs g)))
