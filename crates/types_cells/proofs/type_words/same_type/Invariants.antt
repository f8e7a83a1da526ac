use mathlib.Core.Path.{◌≡◌}
use Prim.Native.Nat.{ℕ, ◌+◌, ◌<◌}
use lib.ListN.{get_or}
use Rattle.types_cells.specs.Settled.{heap}
use Rattle.types_cells.proofs.type_words.same_type.Given as goal

abbrev pub invariant-loop-j : goal.invariant-loop-j
invariant-loop-j l = (i : ℕ) → i < l.j → get_or (heap l.a l.d) (l.p + i) 0 ≡ get_or (heap l.a l.d) (l.q + i) 0
