use mathlib.Core.Path.{◌≡◌}
use lib.ListN.{length}
use Rattle.types_cells.specs.Store.{run}
use Rattle.types_cells.specs.Settled.{heap}
use Rattle.types_solver.proofs.Copying.{Copied}
use Rattle.types_solver.proofs.writing.put_words.Given as goal

abbrev pub invariant-loop-j : goal.invariant-loop-j
invariant-loop-j l = (length l.out ≡ length l.initial.out) × Copied l.initial.out l.out l.at (run (heap l.a l.d) l.p l.k) l.j
