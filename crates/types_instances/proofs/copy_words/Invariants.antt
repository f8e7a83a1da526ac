use mathlib.Core.Path.{◌≡◌}
use lib.ListN.{length}
use Rattle.types_cells.specs.Store.{run}
use Rattle.types_solver.proofs.Copying.{Copied}
use Rattle.types_instances.proofs.copy_words.Given as goal

abbrev pub invariant-loop-j : goal.invariant-loop-j
invariant-loop-j l = (length l.a ≡ length l.initial.a) × Copied l.initial.a l.a l.at (run l.from l.first l.k) l.j
