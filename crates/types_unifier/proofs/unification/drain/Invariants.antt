use Prim.Native.Nat.{◌+◌}
use Rattle.types_cells.specs.Layout.{max_cells}
use Rattle.types_cells.specs.Store.{weight}
use Rattle.types_unifier.proofs.Turns.{Draining}
use Rattle.types_unifier.proofs.unification.drain.Given as goal

abbrev pub invariant-loop-k : goal.invariant-loop-k
invariant-loop-k l = Draining l.initial.a l.a l.d l.k

abbrev pub decreases-loop-k : goal.decreases-loop-k
decreases-loop-k l = weight l.a max_cells + l.k
