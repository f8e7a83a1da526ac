use mathlib.Core.Bool.{Bool}
use mathlib.Core.List.{List}
use Prim.Native.Nat.{ℕ}
use lib.ListN.{drop}
use Rattle.types_solver.specs.Equation.{Equating, MergedAll}
use Rattle.types_solver.proofs.merge_all.Given as goal

-- What the others promise from here on, all promise from the start.
abbrev pub invariant-loop-part : goal.invariant-loop-part
invariant-loop-part l =
    ((n : ℕ) × Equating l.a l.d n (drop l.part-index l.parts) l.cell l.step)
    × ((u : List ℕ) (b : Bool) → MergedAll l.a u l.d (drop l.part-index l.parts) l.cell l.step b → MergedAll l.initial.a u l.d l.parts l.y l.step b)
