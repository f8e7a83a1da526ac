use mathlib.Core.Path.{◌≡◌}
use Prim.Native.Nat.{ℕ, ◌+◌, ◌<◌}
use lib.ListN.{get_or}
use Rattle.types_cells.specs.Store.{frozen}
use Rattle.types_solver.proofs.components.place.Given as goal

abbrev pub invariant-loop-j : goal.invariant-loop-j
invariant-loop-j l = (i : ℕ) → i < l.j → get_or (frozen l.a) (l.p + i) 0 ≡ l.x → ⊥
