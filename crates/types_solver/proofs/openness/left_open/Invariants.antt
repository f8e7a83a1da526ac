use mathlib.Core.Path.{◌≡◌}
use Prim.Native.Nat.{ℕ, ◌≤◌, ◌<◌}
use lib.Dec.{eqb}
use Rattle.types_rules.specs.Classes.{rep}
use Rattle.types_rules.specs.Equations.{Pairs}
use Rattle.types_cells.specs.Layout.{settled_from}
use Rattle.types_cells.specs.Store.{frozen, tag_at, Held}
use Rattle.types_cells.specs.Settled.{word_at}
use Rattle.types_solver.proofs.openness.left_open.Given as goal

abbrev pub invariant-loop-i : goal.invariant-loop-i
invariant-loop-i l = (j : ℕ) → j < l.i → (L : Pairs ℕ) → Held l.a l.n L → tag_at (frozen l.a) (rep eqb L j) ≡ 0 → settled_from ≤ word_at l.a (rep eqb L j)
