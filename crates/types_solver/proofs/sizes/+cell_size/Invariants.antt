use Prim.Native.Nat.{◌≤◌}
use Rattle.types_rules.specs.Types.{Ty}
use Rattle.types_rules.specs.Equations.{Pairs}
use Rattle.types_solver.specs.Sizes.{mark_at, Model, Least}
use Rattle.types_solver.proofs.Sizing.{Adding}
use Prim.Native.Nat.{ℕ, ◌<◌}
use Rattle.types_solver.proofs.sizes.+cell_size.Given as goal

abbrev pub decreases-cell_size : goal.decreases-cell_size
decreases-cell_size l = mark_at l.a.now l.i

abbrev pub invariant-loop-j : goal.invariant-loop-j
invariant-loop-j l = (l.sum ≤ 33) × ((n : ℕ) (L : Pairs ℕ) (σ : ℕ → Ty) → Model l.a l.d n L σ → Least l.a n σ → l.i < n → Adding l.a σ l.i l.r l.k l.j l.sum)
