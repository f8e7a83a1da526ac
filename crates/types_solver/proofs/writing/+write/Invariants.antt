use mathlib.Core.Path.{◌≡◌}
use Prim.Native.Nat.{◌+◌, ◌-◌}
use lib.ListN.{length}
use lib.Seq.{sets}
use Rattle.types_rules.specs.Types.{Ty}
use Rattle.types_rules.specs.Equations.{Pairs}
use Rattle.types_cells.specs.Store.{frozen}
use Rattle.types_solver.specs.Sizes.{mark_at, Model}
use Rattle.types_solver.specs.Written.{rest, Resolved}
use Prim.Native.Nat.{ℕ, ◌<◌}
use Rattle.types_solver.proofs.writing.+write.Given as goal

abbrev pub decreases-write : goal.decreases-write
decreases-write l = mark_at l.a.now l.i

abbrev pub invariant-loop-j : goal.invariant-loop-j
invariant-loop-j l = (length l.out ≡ length l.initial.out) × ((n : ℕ) (L : Pairs ℕ) (σ : ℕ → Ty) → Model l.a l.d n L σ → Resolved l.a n L → l.i < n →
    (sets l.initial.out l.initial.m (rest σ (frozen l.a) l.r 0 l.k) ≡ sets l.out l.m (rest σ (frozen l.a) l.r l.j (l.k - l.j)))
    × (l.initial.m + length (rest σ (frozen l.a) l.r 0 l.k) ≡ l.m + length (rest σ (frozen l.a) l.r l.j (l.k - l.j))))
