use mathlib.Core.Path.{◌≡◌}
use Prim.Native.Nat.{ℕ, ◌<◌}
use lib.ListN.{length, get_or}
use Rattle.types_cells.specs.Layout.{pairs_at}
use Rattle.types_cells.specs.Store.{frozen, first_at}
use Rattle.types_unifier.proofs.PendingLaws.{left}
use Rattle.types_unifier.proofs.unification.push_parts.Given as goal

abbrev pub invariant-loop-j : goal.invariant-loop-j
invariant-loop-j l = (length l.a ≡ length l.initial.a) × (frozen l.a ≡ frozen l.initial.a) × ((i : ℕ) → i < pairs_at → get_or l.a i 0 ≡ get_or l.initial.a i 0)
    × (left (frozen l.initial.a) (first_at (frozen l.initial.a) l.x) (first_at (frozen l.initial.a) l.y) l.m l.a l.k l.j ≡ left (frozen l.initial.a) (first_at (frozen l.initial.a) l.x) (first_at (frozen l.initial.a) l.y) l.m l.initial.a l.k 0)
