use mathlib.Core.Path.{◌≡◌}
use Prim.Native.Nat.{ℕ, ◌<◌}
use lib.ListN.{length}
use Rattle.types_cells.specs.Store.{frozen, Solved}
use Rattle.types_cells.specs.Flat.{Kept, Direct, Refers}
use Rattle.types_rules.specs.Equations.{Pairs}
use Rattle.types_cells.proofs.links.flatten.Given as goal

abbrev pub invariant-loop-i : goal.invariant-loop-i
invariant-loop-i l = (length l.a ≡ length l.initial.a) × (frozen l.a ≡ frozen l.initial.a) × ((P₀ L : Pairs ℕ) → Solved l.initial.a l.n P₀ L → Kept l.a l.n P₀ L) × ((j : ℕ) → j < l.i → Direct l.a j) × Refers l.initial.a l.a
