use mathlib.Core.Path.{◌≡◌}
use Prim.Native.Nat.{ℕ, ◌<◌, ◌+◌}
use lib.Dec.{eqb}
use Rattle.types_cells.specs.Layout.{max_cells, settled_from}
use Rattle.types_cells.specs.Store.{link_at, Held}
use Rattle.types_cells.proofs.LinkLaws.{far}
use Rattle.types_rules.specs.Classes.{rep}
use Rattle.types_rules.specs.Equations.{Pairs}
use Rattle.types_cells.proofs.links.find.Given as goal

abbrev pub invariant-loop-l : goal.invariant-loop-l
invariant-loop-l l = (l.l ≡ link_at l.a l.k) × (l.l < settled_from) × ((n : ℕ) (L : Pairs ℕ) → Held l.a n L → l.i < n → (l.k < n) × (rep eqb L l.k ≡ rep eqb L l.i))

abbrev pub decreases-loop-l : goal.decreases-loop-l
decreases-loop-l l = far l.a (1 + max_cells) l.k
