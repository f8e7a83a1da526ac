-- Findings 34 and 35: what the scans say of solutions.
use mathlib.Core.Path.{◌≡◌, sym, ◌∙◌}
use mathlib.Core.List.{List, map}
use Prim.Native.Nat.{ℕ, ◌<◌}
use lib.Dec.{eqb}
use Rattle.types_rules.specs.Classes.{rep}
use Rattle.types_rules.specs.Equations.{Pairs}
use Rattle.types_rules.specs.Finite.{from_list}
use Rattle.types_rules.specs.Types.{node}
use Rattle.types_cells.specs.Store.{frozen, tag_at, parts_at, former_at, Solved}
use Rattle.types_solver.specs.Sizes.{Solution}
use Rattle.types_cells.proofs.LinkLaws.{rep_below}
use Rattle.types_cells.proofs.Heads.{view_shape}
use Rattle.types_solver.proofs.Marking.{by_rep}

module _ (s : List ℕ) (n : ℕ) (P₀ L : Pairs ℕ) (S : Solved s n P₀ L) where
  abbrev w : List ℕ
  w = frozen s

  abbrev r : ℕ → ℕ
  r = rep eqb L

  -- A former's type, in a solution.
  module _ (i : ℕ) (l : i < n) where
    b : r i < n
    b = rep_below n L S.held.inside i l

    pub formed : 0 < tag_at w (r i) → (X : Solution w n P₀) → X.σ i ≡ node (former_at w (r i)) (from_list (map X.σ (parts_at w (r i))))
    formed p X = sym (by_rep s n P₀ L S X i) ∙ X.fits (r i) _ _ (view_shape w n (r i) b p)
