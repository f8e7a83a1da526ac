-- Items that pass have equations of their own: the valuations that meet the items, of types or of possibly infinite types, are those that solve the equations.
use mathlib.Core.Logic.{◌↔◌}
use Prim.Native.Nat.{ℕ}
use Rattle.types_rules.specs.Types.{Term}
use Rattle.types_rules.specs.Equations.{Pairs, end, Solves}
use Rattle.types_rules.specs.Classify.{Solvable}
use Rattle.types_rules.specs.Trees.{Extent, finite, Tree, under_in}
use Rattle.checker_rules.specs.Unknowns.{Valuation}
use Rattle.checker_rules.specs.Items.{Items, Meets, MeetsIn, Any, Passes}
use Rattle.checker_rules.specs.Solving.{equations_of}
use Rattle.checker_rules.proofs.ItemEquations.{standing_start, standing_more}

pub record Equational (t : Items) : Type 0 where
  pub E : Pairs Term
  pub is : (ε : Extent) (τ : ℕ → Tree ε) → MeetsIn t ε τ ↔ Solves (under_in ε τ) E
  pub some : Solvable E

pub equational : (t : Items) → Passes t Any → (τ : Valuation) → Meets t τ → Equational t
equational t p τ m =
    let s = standing_more t Any end p standing_start in
    record { E = equations_of t end; is = λ ε σ. (λ h. (s ε σ).0 (tt, h), λ h. ((s ε σ).1 h).1); some = (τ, (s finite τ).0 (tt, m)) }
