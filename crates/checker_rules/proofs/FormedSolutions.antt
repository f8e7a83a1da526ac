-- SOLUTIONS ARE TYPES. A valuation may give an unknown a tree that is no type of document 01, as a power of two parts. It does not matter: items of well-formed
-- terms pass, and refuse f at m, exactly where they do with well-formed types alone as solutions.
use mathlib.Core.Path.{refl}
use mathlib.Core.Bool.{Bool, true, false}
use mathlib.Core.Logic.{◌↔◌}
use Prim.Native.Nat.{ℕ, zero, suc}
use lib.Dec.{eqb}
use Rattle.types_rules.specs.Types.{Ty, integer_type, ℙℤ}
use Rattle.types_rules.specs.Substitution.{Substitution, update}
use Rattle.types_rules.specs.Formed.{FormedType, Arity, WellFormed}
use Rattle.types_rules.proofs.Formed.{FitS, sol_fit}
use Rattle.checker_rules.specs.Items.{Items, Any, Passes, Refuses}
use Rattle.checker_rules.specs.Solving.{solve}
use Rattle.checker_rules.specs.WellFormed.{FormedValuation, FormedTypings}
use Rattle.checker_rules.proofs.SettledTerms.{tower}
use Rattle.checker_rules.proofs.SolvingRight.{Solutions, Verdict, solve_right_in, solve_right, passes_in, refuses_in}
use Rattle.checker_rules.proofs.FormedItems.{FormedItems}
use Rattle.checker_rules.proofs.FormedCheck.{solve_formed}

-- ---- well-formed valuations
tower_formed : (n : ℕ) → WellFormed (tower n)
unfolding tower FormedType Arity
tower_formed zero = (refl, tt)
tower_formed (suc n) = (refl, (tower_formed n, tt))

two_formed : (x : ℕ) → FormedValuation (update (λ y. integer_type) x ℙℤ)
unfolding update FormedType Arity
two_formed x y = go (eqb y x)
  where
    go : (b : Bool) → WellFormed (elim b as (λ c. Ty) [ true ↦ ℙℤ | false ↦ integer_type ])
    go true = (refl, ((refl, tt), tt))
    go false = (refl, tt)

solutions_formed : (s : Substitution) → FitS Arity s → Solutions FormedTypings s
unfolding tower
solutions_formed s k =
    (sol_fit Arity s k (λ y. integer_type) (λ y. tower_formed 0), λ x. sol_fit Arity s k (update (λ y. integer_type) x ℙℤ) (two_formed x), sol_fit Arity s k (λ y. tower 32) (λ y. tower_formed 32))

-- ---- for items of well-formed terms
module _ (t : Items) (f : FormedItems t) where
  pub right_formed : Verdict FormedTypings t (solve t)
  right_formed =
      solve_right_in FormedTypings (λ ρ. tt) (FitS Arity) FormedItems solutions_formed solve_formed (λ a b k. unfold FormedItems in k) (λ n u k. unfold FormedItems in k) t f tt

  pub formed_passes : Passes t Any ↔ Passes t FormedTypings
  formed_passes =
      let a = passes_in Any t (solve_right t) in
      let b = passes_in FormedTypings t right_formed in
      (λ p. b.0 (a.1 p), λ p. a.0 (b.1 p))

  pub formed_refuses : (g m : ℕ) → Refuses t Any g m ↔ Refuses t FormedTypings g m
  formed_refuses g m =
      let a = refuses_in Any t (solve_right t) g m in
      let b = refuses_in FormedTypings t right_formed g m in
      (λ r. b.0 (a.1 r), λ r. a.0 (b.1 r))
