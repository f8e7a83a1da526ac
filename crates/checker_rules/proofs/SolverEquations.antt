-- The solver's state and the equations that it has collected have the same solutions; so where it stops, `classify` of the equations gives the number.
use mathlib.Core.Path.{refl}
use mathlib.Core.Logic.{◌↔◌, inl, inr}
use Prim.Native.Nat.{ℕ}
use Rattle.types_rules.specs.Types.{Term, under}
use Rattle.types_rules.specs.Substitution.{Substitution, Respects}
use Rattle.types_rules.specs.Equations.{Pairs, Solves}
use Rattle.types_rules.specs.Classify.{Solvable, Verdict, solvable, clashing, endless, Right}
use Rattle.types_rules.specs.Infinite.{Inf, under_inf}
use Rattle.types_rules.specs.Trees.{finite, infinite, under_in}
use Rattle.types_rules.proofs.Infinite.{clash_none, infinite_fits}
use Rattle.checker_rules.specs.Unknowns.{Valuation}
use Rattle.checker_rules.specs.Items.{Items, Meets, MeetsIn, Typings, And, Unsolved}
use Rattle.checker_rules.specs.Solving.{join_pairs, number_of}
use Rattle.checker_rules.proofs.ItemEquations.{StandingIn, equations_standing}

-- The types that solve E are those of the state s, and the possibly infinite types that do are those of P.
pub record Collected (P : Typings) (E : Pairs Term) (s : Substitution) : Type 0 where
  pub types : (τ : Valuation) → Solves (under τ) E ↔ Respects τ s
  pub infinites : StandingIn infinite P E

-- The valuations that solve E.
abbrev pub By : Pairs Term → Typings
By E w τ = Solves (under_in w τ) E

pub by_itself : (E : Pairs Term) → StandingIn finite (By E) E
by_itself E τ = (λ h. h, λ h. h)

pub collected_more : (t : Items) (P : Typings) (E F : Pairs Term) (s r : Substitution) → StandingIn finite (And (By E) t) F → StandingIn infinite (And P t) F
    → ((τ : Valuation) → Respects τ r ↔ (Respects τ s × Meets t τ)) → Collected P E s → Collected (And P t) F r
collected_more t P E F s r f i e c = record {
  types = λ τ. (
    λ h. let z = (f τ).1 h in (e τ).1 ((c.types τ).0 z.0, z.1),
    λ h. let z = (e τ).0 h in (f τ).0 ((c.types τ).1 z.0, z.1),
  );
  infinites = i;
}

-- 33 where no possibly infinite types solve the equations of the node with those before it, 39 where some do.
pub number_right : (P : Typings) (E : Pairs Term) (n : ℕ) (es : Pairs Term) → StandingIn infinite P E → (Solvable (join_pairs es E) → ⊥)
    → (v : Verdict) → Right (join_pairs es E) v → Unsolved (number_of v) ((ρ : ℕ → Inf) × P infinite ρ × Solves (under_inf ρ) es)
unfolding number_of MeetsIn
number_right P E n es i none solvable r = absurd (none r.0)
number_right P E n es i none clashing r = inl (refl, λ z. clash_none (join_pairs es E) r.0 z.0 ((equations_standing infinite P E n es i z.0).0 (z.1, z.2)))
number_right P E n es i none endless r =
    let z = infinite_fits (join_pairs es E) r.0 in
    let h = (equations_standing infinite P E n es i z.0).1 z.1 in
    inr (refl, (z.0, h.0, h.1))
