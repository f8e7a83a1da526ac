-- The equations that the solver collects say what the items say, of types and of possibly infinite types: the same valuations meet them.
use mathlib.Core.Path.{◌≡◌, refl, ap, sym, ◌∙◌}
use mathlib.Core.Option.{Option, some, none as nothing}
use mathlib.Core.Logic.{◌↔◌}
use Prim.Native.Nat.{ℕ}
use native.Mathlib.Omega.{arith}
use Rattle.types_rules.specs.Types.{Ty, Term, unknown, under}
use Rattle.types_rules.specs.Equations.{Pairs, end, pair, Solves}
use Rattle.types_rules.specs.Classify.{Solvable, view_term}
use Rattle.types_rules.specs.Component.{component, component_type}
use Rattle.types_rules.specs.Follows.{Follows}
use Rattle.types_rules.specs.Infinite.{eval}
use Rattle.types_rules.specs.Representative.{representative, component_by}
use Rattle.types_rules.specs.Trees.{Extent, finite, infinite, Tree, under_in, component_in}
use Rattle.types_rules.proofs.Component.{component_under}
use Rattle.types_rules.proofs.Infinite.{follows_inf, component_inf_lem}
use Rattle.types_rules.proofs.Representative.{follows_under, stands_follows, stands_none}
use Rattle.checker_rules.specs.Unknowns.{Valuation}
use Rattle.checker_rules.specs.Items.{Items, skip, ◌⨾◌, fresh, equations, equate, select, small, refusal, piece, Known, MeetsIn, Typings, Any, And, Passes}
use Rattle.checker_rules.specs.Solving.{join_pairs, with_component, equations_of}

-- P are the valuations of the extent w that solve E.
abbrev pub StandingIn : Extent → Typings → Pairs Term → Type 0
StandingIn w P E = (τ : ℕ → Tree w) → P w τ ↔ Solves (under_in w τ) E

abbrev pub Standing : Typings → Pairs Term → Type 0
Standing P E = (w : Extent) → StandingIn w P E

pub standing_start : Standing Any end
standing_start w τ = (λ h. tt, λ h. tt)

pub solves_join : (w : Extent) (τ : ℕ → Tree w) (P E : Pairs Term) → (Solves (under_in w τ) E × Solves (under_in w τ) P) ↔ Solves (under_in w τ) (join_pairs P E)
unfolding join_pairs
solves_join w τ end E = (λ h. h.0, λ h. (h, tt))
solves_join w τ (pair a b P) E =
    let r = solves_join w τ P E in
    (λ h. (h.1.0, r.0 (h.0, h.1.1)), λ h. let z = r.1 h.1 in (z.0, (h.0, z.1)))

-- What follows holds in both extents, and a component is a component.
follows_in : (w : Extent) (E : Pairs Term) (τ : ℕ → Tree w) → Solves (under_in w τ) E → (a b : Term) → Follows view_term E a b → under_in w τ a ≡ under_in w τ b
follows_in finite E τ s a b f = follows_under E τ s a b f
follows_in infinite E τ s a b f = follows_inf E τ s a b f

component_in_lem : (w : Extent) (τ : ℕ → Tree w) (i : ℕ) (t u : Term) → component i t ≡ some u → component_in w i (under_in w τ t) ≡ some (under_in w τ u)
component_in_lem finite τ i t u e = component_under τ i t u e
component_in_lem infinite τ i t u e = component_inf_lem τ i t u e

unknown_in : (w : Extent) (τ : ℕ → Tree w) (x : ℕ) → under_in w τ (unknown x) ≡ τ x
unfolding under eval
unknown_in finite τ x = refl
unknown_in infinite τ x = refl

some_inj : {A : Type 0} (a b : A) → some a ≡ some b → a ≡ b
some_inj a b q = cc

pub not_known : (o : Option Ty) → o ≡ nothing → Known o → ⊥
unfolding Known
not_known (some x) e k = let z : ◌≡◌ {A = ℕ} 0 1 = cc in omega arith
not_known nothing e k = k

-- A Select: its component's type is a part of what stands for its term.
module _ (E : Pairs Term) (i : ℕ) (a : Term) where
  pub component_type_lem : (w : Extent) (τ : ℕ → Tree w) (u : Term) → component_by E i a ≡ some u → Solves (under_in w τ) E → component_in w i (under_in w τ a) ≡ some (under_in w τ u)
  unfolding component_by
  component_type_lem w τ u e h = ap (component_in w i) (follows_in w E τ h a (representative E a) (stands_follows E a)) ∙ component_in_lem w τ i (representative E a) u e

  pub some_component : Solvable E → ((τ : Valuation) → Solves (under τ) E → Known (component_type i (under τ a))) → (u : Term) × (component_by E i a ≡ some u)
  unfolding component_by
  some_component s k = go (component_by E i a) refl
    where
      go : (o : Option Term) → component_by E i a ≡ o → (u : Term) × (component_by E i a ≡ some u)
      go (some u) e = (u, e)
      go nothing e = let z = stands_none E i a s e in absurd (not_known _ z.2 (k z.0 z.1))

  select_step : (w : Extent) (P : Typings) (n x : ℕ) → StandingIn w P E → (u : Term) → component_by E i a ≡ some u → StandingIn w (And P (select n i a x)) (pair (unknown x) u E)
  unfolding MeetsIn
  select_step w P n x s u e τ = (
    λ h. let z = (s τ).0 h.0 in (unknown_in w τ x ∙ some_inj _ _ (sym h.1 ∙ component_type_lem w τ u e z), z),
    λ h. ((s τ).1 h.1, component_type_lem w τ u e h.1 ∙ ap some (sym h.0 ∙ unknown_in w τ x)),
  )

  pub select_standing : (w : Extent) (P : Typings) (n x : ℕ) → StandingIn w P E → Solvable E → ((τ : Valuation) → Solves (under τ) E → Known (component_type i (under τ a)))
      → StandingIn w (And P (select n i a x)) (with_component (component_by E i a) x E)
  unfolding with_component
  select_standing w P n x s v k = let u = some_component v k in rw u.1 (select_step w P n x s u.0 u.1)

pub equations_standing : (w : Extent) (P : Typings) (E : Pairs Term) (n : ℕ) (es : Pairs Term) → StandingIn w P E → StandingIn w (And P (equations n es)) (join_pairs es E)
unfolding MeetsIn
equations_standing w P E n es s τ =
    let r = solves_join w τ es E in
    (λ h. r.0 ((s τ).0 h.0, h.1), λ h. let z = r.1 h in ((s τ).1 z.0, z.1))

pub equate_standing : (w : Extent) (P : Typings) (E : Pairs Term) (f n : ℕ) (a b : Term) → StandingIn w P E → StandingIn w (And P (equate f n a b)) (pair a b E)
unfolding MeetsIn
equate_standing w P E f n a b s τ = (λ h. (h.1, (s τ).0 h.0), λ h. ((s τ).1 h.1, h.0))

small_standing : (w : Extent) (P : Typings) (E : Pairs Term) (n : ℕ) (a : Term) → Passes (small n a) P → StandingIn w P E → StandingIn w (And P (small n a)) E
unfolding MeetsIn Passes
small_standing finite P E n a p s τ = (λ h. (s τ).0 h.0, λ h. let z = (s τ).1 h in (z, p τ z))
small_standing infinite P E n a p s τ = (λ h. (s τ).0 h.0, λ h. ((s τ).1 h, tt))

-- ITEMS THAT PASS leave equations that the same valuations meet.
pub standing_more : (t : Items) (P : Typings) (E : Pairs Term) → Passes t P → Standing P E → Standing (And P t) (equations_of t E)
unfolding Passes MeetsIn equations_of
standing_more skip P E p s = λ w τ. (λ h. (s w τ).0 h.0, λ h. ((s w τ).1 h, tt))
standing_more (a ⨾ b) P E p s =
    let r = standing_more b (And P a) (equations_of a E) p.1 (standing_more a P E p.0 s) in
    λ w τ. (λ h. (r w τ).0 ((h.0, h.1.0), h.1.1), λ h. let z = (r w τ).1 h in (z.0.0, (z.0.1, z.1)))
standing_more (fresh x) P E p s = λ w τ. (λ h. (s w τ).0 h.0, λ h. ((s w τ).1 h, tt))
standing_more (equations n es) P E p s = λ w. equations_standing w P E n es (s w)
standing_more (equate f n a b) P E p s = λ w. equate_standing w P E f n a b (s w)
standing_more (select n i a x) P E p s = λ w. select_standing E i a w P n x (s w) (p.1.0, (s finite p.1.0).0 p.1.1) (λ τ h. p.0 τ ((s finite τ).1 h))
standing_more (small n a) P E p s = λ w. small_standing w P E n a p (s w)
standing_more (refusal f n) P E p s = absurd p
standing_more (piece n t) P E p s = standing_more t P E p.0 s
