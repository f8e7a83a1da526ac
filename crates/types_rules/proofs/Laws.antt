-- THE UNIFIER'S LAWS, as the checker and the solver use them. A state `State N vs s` has the unknowns N, of which vs are left open by the substitution s.
use Prim.Native.Nat.{ℕ}
use mathlib.Core.Bool.{Bool, true, false}
use mathlib.Core.List.{List}
use mathlib.Core.Logic.{◌↔◌, ◌⊎◌, inl, inr}
use mathlib.Core.Path.{◌≡◌, refl, subst}
use Rattle.types_rules.specs.Types.{Ty, Term, under, Each, integer_type}
use Rattle.types_rules.specs.Substitution.{Substitution, Respects, resolve, ground, sol, State}
use Rattle.types_rules.specs.Unify.{Outcome, ok, clash, cycle, stuck, unify, Spec, Good}
use Rattle.types_rules.specs.Component.{has, has_type}
use Rattle.types_rules.proofs.Terms.{bool_no}
use Rattle.types_rules.proofs.Solutions.{unify_spec}
use Rattle.types_rules.proofs.States.{unify_state, sol_sat, unique, several, select_yes, select_no}

-- The solutions of a state, and those that also solve a = b.
abbrev pub Both : Substitution → Term → Term → (ℕ → Ty) → Type 0
Both s a b σ = Respects σ s × (under σ a ≡ under σ b)

-- It keeps exactly the solutions.
pub kept : (vs : List ℕ) (s : Substitution) (a b : Term) (vs' : List ℕ) (s' : Substitution) → unify vs s a b ≡ ok vs' s' → (σ : ℕ → Ty) → Respects σ s' ↔ Both s a b σ
kept vs s a b vs' s' e σ = subst (λ r. Spec σ r (Both s a b σ)) e (unify_spec σ vs s a b)

abbrev pub Failed : Outcome → Type 0
Failed r = (r ≡ clash) ⊎ (r ≡ cycle)

-- It fails exactly where there is none.
pub failed : (N : ℕ → Type 0) (vs : List ℕ) (s : Substitution) (a b : Term) → State N vs s → Each N a → Each N b → Failed (unify vs s a b) ↔ ((σ : ℕ → Ty) → Both s a b σ → ⊥)
failed N vs s a b h ea eb = (λ f σ. to f σ, λ f. from (unify vs s a b) refl (unify_state N vs s a b h ea eb) f)
  where
    to : Failed (unify vs s a b) → (σ : ℕ → Ty) → Both s a b σ → ⊥
    to (inl e) σ = subst (λ r. Spec σ r (Both s a b σ)) e (unify_spec σ vs s a b)
    to (inr e) σ = subst (λ r. Spec σ r (Both s a b σ)) e (unify_spec σ vs s a b)

    from : (r : Outcome) → unify vs s a b ≡ r → Good N r → ((σ : ℕ → Ty) → Both s a b σ → ⊥) → Failed r
    from (ok vs' s') e g f = let τ : ℕ → Ty = sol (λ y. integer_type) s' in absurd (f τ ((kept vs s a b vs' s' e τ).0 (sol_sat N vs' s' g (λ y. integer_type))))
    from clash e g f = inl refl
    from cycle e g f = inr refl
    from stuck e g f = absurd g

-- Two solutions that give t different types.
pub record Several (s : Substitution) (t : Term) : Type 0 where
  pub σ : ℕ → Ty
  pub τ : ℕ → Ty
  pub one : Respects σ s
  pub other : Respects τ s
  pub differ : under σ t ≡ under τ t → ⊥

-- A term has several types exactly where its resolved term has an unknown left open.
pub open_several : (N : ℕ → Type 0) (vs : List ℕ) (s : Substitution) (t : Term) → State N vs s → Each N t → (ground (resolve s t) ≡ false) ↔ Several s t
open_several N vs s t h e = (λ g. let w = several N vs s t h e g in record { σ = w.0; τ = w.1; one = w.2; other = w.3; differ = w.4 }, λ w. back (ground (resolve s t)) refl w)
  where
    back : (b : Bool) → ground (resolve s t) ≡ b → Several s t → b ≡ false
    back true q w = absurd (w.differ (unique s t q w.σ w.τ w.one w.other))
    back false q w = refl

-- Every solution gives t a binding with the component c exactly where the resolved term is one.
pub every_component : (N : ℕ → Type 0) (vs : List ℕ) (s : Substitution) (t : Term) (c : ℕ) → State N vs s → Each N t →
    (has c (resolve s t) ≡ true) ↔ ((σ : ℕ → Ty) → Respects σ s → has_type c (under σ t) ≡ true)
every_component N vs s t c h e = (λ q σ p. select_yes s t c q σ p, λ f. back (has c (resolve s t)) refl f)
  where
    back : (b : Bool) → has c (resolve s t) ≡ b → ((σ : ℕ → Ty) → Respects σ s → has_type c (under σ t) ≡ true) → b ≡ true
    back true q f = refl
    back false q f = let w = select_no N vs s t c h e q in absurd (bool_no (has_type c (under w.0 t)) (f w.0 w.1) w.2)
