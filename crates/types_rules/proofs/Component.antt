-- Laws of components.
use Prim.Native.Nat.{ℕ}
use lib.Dec.{eqb}
use mathlib.Core.Bool.{Bool, true, false}
use mathlib.Core.List.{List, [], ◌∷◌}
use mathlib.Core.Option.{Option, some, none}
use mathlib.Core.Path.{◌≡◌, refl, ap, subst}
use native.Mathlib.Omega.{arith}
use Rattle.types_rules.specs.Former.{Former, identifiers}
use Rattle.types_rules.specs.Types.{Ty, Term, Terms, unknown, con, nil, cons, under, unders, Each, Eachs, integer_type}
use Rattle.types_rules.specs.Component.{pick, pick_type, component, component_type}

some_inj : (a b : Term) → some a ≡ some b → a ≡ b
some_inj a b q = cc

pick_c : (σ : ℕ → Ty) (c : ℕ) (t u : Term) (o : Option Term) (p : Option Ty) (b : Bool) → (o ≡ some u → p ≡ some (under σ u)) →
    (elim b as (λ x. Option Term) [ true ↦ some t | false ↦ o ]) ≡ some u → (elim b as (λ x. Option Ty) [ true ↦ some (under σ t) | false ↦ p ]) ≡ some (under σ u)
pick_c σ c t u o p true h e = ap (λ z. some (under σ z)) (some_inj t u e)
pick_c σ c t u o p false h e = h e

pick_some : (σ : ℕ → Ty) (c : ℕ) (is : List ℕ) (ts : Terms) (u : Term) → pick c is ts ≡ some u → pick_type c is (unders σ ts) ≡ some (under σ u)
unfolding pick pick_type under
pick_some σ c [] ts u e = let z : ◌≡◌ {A = ℕ} 0 1 = cc in absurd (omega arith)
pick_some σ c (i ∷ is) nil u e = let z : ◌≡◌ {A = ℕ} 0 1 = cc in absurd (omega arith)
pick_some σ c (i ∷ is) (cons t ts) u e = pick_c σ c t u (pick c is ts) (pick_type c is (unders σ ts)) (eqb i c) (pick_some σ c is ts u) e

pub component_under : (σ : ℕ → Ty) (c : ℕ) (t u : Term) → component c t ≡ some u → component_type c (under σ t) ≡ some (under σ u)
unfolding component component_type under
component_under σ c (unknown x) u e = let z : ◌≡◌ {A = ℕ} 0 1 = cc in absurd (omega arith)
component_under σ c (con h ts) u e = pick_some σ c (identifiers h) ts u e

pick_n : (t : Term) (g : Ty) (o : Option Term) (p : Option Ty) (b : Bool) → (o ≡ none → p ≡ none) →
    ◌≡◌ {A = Option Term} (elim b as (λ x. Option Term) [ true ↦ some t | false ↦ o ]) none → ◌≡◌ {A = Option Ty} (elim b as (λ x. Option Ty) [ true ↦ some g | false ↦ p ]) none
pick_n t g o p true h e = let z : ◌≡◌ {A = ℕ} 0 1 = cc in absurd (omega arith)
pick_n t g o p false h e = h e

pick_none : (σ : ℕ → Ty) (c : ℕ) (is : List ℕ) (ts : Terms) → pick c is ts ≡ none → pick_type c is (unders σ ts) ≡ none
unfolding pick pick_type under
pick_none σ c [] ts e = refl
pick_none σ c (i ∷ is) nil e = refl
pick_none σ c (i ∷ is) (cons t ts) e = pick_n t (under σ t) (pick c is ts) (pick_type c is (unders σ ts)) (eqb i c) (pick_none σ c is ts) e

pub component_former : (σ : ℕ → Ty) (c : ℕ) (h : Former) (ts : Terms) → component c (con h ts) ≡ none → component_type c (under σ (con h ts)) ≡ none
unfolding component component_type under
component_former σ c h ts e = pick_none σ c (identifiers h) ts e

-- Without the component in the term: none where each unknown is ℤ.
pub component_none : (c : ℕ) (t : Term) → component c t ≡ none → component_type c (under (λ y. integer_type) t) ≡ none
unfolding component component_type under pick_type identifiers
component_none c (unknown x) e = refl
component_none c (con h ts) e = pick_none (λ y. integer_type) c (identifiers h) ts e

each_c : (P : ℕ → Type 0) (t u : Term) (o : Option Term) (b : Bool) → Each P t → (o ≡ some u → Each P u) → (elim b as (λ x. Option Term) [ true ↦ some t | false ↦ o ]) ≡ some u → Each P u
each_c P t u o true h k e = subst (Each P) (some_inj t u e) h
each_c P t u o false h k e = k e

pick_each : (P : ℕ → Type 0) (c : ℕ) (is : List ℕ) (ts : Terms) (u : Term) → Eachs P ts → pick c is ts ≡ some u → Each P u
unfolding pick Each
pick_each P c [] ts u h e = let z : ◌≡◌ {A = ℕ} 0 1 = cc in absurd (omega arith)
pick_each P c (i ∷ is) nil u h e = let z : ◌≡◌ {A = ℕ} 0 1 = cc in absurd (omega arith)
pick_each P c (i ∷ is) (cons t ts) u h e = each_c P t u (pick c is ts) (eqb i c) h.0 (pick_each P c is ts u h.1) e

pub component_each : (P : ℕ → Type 0) (c : ℕ) (t u : Term) → Each P t → component c t ≡ some u → Each P u
unfolding component Each
component_each P c (unknown x) u h e = let z : ◌≡◌ {A = ℕ} 0 1 = cc in absurd (omega arith)
component_each P c (con k ts) u h e = pick_each P c (identifiers k) ts u h e
