-- Laws of formers, terms and assignments.
use Prim.Native.Nat.{◌≤◌, ℕ}
use borrow.Author.Tests.{eq-eqb, eqb-true}
use lib.Dec.{eqb}
use mathlib.Core.Bool.{Bool, false, true}
use mathlib.Core.List.{List, [], ◌∷◌}
use mathlib.Core.Path.{◌∙◌, ◌≡◌, ap, ap₂, refl, subst, sym}
use native.Mathlib.Omega.{arith}
use Rattle.types_rules.specs.Former.{Former, and, arg, binding, eqs, former_of, given, identifiers, int, parameter, power, product, same_former, tag}
use Rattle.types_rules.specs.Substitution.{occurs, occurs_any, or, replace, replaces, update}
use Rattle.types_rules.specs.Types.{Each, Eachs, Term, Terms, Ty, con, cons, nil, node, size, sizes, tcons, under, unders, unknown}

pub and_l : (a b : Bool) → and a b ≡ true → a ≡ true
unfolding and
and_l true b e = refl
and_l false b e = e

pub and_r : (a b : Bool) → and a b ≡ true → b ≡ true
unfolding and
and_r true b e = e
and_r false b e = let z : ◌≡◌ {A = ℕ} 0 1 = cc in absurd (omega arith)

pub and_i : (a b : Bool) → a ≡ true → b ≡ true → and a b ≡ true
unfolding and
and_i true b e f = f
and_i false b e f = e

pub bool_no : (b : Bool) → b ≡ true → b ≡ false → ⊥
bool_no b e f = let z : ◌≡◌ {A = ℕ} 0 1 = cc in omega arith

eqs_true : (xs ys : List ℕ) → eqs xs ys ≡ true → xs ≡ ys
unfolding eqs
eqs_true [] [] e = refl
eqs_true [] (y ∷ ys) e = absurd (bool_no false e refl)
eqs_true (x ∷ xs) [] e = absurd (bool_no false e refl)
eqs_true (x ∷ xs) (y ∷ ys) e = ap₂ ◌∷◌ (eqb-true x y (and_l (eqb x y) (eqs xs ys) e)) (eqs_true xs ys (and_r (eqb x y) (eqs xs ys) e))

eqs_refl : (xs : List ℕ) → eqs xs xs ≡ true
unfolding eqs
eqs_refl [] = refl
eqs_refl (x ∷ xs) = and_i (eqb x x) (eqs xs xs) (eq-eqb x x refl) (eqs_refl xs)

former_of_lem : (h : Former) → former_of (tag h) (arg h) (identifiers h) ≡ h
unfolding former_of tag arg identifiers
former_of_lem int = refl
former_of_lem (given g) = refl
former_of_lem (parameter i) = refl
former_of_lem power = refl
former_of_lem product = refl
former_of_lem (binding l) = refl

pub same_true : (h k : Former) → same_former h k ≡ true → h ≡ k
unfolding same_former
same_true h k e =
    let t = eqb-true _ _ (and_l _ (and (eqb (arg h) (arg k)) (eqs (identifiers h) (identifiers k))) e) in
    let r = and_r (eqb (tag h) (tag k)) _ e in
    let a = eqb-true _ _ (and_l (eqb (arg h) (arg k)) (eqs (identifiers h) (identifiers k)) r) in
    let l = eqs_true _ _ (and_r (eqb (arg h) (arg k)) (eqs (identifiers h) (identifiers k)) r) in
    sym (former_of_lem h) ∙ (λ i. former_of (t i) (a i) (l i)) ∙ former_of_lem k

pub former_refl : (h : Former) → same_former h h ≡ true
unfolding same_former
former_refl h = and_i _ _ (eq-eqb (tag h) (tag h) refl) (and_i _ _ (eq-eqb (arg h) (arg h) refl) (eqs_refl (identifiers h)))

pub same_false : (h k : Former) → same_former h k ≡ false → h ≡ k → ⊥
same_false h k e q = bool_no (same_former h k) (subst (λ z. same_former h z ≡ true) q (former_refl h)) e

pub update_same : (τ : ℕ → Ty) (x : ℕ) (g : Ty) → update τ x g x ≡ g
unfolding update
update_same τ x g = rw (eq-eqb x x refl, update)

pub update_other : (τ : ℕ → Ty) (x : ℕ) (g : Ty) (y : ℕ) → eqb y x ≡ false → update τ x g y ≡ τ y
unfolding update
update_other τ x g y e = rw (e, update)

pub or_l : (a b : Bool) → or a b ≡ false → a ≡ false
unfolding or
or_l true b e = e
or_l false b e = refl

pub or_r : (a b : Bool) → or a b ≡ false → b ≡ false
unfolding or
or_r true b e = let z : ◌≡◌ {A = ℕ} 0 1 = cc in absurd (omega arith)
or_r false b e = e

-- If σ makes x and u equal, then putting u for x changes nothing.
replace_eq_var : (σ : ℕ → Ty) (x : ℕ) (u : Term) → σ x ≡ under σ u → (y : ℕ) (b : Bool) → eqb y x ≡ b → under σ (elim b [ true ↦ u | false ↦ unknown y ]) ≡ σ y
unfolding under
replace_eq_var σ x u e y true q = sym e ∙ ap σ (sym (eqb-true y x q))
replace_eq_var σ x u e y false q = refl

mutual
  unfolding under replace

  pub replace_eq : (σ : ℕ → Ty) (x : ℕ) (u : Term) → σ x ≡ under σ u → (t : Term) → under σ (replace x u t) ≡ under σ t
  replace_eq σ x u e (unknown y) = replace_eq_var σ x u e y (eqb y x) refl
  replace_eq σ x u e (con h ts) = ap (node h) (replaces_eq σ x u e ts)

  pub replaces_eq : (σ : ℕ → Ty) (x : ℕ) (u : Term) → σ x ≡ under σ u → (ts : Terms) → unders σ (replaces x u ts) ≡ unders σ ts
  replaces_eq σ x u e nil = refl
  replaces_eq σ x u e (cons t ts) = ap₂ tcons (replace_eq σ x u e t) (replaces_eq σ x u e ts)

mutual
  unfolding Each

  pub each_map : (P Q : ℕ → Type 0) → ((y : ℕ) → P y → Q y) → (t : Term) → Each P t → Each Q t
  each_map P Q f (unknown y) e = f y e
  each_map P Q f (con h ts) e = eachs_map P Q f ts e

  pub eachs_map : (P Q : ℕ → Type 0) → ((y : ℕ) → P y → Q y) → (ts : Terms) → Eachs P ts → Eachs Q ts
  eachs_map P Q f nil e = tt
  eachs_map P Q f (cons t ts) e = (each_map P Q f t e.0, eachs_map P Q f ts e.1)

mutual
  unfolding Each

  pub each_both : (P Q : ℕ → Type 0) → (t : Term) → Each P t → Each Q t → Each (λ y. P y × Q y) t
  each_both P Q (unknown y) e f = (e, f)
  each_both P Q (con h ts) e f = eachs_both P Q ts e f

  pub eachs_both : (P Q : ℕ → Type 0) → (ts : Terms) → Eachs P ts → Eachs Q ts → Eachs (λ y. P y × Q y) ts
  eachs_both P Q nil e f = tt
  eachs_both P Q (cons t ts) e f = (each_both P Q t e.0 f.0, eachs_both P Q ts e.1 f.1)

-- x does not stand in t.
mutual
  unfolding Each occurs

  pub occurs_no : (x : ℕ) (t : Term) → occurs x t ≡ false → Each (λ y. eqb y x ≡ false) t
  occurs_no x (unknown y) e = e
  occurs_no x (con h ts) e = occurs_any_no x ts e

  pub occurs_any_no : (x : ℕ) (ts : Terms) → occurs_any x ts ≡ false → Eachs (λ y. eqb y x ≡ false) ts
  occurs_any_no x nil e = tt
  occurs_any_no x (cons t ts) e = (occurs_no x t (or_l (occurs x t) (occurs_any x ts) e), occurs_any_no x ts (or_r (occurs x t) (occurs_any x ts) e))

-- Two maps that agree on the unknowns of t.
mutual
  unfolding Each under

  pub under_ext : (σ τ : ℕ → Ty) (t : Term) → Each (λ y. σ y ≡ τ y) t → under σ t ≡ under τ t
  under_ext σ τ (unknown y) e = e
  under_ext σ τ (con h ts) e = ap (node h) (unders_ext σ τ ts e)

  pub unders_ext : (σ τ : ℕ → Ty) (ts : Terms) → Eachs (λ y. σ y ≡ τ y) ts → unders σ ts ≡ unders τ ts
  unders_ext σ τ nil e = refl
  unders_ext σ τ (cons t ts) e = ap₂ tcons (under_ext σ τ t e.0) (unders_ext σ τ ts e.1)

-- The unknowns of put x u t are those of u, and those of t but x.
each_put_var : (P : ℕ → Type 0) (x : ℕ) (u : Term) → Each P u → (y : ℕ) (b : Bool) → (b ≡ false → P y) → Each P (elim b [ true ↦ u | false ↦ unknown y ])
unfolding Each
each_put_var P x u e y true q = e
each_put_var P x u e y false q = q refl

mutual
  unfolding Each replace

  pub each_put : (P : ℕ → Type 0) (x : ℕ) (u : Term) → Each P u → (t : Term) → Each (λ y. eqb y x ≡ false → P y) t → Each P (replace x u t)
  each_put P x u e (unknown y) f = each_put_var P x u e y (eqb y x) f
  each_put P x u e (con h ts) f = eachs_put P x u e ts f

  pub eachs_put : (P : ℕ → Type 0) (x : ℕ) (u : Term) → Each P u → (ts : Terms) → Eachs (λ y. eqb y x ≡ false → P y) ts → Eachs P (replaces x u ts)
  eachs_put P x u e nil f = tt
  eachs_put P x u e (cons t ts) f = (each_put P x u e t f.0, eachs_put P x u e ts f.1)

pub or_split : (a b : Bool) → or a b ≡ true → (C : Type 0) → (a ≡ true → C) → (b ≡ true → C) → C
unfolding or
or_split true b e C f g = f refl
or_split false b e C f g = g e

mutual
  unfolding occurs under size

  pub occurs_size : (σ : ℕ → Ty) (x : ℕ) (t : Term) → occurs x t ≡ true → size (σ x) ≤ size (under σ t)
  occurs_size σ x (unknown y) e = omega (arith, ap (λ z. size (σ z)) (eqb-true y x e))
  occurs_size σ x (con h ts) e = omega (arith, occurs_any_size σ x ts e)

  pub occurs_any_size : (σ : ℕ → Ty) (x : ℕ) (ts : Terms) → occurs_any x ts ≡ true → size (σ x) ≤ sizes (unders σ ts)
  occurs_any_size σ x nil e = let z : ◌≡◌ {A = ℕ} 0 1 = cc in absurd (omega arith)
  occurs_any_size σ x (cons t ts) e =
      or_split (occurs x t) (occurs_any x ts) e (size (σ x) ≤ sizes (unders σ (cons t ts)))
      (λ q. omega (arith, occurs_size σ x t q))
      (λ q. omega (arith, occurs_any_size σ x ts q))

-- The occurs check: no finite type contains itself.
pub no_self : (σ : ℕ → Ty) (x : ℕ) (h : Former) (ts : Terms) → occurs x (con h ts) ≡ true → σ x ≡ under σ (con h ts) → ⊥
unfolding under occurs size
no_self σ x h ts e q = omega (arith, occurs_any_size σ x ts e, ap size q)
