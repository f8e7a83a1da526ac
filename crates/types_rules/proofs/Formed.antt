-- Unification keeps well-formed terms; the type of a component.
use Prim.Native.Nat.{suc, zero, ℕ}
use lib.Dec.{eqb}
use lib.ListN.{length}
use mathlib.Core.Bool.{Bool, false, true}
use mathlib.Core.List.{List}
use mathlib.Core.Option.{Option, none, some}
use mathlib.Core.Path.{◌≡◌, ap, refl, subst, sym}
use native.Mathlib.Omega.{arith}
use Rattle.types_rules.proofs.Terms.{same_true}
use Rattle.types_rules.specs.Equations.{Pairs, end, pair}
use Rattle.types_rules.specs.Formed.{Formed, FormedType, FormedTypes, Formeds, part_count, part_count_type}
use Rattle.types_rules.specs.Former.{Former, same_former}
use Rattle.types_rules.specs.Substitution.{Substitution, bind, empty, occurs, replace, replaces, resolve, sol, update, without}
use Rattle.types_rules.specs.Types.{Term, Terms, Ty, con, cons, nil, under, unders, unknown}
use Rattle.types_rules.specs.Unify.{Next, Outcome, clash, cycle, flex, is_unknown, ok, replace_all, rigid, stuck, unify, unify_level, unify_levels, unify_step, weight, zip_terms}

-- One induction for invariants of the solving (the bound on steps apart).
pub record KeepsUnify (I : List ℕ → Substitution → Pairs Term → Type 0) (Q : Outcome → Type 0) : Type 0 where
  pub fin : (vs : List ℕ) (s : Substitution) → I vs s end → Q (ok vs s)
  pub skip : (vs : List ℕ) (s : Substitution) (a b : Term) (es : Pairs Term) → I vs s (pair a b es) → I vs s es
  pub left : (vs : List ℕ) (s : Substitution) (x : ℕ) (b : Term) (es : Pairs Term) → I vs s (pair (unknown x) b es) → occurs x b ≡ false → I (without x vs) (bind x b s) (replace_all x b es)
  pub right : (vs : List ℕ) (s : Substitution) (a : Term) (y : ℕ) (es : Pairs Term) → I vs s (pair a (unknown y) es) → occurs y a ≡ false → I (without y vs) (bind y a s) (replace_all y a es)
  pub part : (vs : List ℕ) (s : Substitution) (h : Former) (ts us : Terms) (es es' : Pairs Term) → I vs s (pair (con h ts) (con h us) es) → zip_terms ts us es ≡ some es' → I vs s es'
  pub no_1 : Q clash
  pub no_2 : Q cycle
  pub no_3 : Q stuck

module _ (I : List ℕ → Substitution → Pairs Term → Type 0) (Q : Outcome → Type 0) (K : KeepsUnify I Q) where
  module _ (nx : Next) (hx : (vs : List ℕ) (s : Substitution) (es : Pairs Term) → I vs s es → Q (nx vs s es)) (go : Pairs Term → Outcome) (vs : List ℕ) (s : Substitution)
      (hg : (es : Pairs Term) → I vs s es → Q (go es)) where
    flex_run : (c o : Bool) (x : ℕ) (b : Term) (es : Pairs Term) → I vs s es → (o ≡ false → I (without x vs) (bind x b s) (replace_all x b es)) → Q (flex c o nx go vs s x b es)
    unfolding flex
    flex_run true o x b es i j = hg es i
    flex_run false true x b es i j = K.no_2
    flex_run false false x b es i j = hx _ _ _ (j refl)

    rigid_run : (h k : Former) (ts us : Terms) (es : Pairs Term) → I vs s (pair (con h ts) (con k us) es) → (d : Bool) → same_former h k ≡ d → (o : Option (Pairs Term)) → zip_terms ts us es ≡ o → Q (rigid d o go)
    unfolding rigid
    rigid_run h k ts us es i true e (some es') z = hg es' (K.part vs s h ts us es es' (subst (λ l. I vs s (pair (con h ts) (con l us) es)) (sym (same_true h k e)) i) z)
    rigid_run h k ts us es i true e none z = K.no_1
    rigid_run h k ts us es i false e o z = K.no_1

    step_run : (a b : Term) (es : Pairs Term) → I vs s (pair a b es) → Q (unify_step nx go vs s a b es)
    unfolding unify_step
    step_run (unknown x) b es i = flex_run (is_unknown x b) (occurs x b) x b es (K.skip vs s (unknown x) b es i) (λ o. K.left vs s x b es i o)
    step_run (con h ts) (unknown y) es i = flex_run false (occurs y (con h ts)) y (con h ts) es (K.skip vs s _ _ es i) (λ o. K.right vs s (con h ts) y es i o)
    step_run (con h ts) (con k us) es i = rigid_run h k ts us es i (same_former h k) refl (zip_terms ts us es) refl

  inner_run : (nx : Next) → ((vs : List ℕ) (s : Substitution) (es : Pairs Term) → I vs s es → Q (nx vs s es)) → (n : ℕ) (vs : List ℕ) (s : Substitution) (es : Pairs Term) → I vs s es → Q (unify_level nx n vs s es)
  unfolding unify_level
  inner_run nx hx zero vs s es i = K.no_3
  inner_run nx hx (suc n) vs s end i = K.fin vs s i
  inner_run nx hx (suc n) vs s (pair a b es) i = step_run nx hx (λ es'. unify_level nx n vs s es') vs s (λ es' i'. inner_run nx hx n vs s es' i') a b es i

  pub unify_run : (k : ℕ) (vs : List ℕ) (s : Substitution) (es : Pairs Term) → I vs s es → Q (unify_levels k vs s es)
  unfolding unify_levels
  unify_run zero vs s es i = inner_run _ (λ vs' s' es' i'. K.no_3) (weight es) vs s es i
  unify_run (suc k) vs s es i = inner_run _ (λ vs' s' es' i'. unify_run k vs' s' es' i') (weight es) vs s es i

replaces_len : (x : ℕ) (u : Term) (ts : Terms) → part_count (replaces x u ts) ≡ part_count ts
unfolding replace
replaces_len x u nil = refl
replaces_len x u (cons t ts) = ap suc (replaces_len x u ts)

unders_len : (σ : ℕ → Ty) (ts : Terms) → part_count_type (unders σ ts) ≡ part_count ts
unfolding under
unders_len σ nil = refl
unders_len σ (cons t ts) = ap suc (unders_len σ ts)

module _ (R : Former → ℕ → Type 0) where
  mutual
    unfolding Formed FormedType under

    pub under_fit : (σ : ℕ → Ty) → ((x : ℕ) → FormedType R (σ x)) → (t : Term) → Formed R t → FormedType R (under σ t)
    under_fit σ h (unknown x) f = h x
    under_fit σ h (con k ts) f = (subst (R k) (sym (unders_len σ ts)) f.0, unders_fit σ h ts f.1)

    pub unders_fit : (σ : ℕ → Ty) → ((x : ℕ) → FormedType R (σ x)) → (ts : Terms) → Formeds R ts → FormedTypes R (unders σ ts)
    unders_fit σ h nil f = tt
    unders_fit σ h (cons t ts) f = (under_fit σ h t f.0, unders_fit σ h ts f.1)

  replace_var : (u : Term) → Formed R u → (y : ℕ) (b : Bool) → Formed R (elim b as (λ x. Term) [ true ↦ u | false ↦ unknown y ])
  unfolding Formed
  replace_var u f y true = f
  replace_var u f y false = tt

  mutual
    unfolding Formed replace

    replace_fit : (x : ℕ) (u : Term) → Formed R u → (t : Term) → Formed R t → Formed R (replace x u t)
    replace_fit x u f (unknown y) g = replace_var u f y (eqb y x)
    replace_fit x u f (con k ts) g = (subst (R k) (sym (replaces_len x u ts)) g.0, replaces_fit x u f ts g.1)

    replaces_fit : (x : ℕ) (u : Term) → Formed R u → (ts : Terms) → Formeds R ts → Formeds R (replaces x u ts)
    replaces_fit x u f nil g = tt
    replaces_fit x u f (cons t ts) g = (replace_fit x u f t g.0, replaces_fit x u f ts g.1)

  abbrev pub FitE : Pairs Term → Type 0
  FitE end = Unit {0}
  FitE (pair a b es) = Formed R a × Formed R b × FitE es

  abbrev pub FitS : Substitution → Type 0
  FitS empty = Unit {0}
  FitS (bind x t s) = Formed R t × FitS s

  abbrev pub FitR : Outcome → Type 0
  FitR (ok vs s) = FitS s
  FitR clash = Unit {0}
  FitR cycle = Unit {0}
  FitR stuck = Unit {0}

  replace_all_fit : (x : ℕ) (u : Term) → Formed R u → (es : Pairs Term) → FitE es → FitE (replace_all x u es)
  unfolding replace_all
  replace_all_fit x u f end g = tt
  replace_all_fit x u f (pair a b es) g = (replace_fit x u f a g.0, replace_fit x u f b g.1, replace_all_fit x u f es g.2)

  zip_fit : (ts us : Terms) (es es' : Pairs Term) → zip_terms ts us es ≡ some es' → Formeds R ts → Formeds R us → FitE es → FitE es'
  unfolding zip_terms Formed
  zip_fit nil nil es es' e f g h = let p : es ≡ es' = cc in subst FitE p h
  zip_fit nil (cons u us) es es' e f g h = let z : ◌≡◌ {A = ℕ} 0 1 = cc in absurd (omega arith)
  zip_fit (cons t ts) nil es es' e f g h = let z : ◌≡◌ {A = ℕ} 0 1 = cc in absurd (omega arith)
  zip_fit (cons t ts) (cons u us) es es' e f g h = zip_fit ts us (pair t u es) es' e f.1 g.1 (f.0, g.0, h)

  fit_keeps : KeepsUnify (λ vs s es. FitS s × FitE es) FitR
  unfolding Formed
  fit_keeps = record {
    fin = λ vs s i. i.0;
    skip = λ vs s a b es i. (i.0, i.1.2);
    left = λ vs s x b es i o. ((i.1.1, i.0), replace_all_fit x b i.1.1 es i.1.2);
    right = λ vs s a y es i o. ((i.1.0, i.0), replace_all_fit y a i.1.0 es i.1.2);
    part = λ vs s h ts us es es' i z. (i.0, zip_fit ts us es es' z i.1.0.1 i.1.1.1 i.1.2);
    no_1 = tt;
    no_2 = tt;
    no_3 = tt;
  }

  pub resolve_fit : (s : Substitution) → FitS s → (t : Term) → Formed R t → Formed R (resolve s t)
  unfolding resolve
  resolve_fit empty f t g = g
  resolve_fit (bind x u s) f t g = replace_fit x u f.0 (resolve s t) (resolve_fit s f.1 t g)

  pub unify_fit : (vs : List ℕ) (s : Substitution) (a b : Term) → FitS s → Formed R a → Formed R b → FitR (unify vs s a b)
  unfolding unify
  unify_fit vs s a b f fa fb = unify_run _ FitR fit_keeps (length vs) vs s _ (f, (resolve_fit s f a fa, resolve_fit s f b fb, tt))

  update_fit : (τ : ℕ → Ty) (x : ℕ) (g : Ty) → ((y : ℕ) → FormedType R (τ y)) → FormedType R g → (y : ℕ) → FormedType R (update τ x g y)
  unfolding update
  update_fit τ x g h f y = go (eqb y x)
    where
      go : (b : Bool) → FormedType R (elim b as (λ c. Ty) [ true ↦ g | false ↦ τ y ])
      go true = f
      go false = h y

  -- A state of well-formed bindings has a well-formed solution, with any well-formed types at the free unknowns.
  pub sol_fit : (s : Substitution) → FitS s → (τ : ℕ → Ty) → ((x : ℕ) → FormedType R (τ x)) → (x : ℕ) → FormedType R (sol τ s x)
  unfolding sol
  sol_fit empty f τ h x = h x
  sol_fit (bind y t s) f τ h x = sol_fit s f.1 (update τ y (under τ t)) (update_fit τ y (under τ t) h (under_fit τ h t f.0)) x
