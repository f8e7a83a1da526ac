-- The unifier keeps exactly the solutions, and fails only where there is none.
use Prim.Native.Nat.{suc, zero, ℕ}
use borrow.Author.Tests.{eqb-true}
use lib.ListN.{length}
use mathlib.Core.Bool.{Bool, false, true}
use mathlib.Core.List.{List}
use mathlib.Core.Option.{Option, none, some}
use mathlib.Core.Path.{◌∙◌, ◌≡◌, ap, ap₂, refl, sym}
use native.Mathlib.Omega.{arith}
use Rattle.types_rules.proofs.Terms.{no_self, replace_eq, same_false, same_true}
use Rattle.types_rules.specs.Equations.{Pairs, Solves, end, pair}
use Rattle.types_rules.specs.Former.{Former, same_former}
use Rattle.types_rules.specs.Substitution.{Respects, Substitution, bind, empty, occurs, resolve, without}
use Rattle.types_rules.specs.Types.{Term, Terms, Ty, Tys, con, cons, nil, node, tcons, under, unders, unknown}
use Rattle.types_rules.specs.Unify.{Next, Outcome, Spec, clash, cycle, flex, is_unknown, ok, replace_all, rigid, stuck, unify, unify_level, unify_levels, unify_step, weight, zip_terms}

pub spec_iff : (σ : ℕ → Ty) (r : Outcome) (A B : Type 0) → (A → B) → (B → A) → Spec σ r A → Spec σ r B
spec_iff σ (ok vs s) A B f g h = (λ q. f (h.0 q), λ q. h.1 (g q))
spec_iff σ clash A B f g h = λ q. h (g q)
spec_iff σ cycle A B f g h = λ q. h (g q)
spec_iff σ stuck A B f g h = tt

replace_all_sat : (σ : ℕ → Ty) (x : ℕ) (u : Term) → σ x ≡ under σ u → (es : Pairs Term) → (Solves (under σ) (replace_all x u es) → Solves (under σ) es) × (Solves (under σ) es → Solves (under σ) (replace_all x u es))
unfolding replace_all
replace_all_sat σ x u e end = (λ q. q, λ q. q)
replace_all_sat σ x u e (pair a b es) = (
  λ q. (sym (replace_eq σ x u e a) ∙ q.0 ∙ replace_eq σ x u e b, (replace_all_sat σ x u e es).0 q.1),
  λ q. (replace_eq σ x u e a ∙ q.0 ∙ sym (replace_eq σ x u e b), (replace_all_sat σ x u e es).1 q.1),
)

pub tcons_0 : (a b : Ty) (c d : Tys) → tcons a c ≡ tcons b d → a ≡ b
tcons_0 a b c d q = cc

pub tcons_1 : (a b : Ty) (c d : Tys) → tcons a c ≡ tcons b d → c ≡ d
tcons_1 a b c d q = cc

pub node_0 : (h k : Former) (a b : Tys) → node h a ≡ node k b → h ≡ k
node_0 h k a b q = cc

pub node_1 : (h k : Former) (a b : Tys) → node h a ≡ node k b → a ≡ b
node_1 h k a b q = cc

-- What zip gives says that the two lists are equal under σ.
ZipTerms : (ℕ → Ty) → Terms → Terms → Pairs Term → Option (Pairs Term) → Type 0
ZipTerms σ ts us es none = unders σ ts ≡ unders σ us → ⊥
ZipTerms σ ts us es (some es') = (Solves (under σ) es' → (unders σ ts ≡ unders σ us) × Solves (under σ) es) × ((unders σ ts ≡ unders σ us) × Solves (under σ) es → Solves (under σ) es')

zip_terms_cons : (σ : ℕ → Ty) (a b : Term) (ts us : Terms) (es : Pairs Term) (o : Option (Pairs Term)) → ZipTerms σ ts us (pair a b es) o → ZipTerms σ (cons a ts) (cons b us) es o
unfolding ZipTerms under
zip_terms_cons σ a b ts us es none h = λ q. h (tcons_1 _ _ _ _ q)
zip_terms_cons σ a b ts us es (some es') h = (
  λ q. (ap₂ tcons (h.0 q).1.0 (h.0 q).0, (h.0 q).1.1),
  λ q. h.1 (tcons_1 _ _ _ _ q.0, (tcons_0 _ _ _ _ q.0, q.1)),
)

zip_terms_lem : (σ : ℕ → Ty) (ts us : Terms) (es : Pairs Term) → ZipTerms σ ts us es (zip_terms ts us es)
unfolding ZipTerms zip_terms under
zip_terms_lem σ nil nil es = (λ q. (refl, q), λ q. q.1)
zip_terms_lem σ nil (cons b us) es = λ q. let z : ◌≡◌ {A = ℕ} 0 1 = cc in omega arith
zip_terms_lem σ (cons a ts) nil es = λ q. let z : ◌≡◌ {A = ℕ} 0 1 = cc in omega arith
zip_terms_lem σ (cons a ts) (cons b us) es = zip_terms_cons σ a b ts us es (zip_terms ts us (pair a b es)) (zip_terms_lem σ ts us (pair a b es))

module _ (σ : ℕ → Ty) (nx : Next) (hx : (vs : List ℕ) (s : Substitution) (es : Pairs Term) → Spec σ (nx vs s es) (Respects σ s × Solves (under σ) es))
    (go : Pairs Term → Outcome) (s : Substitution) (hg : (es : Pairs Term) → Spec σ (go es) (Respects σ s × Solves (under σ) es)) where
  flex_spec : (c o : Bool) (vs : List ℕ) (x : ℕ) (b : Term) (es : Pairs Term) → (c ≡ true → under σ b ≡ σ x) → (o ≡ true → c ≡ false → σ x ≡ under σ b → ⊥) →
      Spec σ (flex c o nx go vs s x b es) (Respects σ s × ((σ x ≡ under σ b) × Solves (under σ) es))
  unfolding flex
  flex_spec true o vs x b es h k = spec_iff σ (go es) _ _ (λ q. (q.0, (sym (h refl), q.1))) (λ q. (q.0, q.1.1)) (hg es)
  flex_spec false true vs x b es h k = λ q. k refl refl q.1.0
  flex_spec false false vs x b es h k =
      spec_iff σ (nx (without x vs) (bind x b s) (replace_all x b es)) _ _
      (λ q. (q.0.1, (q.0.0, (replace_all_sat σ x b q.0.0 es).0 q.1)))
      (λ q. ((q.1.0, q.0), (replace_all_sat σ x b q.1.0 es).1 q.1.1))
      (hx (without x vs) (bind x b s) (replace_all x b es))

  rigid_spec : (h k : Former) (d : Bool) → same_former h k ≡ d → (ts us : Terms) (es : Pairs Term) (o : Option (Pairs Term)) → ZipTerms σ ts us es o →
      Spec σ (rigid d o go) (Respects σ s × ((node h (unders σ ts) ≡ node k (unders σ us)) × Solves (under σ) es))
  unfolding rigid ZipTerms
  rigid_spec h k true e ts us es (some es') z =
      spec_iff σ (go es') _ _
      (λ q. (q.0, (ap₂ node (same_true h k e) (z.0 q.1).0, (z.0 q.1).1)))
      (λ q. (q.0, z.1 (node_1 _ _ _ _ q.1.0, q.1.1)))
      (hg es')
  rigid_spec h k true e ts us es none z = λ q. z (node_1 _ _ _ _ q.1.0)
  rigid_spec h k false e ts us es o z = λ q. same_false h k e (node_0 _ _ _ _ q.1.0)

  var_true : (x : ℕ) (b : Term) → is_unknown x b ≡ true → under σ b ≡ σ x
  unfolding is_unknown under
  var_true x (unknown y) e = ap σ (eqb-true y x e)
  var_true x (con h ts) e = let z : ◌≡◌ {A = ℕ} 0 1 = cc in absurd (omega arith)

  var_false : (x : ℕ) (b : Term) → occurs x b ≡ true → is_unknown x b ≡ false → σ x ≡ under σ b → ⊥
  unfolding is_unknown under occurs
  var_false x (unknown y) e f q = let z : ◌≡◌ {A = ℕ} 0 1 = cc in omega arith
  var_false x (con h ts) e f q = no_self σ x h ts e q

  step_spec : (vs : List ℕ) (a b : Term) (es : Pairs Term) → Spec σ (unify_step nx go vs s a b es) (Respects σ s × Solves (under σ) (pair a b es))
  unfolding unify_step under
  step_spec vs (unknown x) b es = flex_spec (is_unknown x b) (occurs x b) vs x b es (var_true x b) (var_false x b)
  step_spec vs (con h ts) (unknown y) es =
      spec_iff σ (flex false (occurs y (con h ts)) nx go vs s y (con h ts) es) _ _
      (λ q. (q.0, (sym q.1.0, q.1.1)))
      (λ q. (q.0, (sym q.1.0, q.1.1)))
      (flex_spec false (occurs y (con h ts)) vs y (con h ts) es (λ e. let z : ◌≡◌ {A = ℕ} 0 1 = cc in absurd (omega arith)) (λ e f q. no_self σ y h ts e q))
  step_spec vs (con h ts) (con k us) es = rigid_spec h k (same_former h k) refl ts us es (zip_terms ts us es) (zip_terms_lem σ ts us es)

unify_level_spec : (σ : ℕ → Ty) (nx : Next) (hx : (vs : List ℕ) (s : Substitution) (es : Pairs Term) → Spec σ (nx vs s es) (Respects σ s × Solves (under σ) es)) →
    (n : ℕ) (vs : List ℕ) (s : Substitution) (es : Pairs Term) → Spec σ (unify_level nx n vs s es) (Respects σ s × Solves (under σ) es)
unfolding unify_level
unify_level_spec σ nx hx zero vs s es = tt
unify_level_spec σ nx hx (suc n) vs s end = (λ q. (q, tt), λ q. q.0)
unify_level_spec σ nx hx (suc n) vs s (pair a b es) = step_spec σ nx hx (λ es'. unify_level nx n vs s es') s (λ es'. unify_level_spec σ nx hx n vs s es') vs a b es

unify_levels_spec : (σ : ℕ → Ty) (k : ℕ) (vs : List ℕ) (s : Substitution) (es : Pairs Term) → Spec σ (unify_levels k vs s es) (Respects σ s × Solves (under σ) es)
unfolding unify_levels
unify_levels_spec σ zero vs s es = unify_level_spec σ (λ vs' s' es'. stuck) (λ vs' s' es'. tt) (weight es) vs s es
unify_levels_spec σ (suc k) vs s es = unify_level_spec σ (λ vs' s' es'. unify_levels k vs' s' es') (λ vs' s' es'. unify_levels_spec σ k vs' s' es') (weight es) vs s es

pub resolve_eq : (σ : ℕ → Ty) (s : Substitution) (t : Term) → Respects σ s → under σ (resolve s t) ≡ under σ t
unfolding resolve
resolve_eq σ empty t q = refl
resolve_eq σ (bind x u s) t q = replace_eq σ x u q.0 (resolve s t) ∙ resolve_eq σ s t q.1

-- The solutions of the answer are those solutions of s that solve a = b; a failure has none.
pub unify_spec : (σ : ℕ → Ty) (vs : List ℕ) (s : Substitution) (a b : Term) → Spec σ (unify vs s a b) (Respects σ s × (under σ a ≡ under σ b))
unfolding unify
unify_spec σ vs s a b =
    spec_iff σ (unify_levels (length vs) vs s (pair (resolve s a) (resolve s b) end)) _ _
    (λ q. (q.0, sym (resolve_eq σ s a q.0) ∙ q.1.0 ∙ resolve_eq σ s b q.0))
    (λ q. (q.0, (resolve_eq σ s a q.0 ∙ q.1 ∙ sym (resolve_eq σ s b q.0), tt)))
    (unify_levels_spec σ (length vs) vs s (pair (resolve s a) (resolve s b) end))
