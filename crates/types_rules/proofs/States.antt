-- The unifier ends, and keeps its states; a state's solutions; one or several; components.
use Prim.Native.Nat.{◌+◌, ◌<◌, ◌≤◌, suc, zero, ℕ}
use borrow.Author.Tests.{eq-eqb, eqb-false, eqb-true, ne_eqb}
use lib.Dec.{eqb}
use lib.ListN.{length}
use mathlib.Core.Bool.{Bool, false, true}
use mathlib.Core.List.{List, [], ◌∷◌}
use mathlib.Core.Option.{Option, none, some}
use mathlib.Core.Path.{◌∙◌, ◌≡◌, ap, refl, subst, sym}
use native.Mathlib.Omega.{arith}
use Rattle.types_rules.proofs.Solutions.{resolve_eq, tcons_0, tcons_1, node_1}
use Rattle.types_rules.proofs.Terms.{and_l, and_r, under_ext, bool_no, each_both, each_map, each_put, occurs_no, or_split, update_other, update_same}
use Rattle.types_rules.specs.Component.{has, has_type}
use Rattle.types_rules.specs.Equations.{Pairs, end, pair}
use Rattle.types_rules.specs.Former.{and, identifiers, same_former}
use Rattle.types_rules.specs.Substitution.{Base, Respects, State, Substitution, Tri, bind, empty, ground, grounds, member, occurs, occurs_any, or, resolve, sol, update, without}
use Rattle.types_rules.specs.Types.{Each, Eachs, Term, Terms, Ty, con, cons, nil, term_size, term_sizes, under, unders, unknown, ℙℤ, integer_type}
use Rattle.types_rules.specs.Unify.{EachE, Good, Next, Outcome, flex, is_unknown, replace_all, rigid, stuck, unify, unify_level, unify_levels, unify_step, weight, zip_terms}

pub or_true_r : (a b : Bool) → b ≡ true → or a b ≡ true
unfolding or
or_true_r true b e = refl
or_true_r false b e = e

pub or_true_l : (a b : Bool) → a ≡ true → or a b ≡ true
unfolding or
or_true_l true b e = refl
or_true_l false b e = absurd (bool_no false e refl)

member_without_c : (x y z : ℕ) (ys : List ℕ) (b : Bool) → (member y (without x ys) ≡ true → member y ys ≡ true) →
    member y (elim b as (λ c. List ℕ) [ true ↦ without x ys | false ↦ z ∷ without x ys ]) ≡ true → or (eqb z y) (member y ys) ≡ true
unfolding member
member_without_c x y z ys true h e = or_true_r (eqb z y) (member y ys) (h e)
member_without_c x y z ys false h e = or_split (eqb z y) (member y (without x ys)) e _ (λ q. or_true_l (eqb z y) (member y ys) q) (λ q. or_true_r (eqb z y) (member y ys) (h q))

member_without : (x y : ℕ) (vs : List ℕ) → member y (without x vs) ≡ true → member y vs ≡ true
unfolding member without
member_without x y [] e = e
member_without x y (z ∷ ys) e = member_without_c x y z ys (eqb z x) (member_without x y ys) e

without_member_c : (x y z : ℕ) (ys : List ℕ) (b : Bool) → eqb z x ≡ b → eqb y x ≡ false → (member y ys ≡ true → member y (without x ys) ≡ true) → or (eqb z y) (member y ys) ≡ true →
    member y (elim b as (λ c. List ℕ) [ true ↦ without x ys | false ↦ z ∷ without x ys ]) ≡ true
unfolding member
without_member_c x y z ys true q n h e =
    or_split (eqb z y) (member y ys) e _
    (λ r. absurd (eqb-false y x n (sym (eqb-true z y r) ∙ eqb-true z x q)))
    h
without_member_c x y z ys false q n h e =
    or_split (eqb z y) (member y ys) e _
    (λ r. or_true_l (eqb z y) (member y (without x ys)) r)
    (λ r. or_true_r (eqb z y) (member y (without x ys)) (h r))

without_member : (x y : ℕ) (vs : List ℕ) → eqb y x ≡ false → member y vs ≡ true → member y (without x vs) ≡ true
unfolding member without
without_member x y [] n e = e
without_member x y (z ∷ ys) n e = without_member_c x y z ys (eqb z x) refl n (without_member x y ys n) e

without_no_c : (x z : ℕ) (ys : List ℕ) (b : Bool) → eqb z x ≡ b → (member x (without x ys) ≡ true → ⊥) → member x (elim b as (λ c. List ℕ) [ true ↦ without x ys | false ↦ z ∷ without x ys ]) ≡ true → ⊥
unfolding member
without_no_c x z ys true q h e = h e
without_no_c x z ys false q h e = or_split (eqb z x) (member x (without x ys)) e ⊥ (λ r. bool_no (eqb z x) r q) h

without_no : (x : ℕ) (vs : List ℕ) → member x (without x vs) ≡ true → ⊥
unfolding member without
without_no x [] e = bool_no false e refl
without_no x (z ∷ ys) e = without_no_c x z ys (eqb z x) refl (without_no x ys) e

without_len_c : (x z : ℕ) (ys : List ℕ) (b : Bool) → length (without x ys) ≤ length ys → length {A = ℕ} (elim b as (λ c. List ℕ) [ true ↦ without x ys | false ↦ z ∷ without x ys ]) ≤ suc (length ys)
without_len_c x z ys true h = omega arith
without_len_c x z ys false h = omega arith

without_len : (x : ℕ) (vs : List ℕ) → length (without x vs) ≤ length vs
unfolding without
without_len x [] = omega arith
without_len x (z ∷ ys) = without_len_c x z ys (eqb z x) (without_len x ys)

without_less_c : (x z : ℕ) (ys : List ℕ) (b : Bool) → length (without x ys) ≤ length ys → (b ≡ false → length (without x ys) < length ys) →
    length {A = ℕ} (elim b as (λ c. List ℕ) [ true ↦ without x ys | false ↦ z ∷ without x ys ]) < suc (length ys)
without_less_c x z ys true h k = omega arith
without_less_c x z ys false h k = omega (arith, k refl)

without_less : (x : ℕ) (vs : List ℕ) → member x vs ≡ true → length (without x vs) < length vs
unfolding without member
without_less x [] e = absurd (bool_no false e refl)
without_less x (z ∷ ys) e = without_less_c x z ys (eqb z x) (without_len x ys) (λ q. or_split (eqb z x) (member x ys) e _ (λ r. absurd (bool_no (eqb z x) r q)) (λ r. without_less x ys r))

tri_map : (F K : ℕ → Type 0) (s : Substitution) → ((y : ℕ) → F y → K y) → ((y : ℕ) → K y → F y) → Tri F s → Tri K s
tri_map F K empty f g h = tt
tri_map F K (bind x t s) f g h =
    (λ q. h.0 (g x q), each_map F K f t h.1, tri_map (λ y. eqb y x ≡ false → F y) (λ y. eqb y x ≡ false → K y) s (λ y q e. f y (q e)) (λ y q e. g y (q e)) h.2)

base_map : (F K : ℕ → Type 0) (s : Substitution) → ((y : ℕ) → F y → K y) → (y : ℕ) → Base F s y → Base K s y
base_map F K empty f y h = f y h
base_map F K (bind x t s) f y h = base_map (λ z. eqb z x ≡ false → F z) (λ z. eqb z x ≡ false → K z) s (λ z q e. f z (q e)) y h

pub decide : (b : Bool) → (C : Type 0) → (b ≡ true → C) → (b ≡ false → C) → C
decide true C f g = f refl
decide false C f g = g refl

state_bind : (N : ℕ → Type 0) (vs : List ℕ) (s : Substitution) (x : ℕ) (t : Term) → member x vs ≡ true → Each (λ y. member y vs ≡ true) t → occurs x t ≡ false →
    State N vs s → State N (without x vs) (bind x t s)
state_bind N vs s x t m e o h = record {
  tri = (
    without_no x vs,
    each_map _ _ (λ y q. without_member x y vs q.1 q.0) t (each_both _ _ t e (occurs_no x t o)),
    tri_map _ _ s to from h.tri,
  );
  dom = (h.sub x m, h.dom);
  sub = λ y q. h.sub y (member_without x y vs q);
  all = λ y n. base_map _ _ s to y (h.all y n);
}
  where
    to : (y : ℕ) → member y vs ≡ true → eqb y x ≡ false → member y (without x vs) ≡ true
    to y q n = without_member x y vs n q

    from : (y : ℕ) → (eqb y x ≡ false → member y (without x vs) ≡ true) → member y vs ≡ true
    from y f = decide (eqb y x) _ (λ q. subst (λ z. member z vs ≡ true) (sym (eqb-true y x q)) m) (λ q. member_without x y vs (f q))

pub start : State (λ y. y < 0) [] empty
start = record { tri = tt; dom = tt; sub = λ y q. absurd (unfold member in bool_no false q refl); all = λ y l. absurd (omega arith) }

replace_all_each : (P : ℕ → Type 0) (x : ℕ) (u : Term) → Each P u → (es : Pairs Term) → EachE (λ y. eqb y x ≡ false → P y) es → EachE P (replace_all x u es)
unfolding replace_all
replace_all_each P x u e end h = tt
replace_all_each P x u e (pair a b es) h = (each_put P x u e a h.0, each_put P x u e b h.1, replace_all_each P x u e es h.2)

each_e_map : (P Q : ℕ → Type 0) → ((y : ℕ) → P y → Q y) → (es : Pairs Term) → EachE P es → EachE Q es
each_e_map P Q f end h = tt
each_e_map P Q f (pair a b es) h = (each_map P Q f a h.0, each_map P Q f b h.1, each_e_map P Q f es h.2)

size_pos : (t : Term) → 1 ≤ term_size t
unfolding term_size
size_pos (unknown x) = omega arith
size_pos (con h ts) = omega arith

weight_pos : (es : Pairs Term) → 1 ≤ weight es
unfolding weight
weight_pos end = omega arith
weight_pos (pair a b es) = omega (arith, size_pos a)

ZipGood : (ℕ → Type 0) → Terms → Pairs Term → Option (Pairs Term) → Type 0
ZipGood P ts es none = Unit {0}
ZipGood P ts es (some es') = (weight es' ≤ term_sizes ts + weight es) × EachE P es'

zip_good_c : (P : ℕ → Type 0) (a b : Term) (ts : Terms) (es : Pairs Term) (o : Option (Pairs Term)) → ZipGood P ts (pair a b es) o → ZipGood P (cons a ts) es o
unfolding ZipGood weight term_size
zip_good_c P a b ts es none h = tt
zip_good_c P a b ts es (some es') h = (omega arith, h.1)

zip_good : (P : ℕ → Type 0) (ts us : Terms) (es : Pairs Term) → Eachs P ts → Eachs P us → EachE P es → ZipGood P ts es (zip_terms ts us es)
unfolding ZipGood zip_terms Each term_size
zip_good P nil nil es h k q = (omega arith, q)
zip_good P nil (cons b us) es h k q = tt
zip_good P (cons a ts) nil es h k q = tt
zip_good P (cons a ts) (cons b us) es h k q = zip_good_c P a b ts es (zip_terms ts us (pair a b es)) (zip_good P ts us (pair a b es) h.1 k.1 (h.0, k.0, q))

module _ (N : ℕ → Type 0) (nx : Next) (vs : List ℕ)
    (hx : (vs' : List ℕ) (s : Substitution) (es : Pairs Term) → length vs' < length vs → EachE (λ y. member y vs' ≡ true) es → State N vs' s → Good N (nx vs' s es))
    (s : Substitution) (hs : State N vs s) (go : Pairs Term → Outcome) (n : ℕ) (hg : (es : Pairs Term) → weight es ≤ n → EachE (λ y. member y vs ≡ true) es → Good N (go es)) where
  flex_good : (c o : Bool) (x : ℕ) (b : Term) (es : Pairs Term) → (o ≡ false → occurs x b ≡ false) → member x vs ≡ true → Each (λ y. member y vs ≡ true) b → EachE (λ y. member y vs ≡ true) es → weight es ≤ n →
      Good N (flex c o nx go vs s x b es)
  unfolding flex
  flex_good true o x b es e m hb he w = hg es w he
  flex_good false true x b es e m hb he w = tt
  flex_good false false x b es e m hb he w =
      let st = state_bind N vs s x b m hb (e refl) hs in
      hx (without x vs) (bind x b s) (replace_all x b es) (without_less x vs m)
      (replace_all_each _ x b st.tri.1 es (each_e_map _ _ (λ y q r. without_member x y vs r q) es he))
      st

  rigid_good : (d : Bool) (ts : Terms) (es : Pairs Term) (o : Option (Pairs Term)) → ZipGood (λ y. member y vs ≡ true) ts es o → term_sizes ts + weight es ≤ n → Good N (rigid d o go)
  unfolding rigid ZipGood
  rigid_good true ts es (some es') z w = hg es' (omega arith) z.1
  rigid_good true ts es none z w = tt
  rigid_good false ts es o z w = tt

  step_good : (a b : Term) (es : Pairs Term) → EachE (λ y. member y vs ≡ true) (pair a b es) → weight (pair a b es) ≤ suc n → Good N (unify_step nx go vs s a b es)
  unfolding unify_step Each weight term_size
  step_good (unknown x) b es h w = flex_good (is_unknown x b) (occurs x b) x b es (λ q. q) h.0 h.1 h.2 (omega arith)
  step_good (con k ts) (unknown y) es h w = flex_good false (occurs y (con k ts)) y (con k ts) es (λ q. q) h.1 h.0 h.2 (omega arith)
  step_good (con k ts) (con l us) es h w = rigid_good (same_former k l) ts es (zip_terms ts us es) (zip_good _ ts us es h.0 h.1 h.2) (omega arith)

inner_good : (N : ℕ → Type 0) (nx : Next) (vs : List ℕ)
    (hx : (vs' : List ℕ) (s : Substitution) (es : Pairs Term) → length vs' < length vs → EachE (λ y. member y vs' ≡ true) es → State N vs' s → Good N (nx vs' s es))
    (s : Substitution) (hs : State N vs s) (n : ℕ) (es : Pairs Term) → weight es ≤ n → EachE (λ y. member y vs ≡ true) es → Good N (unify_level nx n vs s es)
unfolding unify_level
inner_good N nx vs hx s hs zero es w h = omega (arith, weight_pos es)
inner_good N nx vs hx s hs (suc n) end w h = hs
inner_good N nx vs hx s hs (suc n) (pair a b es) w h =
    step_good N nx vs hx s hs (λ es'. unify_level nx n vs s es') n (λ es' w' h'. inner_good N nx vs hx s hs n es' w' h') a b es h w

outer_good : (N : ℕ → Type 0) (k : ℕ) (vs : List ℕ) (s : Substitution) (es : Pairs Term) → length vs ≤ k → EachE (λ y. member y vs ≡ true) es → State N vs s → Good N (unify_levels k vs s es)
unfolding unify_levels
outer_good N zero vs s es l h hs =
    inner_good N (λ vs' s' es'. stuck) vs (λ vs' s' es' l' h' hs'. omega arith) s hs (weight es) es (omega arith) h
outer_good N (suc k) vs s es l h hs =
    inner_good N (λ vs' s' es'. unify_levels k vs' s' es') vs (λ vs' s' es' l' h' hs'. outer_good N k vs' s' es' (omega arith) h' hs') s hs (weight es) es (omega arith) h

resolve_each : (F : ℕ → Type 0) (s : Substitution) (t : Term) → Tri F s → Each (Base F s) t → Each F (resolve s t)
unfolding resolve
resolve_each F empty t h e = e
resolve_each F (bind x u s) t h e = each_put F x u h.1 (resolve s t) (resolve_each (λ y. eqb y x ≡ false → F y) s t h.2 e)

pub resolve_free : (N : ℕ → Type 0) (vs : List ℕ) (s : Substitution) (t : Term) → State N vs s → Each N t → Each (λ y. member y vs ≡ true) (resolve s t)
resolve_free N vs s t h e = resolve_each _ s t h.tri (each_map N _ h.all t e)

pub unify_state : (N : ℕ → Type 0) (vs : List ℕ) (s : Substitution) (a b : Term) → State N vs s → Each N a → Each N b → Good N (unify vs s a b)
unfolding unify
unify_state N vs s a b h ea eb = outer_good N (length vs) vs s _ (omega arith) (resolve_free N vs s a h ea, resolve_free N vs s b h eb, tt) h

not_self : (x : ℕ) (C : Type 0) → eqb x x ≡ false → C
not_self x C e = absurd (eqb-false x x e refl)

sol_free : (F : ℕ → Type 0) (s : Substitution) → Tri F s → (τ : ℕ → Ty) (y : ℕ) → F y → sol τ s y ≡ τ y
unfolding sol
sol_free F empty h τ y f = refl
sol_free F (bind x t s) h τ y f =
    sol_free (λ z. eqb z x ≡ false → F z) s h.2 (update τ x (under τ t)) y (λ e. f) ∙ update_other τ x (under τ t) y (ne_eqb y x (λ q. h.0 (subst F q f)))

sol_sat_F : (F : ℕ → Type 0) (s : Substitution) → Tri F s → (τ : ℕ → Ty) → Respects (sol τ s) s
unfolding sol
sol_sat_F F empty h τ = tt
sol_sat_F F (bind x t s) h τ = (
  sol_free _ s h.2 (update τ x (under τ t)) x (not_self x _) ∙ update_same τ x (under τ t)
      ∙ sym (under_ext (sol (update τ x (under τ t)) s) τ t (each_map F _ (λ y f. sol_free F (bind x t s) h τ y f) t h.1)),
  sol_sat_F (λ y. eqb y x ≡ false → F y) s h.2 (update τ x (under τ t)),
)

pub sol_sat : (N : ℕ → Type 0) (vs : List ℕ) (s : Substitution) → State N vs s → (τ : ℕ → Ty) → Respects (sol τ s) s
sol_sat N vs s h τ = sol_sat_F _ s h.tri τ

pub sol_at : (N : ℕ → Type 0) (vs : List ℕ) (s : Substitution) (t : Term) → State N vs s → Each N t → (τ : ℕ → Ty) → under (sol τ s) t ≡ under τ (resolve s t)
sol_at N vs s t h e τ =
    sym (resolve_eq (sol τ s) s t (sol_sat N vs s h τ))
    ∙ under_ext (sol τ s) τ (resolve s t) (each_map _ _ (λ y f. sol_free _ s h.tri τ y f) (resolve s t) (resolve_free N vs s t h e))

mutual
  unfolding ground Each

  pub ground_each : (t : Term) → ground t ≡ true → Each (λ y. ⊥) t
  ground_each (unknown x) e = bool_no false e refl
  ground_each (con h ts) e = grounds_each ts e

  grounds_each : (ts : Terms) → grounds ts ≡ true → Eachs (λ y. ⊥) ts
  grounds_each nil e = tt
  grounds_each (cons t ts) e = (ground_each t (and_l (ground t) (grounds ts) e), grounds_each ts (and_r (ground t) (grounds ts) e))

pub and_split : (a b : Bool) → and a b ≡ false → (C : Type 0) → (a ≡ false → C) → (b ≡ false → C) → C
unfolding and
and_split true b e C f g = g e
and_split false b e C f g = f refl

mutual
  unfolding ground occurs

  pub open_has : (t : Term) → ground t ≡ false → (y : ℕ) × (occurs y t ≡ true)
  open_has (unknown x) e = (x, eq-eqb x x refl)
  open_has (con h ts) e = opens_has ts e

  opens_has : (ts : Terms) → grounds ts ≡ false → (y : ℕ) × (occurs_any y ts ≡ true)
  opens_has nil e = absurd (bool_no true refl e)
  opens_has (cons t ts) e =
      and_split (ground t) (grounds ts) e _
      (λ q. let r = open_has t q in (r.0, or_true_l (occurs r.0 t) (occurs_any r.0 ts) r.1))
      (λ q. let r = opens_has ts q in (r.0, or_true_r (occurs r.0 t) (occurs_any r.0 ts) r.1))

-- Two maps that give t one type agree at the unknowns of t.
mutual
  unfolding occurs under

  occurs_inj : (σ τ : ℕ → Ty) (y : ℕ) (t : Term) → occurs y t ≡ true → under σ t ≡ under τ t → σ y ≡ τ y
  occurs_inj σ τ y (unknown x) e q = let p = eqb-true x y e in ap σ (sym p) ∙ q ∙ ap τ p
  occurs_inj σ τ y (con h ts) e q = occurs_any_inj σ τ y ts e (node_1 _ _ _ _ q)

  occurs_any_inj : (σ τ : ℕ → Ty) (y : ℕ) (ts : Terms) → occurs_any y ts ≡ true → unders σ ts ≡ unders τ ts → σ y ≡ τ y
  occurs_any_inj σ τ y nil e q = absurd (bool_no false e refl)
  occurs_any_inj σ τ y (cons t ts) e q =
      or_split (occurs y t) (occurs_any y ts) e _ (λ r. occurs_inj σ τ y t r (tcons_0 _ _ _ _ q)) (λ r. occurs_any_inj σ τ y ts r (tcons_1 _ _ _ _ q))

pub unique : (s : Substitution) (t : Term) → ground (resolve s t) ≡ true → (σ τ : ℕ → Ty) → Respects σ s → Respects τ s → under σ t ≡ under τ t
unique s t e σ τ p q =
    sym (resolve_eq σ s t p) ∙ under_ext σ τ (resolve s t) (each_map _ _ (λ y f. absurd f) (resolve s t) (ground_each (resolve s t) e)) ∙ resolve_eq τ s t q

pub resolved : (s : Substitution) (t : Term) → ground (resolve s t) ≡ true → (σ : ℕ → Ty) → Respects σ s → under σ t ≡ under (λ y. integer_type) (resolve s t)
resolved s t e σ p =
    sym (resolve_eq σ s t p) ∙ under_ext σ (λ y. integer_type) (resolve s t) (each_map _ _ (λ y f. absurd f) (resolve s t) (ground_each (resolve s t) e))

-- A term with an unknown y has two types: with ℤ for every unknown, and with ℙ ℤ for y.
pub two_types : (N : ℕ → Type 0) (vs : List ℕ) (s : Substitution) (t : Term) → State N vs s → Each N t → ground (resolve s t) ≡ false →
    (y : ℕ) × (under (sol (λ z. integer_type) s) t ≡ under (sol (update (λ z. integer_type) y ℙℤ) s) t → ⊥)
two_types N vs s t h e g =
    let r = open_has (resolve s t) g in
    let one : ℕ → Ty = λ y. integer_type in
    let two : ℕ → Ty = update one r.0 ℙℤ in
    (r.0, λ q. differ (occurs_inj one two r.0 (resolve s t) r.1 (sym (sol_at N vs s t h e one) ∙ q ∙ sol_at N vs s t h e two) ∙ update_same one r.0 ℙℤ))
  where
    differ : integer_type ≡ ℙℤ → ⊥
    differ q = let z : ◌≡◌ {A = ℕ} 0 1 = cc in omega arith

pub several : (N : ℕ → Type 0) (vs : List ℕ) (s : Substitution) (t : Term) → State N vs s → Each N t → ground (resolve s t) ≡ false →
    (σ : ℕ → Ty) × (τ : ℕ → Ty) × Respects σ s × Respects τ s × (under σ t ≡ under τ t → ⊥)
several N vs s t h e g =
    let r = two_types N vs s t h e g in
    let one : ℕ → Ty = λ y. integer_type in
    let two : ℕ → Ty = update one r.0 ℙℤ in
    (sol one s, sol two s, sol_sat N vs s h one, sol_sat N vs s h two, r.1)

has_yes : (c : ℕ) (t : Term) (σ : ℕ → Ty) → has c t ≡ true → has_type c (under σ t) ≡ true
unfolding has has_type under
has_yes c (unknown x) σ e = absurd (bool_no false e refl)
has_yes c (con h ts) σ e = e

has_no : (c : ℕ) (t : Term) → has c t ≡ false → has_type c (under (λ y. integer_type) t) ≡ false
unfolding has has_type under identifiers member
has_no c (unknown x) e = refl
has_no c (con h ts) e = e

pub select_yes : (s : Substitution) (t : Term) (c : ℕ) → has c (resolve s t) ≡ true → (σ : ℕ → Ty) → Respects σ s → has_type c (under σ t) ≡ true
select_yes s t c e σ q = subst (λ g. has_type c g ≡ true) (resolve_eq σ s t q) (has_yes c (resolve s t) σ e)

pub select_no : (N : ℕ → Type 0) (vs : List ℕ) (s : Substitution) (t : Term) (c : ℕ) → State N vs s → Each N t → has c (resolve s t) ≡ false →
    (σ : ℕ → Ty) × Respects σ s × (has_type c (under σ t) ≡ false)
select_no N vs s t c h e g =
    let one : ℕ → Ty = λ y. integer_type in
    (sol one s, sol_sat N vs s h one, subst (λ z. has_type c z ≡ false) (sym (sol_at N vs s t h e one)) (has_no c (resolve s t) g))

pub member_head : (y : ℕ) (vs : List ℕ) → member y (y ∷ vs) ≡ true
unfolding member
member_head y vs = or_true_l (eqb y y) (member y vs) (eq-eqb y y refl)
