-- The verdict of `classify` is right.
use Prim.Native.Nat.{ℕ}
use borrow.Author.Tests.{eq-eqb, eqb-true}
use lib.ListN.{length}
use mathlib.Core.Bool.{Bool, false, true}
use mathlib.Core.List.{List, [], ◌∷◌, map}
use mathlib.Core.Logic.{◌⊎◌, inl, inr, ⊎_elim}
use mathlib.Core.Path.{◌∙◌, ◌≡◌, ap, ap₂, refl, subst, sym}
use native.Mathlib.Omega.{arith}
use Rattle.types_rules.proofs.Finite.{all_at, all_of, depth, finite_bounded, solution, solution_sat, solution_unknown}
use Rattle.types_rules.proofs.Follows.{apart_clash, enough, links_in, merged_closed, merged_no_clash, rep_in}
use Rattle.types_rules.proofs.Rational.{Says, outer_says, rep_sat, shape_1}
use Rattle.types_rules.proofs.Solutions.{tcons_0, tcons_1, node_0, node_1}
use Rattle.types_rules.proofs.Terms.{and_i, and_l, and_r, bool_no, former_refl, same_true}
use Rattle.types_rules.specs.Classes.{rep}
use Rattle.types_rules.specs.Classify.{Out, Right, Solvable, Verdict, apart, classify, endless, join, judge, merge_levels, merged, same_term, same_terms, solvable, spent, subs, subss, to_list, univ, view_term}
use Rattle.types_rules.specs.Equations.{AllP, In, Pairs, Solves, end, pair}
use Rattle.types_rules.specs.Finite.{allb, bounded, from_list, type_of}
use Rattle.types_rules.specs.Follows.{shape}
use Rattle.types_rules.specs.Former.{Former, same_former}
use Rattle.types_rules.specs.Types.{Term, Terms, Ty, con, cons, nil, node, size, tcons, under, unders, unknown, integer_type}

mutual
  unfolding same_term

  pub same_term_eq : (t u : Term) → same_term t u ≡ true → t ≡ u
  same_term_eq (unknown x) (unknown y) e = ap unknown (eqb-true x y e)
  same_term_eq (unknown x) (con k us) e = absurd (bool_no false e refl)
  same_term_eq (con h ts) (unknown y) e = absurd (bool_no false e refl)
  same_term_eq (con h ts) (con k us) e = ap₂ con (same_true h k (and_l (same_former h k) (same_terms ts us) e)) (same_terms_eq ts us (and_r (same_former h k) (same_terms ts us) e))

  pub same_terms_eq : (ts us : Terms) → same_terms ts us ≡ true → ts ≡ us
  same_terms_eq nil nil e = refl
  same_terms_eq nil (cons u us) e = absurd (bool_no false e refl)
  same_terms_eq (cons t ts) nil e = absurd (bool_no false e refl)
  same_terms_eq (cons t ts) (cons u us) e = ap₂ cons (same_term_eq t u (and_l (same_term t u) (same_terms ts us) e)) (same_terms_eq ts us (and_r (same_term t u) (same_terms ts us) e))

mutual
  unfolding same_term

  same_term_refl : (t : Term) → same_term t t ≡ true
  same_term_refl (unknown x) = eq-eqb x x refl
  same_term_refl (con h ts) = and_i (same_former h h) (same_terms ts ts) (former_refl h) (same_terms_refl ts)

  same_terms_refl : (ts : Terms) → same_terms ts ts ≡ true
  same_terms_refl nil = refl
  same_terms_refl (cons t ts) = and_i (same_term t t) (same_terms ts ts) (same_term_refl t) (same_terms_refl ts)

pub same_term_ne : (t u : Term) → same_term t u ≡ false → t ≡ u → ⊥
same_term_ne t u e q = bool_no (same_term t u) (subst (λ z. same_term t z ≡ true) q (same_term_refl t)) e

in_l : (t : Term) (xs ys : List Term) → In t xs → In t (join xs ys)
unfolding join
in_l t [] ys i = absurd i
in_l t (x ∷ xs) ys (inl e) = inl e
in_l t (x ∷ xs) ys (inr i) = inr (in_l t xs ys i)

in_r : (t : Term) (xs ys : List Term) → In t ys → In t (join xs ys)
unfolding join
in_r t [] ys i = i
in_r t (x ∷ xs) ys i = inr (in_r t xs ys i)

in_split : (t : Term) (xs ys : List Term) → In t (join xs ys) → In t xs ⊎ In t ys
unfolding join
in_split t [] ys i = inr i
in_split t (x ∷ xs) ys (inl e) = inl (inl e)
in_split t (x ∷ xs) ys (inr i) = ⊎_elim (λ j. inl (inr j)) (λ j. inr j) (in_split t xs ys i)

self_in : (t : Term) → In t (subs t)
unfolding subs
self_in (unknown x) = inl refl
self_in (con h ts) = inl refl

kid_in : (c : Term) (ts : Terms) → In c (to_list ts) → In c (subss ts)
unfolding to_list subs
kid_in c nil i = absurd i
kid_in c (cons t ts) (inl e) = in_l c (subs t) (subss ts) (subst (λ z. In z (subs t)) (sym e) (self_in t))
kid_in c (cons t ts) (inr i) = in_r c (subs t) (subss ts) (kid_in c ts i)

abbrev pub Kids : List Term → Type 0
Kids l = (n : Term) (h : Former) (cs : List Term) → In n l → view_term n ≡ shape h cs → (c : Term) → In c cs → In c l

kids_join : (xs ys : List Term) → Kids xs → Kids ys → Kids (join xs ys)
kids_join xs ys f g n h cs i e c j = ⊎_elim (λ k. in_l c xs ys (f n h cs k e c j)) (λ k. in_r c xs ys (g n h cs k e c j)) (in_split n xs ys i)

kids_var : (x : ℕ) → Kids (unknown x ∷ [])
unfolding view_term
kids_var x n h cs (inl q) e c j = let v : view_term (unknown x) ≡ shape h cs = ap view_term (sym q) ∙ e in let z : ◌≡◌ {A = ℕ} 0 1 = cc in absurd (omega arith)
kids_var x n h cs (inr i) e c j = absurd i

kids_con : (k : Former) (ts : Terms) → Kids (subss ts) → Kids (con k ts ∷ subss ts)
unfolding view_term
kids_con k ts f n h cs (inl q) e c j = inr (kid_in c ts (subst (In c) (shape_1 _ _ _ _ (sym e ∙ ap view_term q)) j))
kids_con k ts f n h cs (inr i) e c j = inr (f n h cs i e c j)

mutual
  unfolding subs

  subs_kids : (t : Term) → Kids (subs t)
  subs_kids (unknown x) = kids_var x
  subs_kids (con k ts) = kids_con k ts (subss_kids ts)

  subss_kids : (ts : Terms) → Kids (subss ts)
  subss_kids nil = λ n h cs i e c j. absurd i
  subss_kids (cons t ts) = kids_join (subs t) (subss ts) (subs_kids t) (subss_kids ts)

pub univ_kids : (P : Pairs Term) → Kids (univ P)
unfolding univ
univ_kids end = λ n h cs i e c j. absurd i
univ_kids (pair a b P) = kids_join (subs a) _ (subs_kids a) (kids_join (subs b) (univ P) (subs_kids b) (univ_kids P))

all_map : (R S : Term → Term → Type 0) → ((a b : Term) → R a b → S a b) → (P : Pairs Term) → AllP R P → AllP S P
all_map R S f end h = tt
all_map R S f (pair a b P) h = (f a b h.0, all_map R S f P h.1)

pub univ_all : (P : Pairs Term) → AllP (λ a b. In a (univ P) × In b (univ P)) P
unfolding univ
univ_all end = tt
univ_all (pair a b P) = (
  (in_l a (subs a) _ (self_in a), in_r b (subs a) _ (in_l b (subs b) (univ P) (self_in b))),
  all_map _ _ (λ c d q. (in_r c (subs a) _ (in_r c (subs b) (univ P) q.0), in_r d (subs a) _ (in_r d (subs b) (univ P) q.1))) P (univ_all P),
)

pub unders_list : (σ : ℕ → Ty) (ts : Terms) → unders σ ts ≡ from_list (map (under σ) (to_list ts))
unfolding under from_list to_list
unders_list σ nil = refl
unders_list σ (cons t ts) = ap (tcons (under σ t)) (unders_list σ ts)

pub under_fits : (σ : ℕ → Ty) (n : Term) (h : Former) (cs : List Term) → view_term n ≡ shape h cs → under σ n ≡ node h (from_list (map (under σ) cs))
unfolding under view_term
under_fits σ (unknown x) h cs e = let z : ◌≡◌ {A = ℕ} 0 1 = cc in absurd (omega arith)
under_fits σ (con k ts) h cs e =
    let p : k ≡ h = cc in
    let q : to_list ts ≡ cs = cc in
    ap (node k) (unders_list σ ts) ∙ ap₂ (λ x l. node x (from_list (map (under σ) l))) p q

abbrev pub build : Former → List Ty → Ty
build h l = node h (from_list l)

pub from_list_inj : (a b : List Ty) → from_list a ≡ from_list b → a ≡ b
unfolding from_list
from_list_inj [] [] e = refl
from_list_inj [] (y ∷ b) e = let z : ◌≡◌ {A = ℕ} 0 1 = cc in absurd (omega arith)
from_list_inj (x ∷ a) [] e = let z : ◌≡◌ {A = ℕ} 0 1 = cc in absurd (omega arith)
from_list_inj (x ∷ a) (y ∷ b) e = ap₂ ◌∷◌ (tcons_0 _ _ _ _ e) (from_list_inj a b (tcons_1 _ _ _ _ e))

module _ (P : Pairs Term) where
  abbrev pub us : List Term
  us = univ P

  abbrev pub run : Out Term
  run = merge_levels same_term view_term (length us) end P

  says : (σ : ℕ → Ty) → (o : Out Term) → run ≡ o →
      Says Term same_term same_term_eq same_term_ne view_term Ty build (λ h k a b q. node_0 _ _ _ _ q) (λ h k a b q. from_list_inj a b (node_1 _ _ _ _ q)) (under σ) (under_fits σ) o (Unit {0} × Solves (under σ) P)
  says σ o e =
      subst (λ z. Says Term same_term same_term_eq same_term_ne view_term Ty build (λ h k a b q. node_0 _ _ _ _ q) (λ h k a b q. from_list_inj a b (node_1 _ _ _ _ q)) (under σ) (under_fits σ) z (Unit {0} × Solves (under σ) P)) e
      (outer_says Term same_term same_term_eq same_term_ne view_term Ty build (λ h k a b q. node_0 _ _ _ _ q) (λ h k a b q. from_list_inj a b (node_1 _ _ _ _ q)) (under σ) (under_fits σ) (length us) end P)

  pub rep_us : (L : Pairs Term) → run ≡ merged L → (n : Term) → In n us → In (rep same_term L n) us
  rep_us L e n i = rep_in Term same_term same_term_eq same_term_ne view_term P us (univ_kids P) L (links_in Term same_term same_term_eq same_term_ne view_term P us (univ_kids P) L (univ_all P) e) n i

  -- What the tree gives is what its values at the unknowns give. β: the types of the unknowns that stand for themselves.
  module _ (β : Term → Ty) (L : Pairs Term) (e : run ≡ merged L) (d : ℕ) (a : (n : Term) → In n us → bounded (rep same_term L) view_term d n ≡ true) where
    abbrev σ : Term → Ty
    σ n = type_of (rep same_term L) view_term β d n

    abbrev σ₀ : ℕ → Ty
    σ₀ x = σ (unknown x)

    mutual
      unfolding under view_term to_list from_list

      σ_at : (t : Term) → In t us → under σ₀ t ≡ σ t
      σ_at (unknown x) i = refl
      σ_at (con h ts) i =
          ap (node h) (σ_ats ts (λ c j. univ_kids P (con h ts) h (to_list ts) i refl c j))
          ∙ sym (solution Term same_term same_term_eq same_term_ne view_term P L (merged_closed Term same_term same_term_eq same_term_ne view_term P (length us) L e) β d (con h ts) h (to_list ts) (a (con h ts) i) refl)

      σ_ats : (ts : Terms) → ((c : Term) → In c (to_list ts) → In c us) → unders σ₀ ts ≡ from_list (map σ (to_list ts))
      σ_ats nil f = refl
      σ_ats (cons t ts) f = ap₂ tcons (σ_at t (f t (inl refl))) (σ_ats ts (λ c j. f c (inr j)))

    sat_at : (Q : Pairs Term) → AllP (λ x y. In x us × In y us) Q → Solves σ Q → Solves (under σ₀) Q
    sat_at end h q = tt
    sat_at (pair x y Q) h q = (σ_at x h.0.0 ∙ q.0 ∙ sym (σ_at y h.0.1), sat_at Q h.1 q.1)

    solved : Solves (under σ₀) P
    solved = sat_at P (univ_all P) (solution_sat Term same_term same_term_eq same_term_ne view_term P L (merged_closed Term same_term same_term_eq same_term_ne view_term P (length us) L e) β d)

  finite : (L : Pairs Term) → run ≡ merged L → Solvable P → allb (bounded (rep same_term L) view_term (length us)) us ≡ true
  finite L e s =
      let sat = (says s.0 (merged L) e).1 (tt, s.1) in
      all_of _ us (λ n i.
      depth (rep same_term L) view_term us (rep_us L e) (univ_kids P) (size (under s.0 n)) n i
      (finite_bounded (rep same_term L) view_term (under s.0) (under_fits s.0) (λ m. rep_sat Term same_term same_term_eq same_term_ne (under s.0) L sat m) (size (under s.0 n)) n (omega arith)))

  judge_right : (o : Out Term) → run ≡ o → Right P (judge us o)
  unfolding judge
  judge_right apart e = (apart_clash Term same_term same_term_eq same_term_ne view_term P (length us) e, λ s. says s.0 apart e (tt, s.1))
  judge_right spent e = absurd (enough Term same_term same_term_eq same_term_ne view_term P us (univ_kids P) (univ_all P) e)
  judge_right (merged L) e = go (allb (bounded (rep same_term L) view_term (length us)) us) refl
    where
      go : (b : Bool) → allb (bounded (rep same_term L) view_term (length us)) us ≡ b → Right P (elim b as (λ x. Verdict) [ true ↦ solvable | false ↦ endless ])
      go true q = ((_, solved (λ t. integer_type) L e (length us) (λ n i. all_at _ us q n i)), merged_no_clash Term same_term same_term_eq same_term_ne view_term P (length us) L e)
      go false q = (merged_no_clash Term same_term same_term_eq same_term_ne view_term P (length us) L e, λ s. bool_no _ (finite L e s) q)

  -- Where there is a solution, merging ends with links, and all that it has linked has finite types.
  pub record Links : Type 0 where
    pub L : Pairs Term
    pub is : run ≡ merged L
    pub bound : (n : Term) → In n us → bounded (rep same_term L) view_term (length us) n ≡ true

  pub links : Solvable P → Links
  links s = go run refl
    where
      go : (o : Out Term) → run ≡ o → Links
      go apart e = absurd (says s.0 apart e (tt, s.1))
      go spent e = absurd (enough Term same_term same_term_eq same_term_ne view_term P us (univ_kids P) (univ_all P) e)
      go (merged L) e = record { L = L; is = e; bound = λ n i. all_at _ us (finite L e s) n i }

  -- The solution with the types β at the unknowns that stand for themselves.
  module _ (K : Links) (β : Term → Ty) where
    unfoldable pub solution_by : ℕ → Ty
    solution_by x = type_of (rep same_term K.L) view_term β (length us) (unknown x)

    pub by_solves : Solves (under solution_by) P
    unfolding solution_by
    by_solves = solved β K.L K.is (length us) K.bound

    pub by_open : (y : ℕ) → rep same_term K.L (unknown y) ≡ unknown y → solution_by y ≡ β (unknown y)
    unfolding solution_by view_term
    by_open y q =
        solution_unknown Term same_term same_term_eq same_term_ne view_term P K.L (merged_closed Term same_term same_term_eq same_term_ne view_term P (length us) K.L K.is) β (length us) (unknown y)
        (ap view_term q) ∙ ap β q

-- The verdict is right.
pub classify_right : (P : Pairs Term) → Right P (classify P)
unfolding classify
classify_right P = judge_right P _ refl
