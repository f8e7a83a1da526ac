-- Types that stand for possibly infinite ones: the givens from B on are stand-ins, and `fill` puts possibly infinite types in their place. Where equations have a
-- solution, every one of possibly infinite types is the solution with stand-ins at the unknowns left open, filled.
use Prim.Native.Nat.{◌+◌, ◌-◌, ◌≤◌, suc, zero, ℕ}
use lib.Dec.{ltb}
use lib.ListN.{length}
use mathlib.Core.Bool.{Bool, false, true}
use mathlib.Core.List.{List, [], ◌∷◌, map}
use mathlib.Core.Logic.{◌⊎◌, inl, inr, ⊎_elim}
use mathlib.Core.Path.{◌∙◌, ◌≡◌, ap, ap₂, refl, subst, sym}
use native.Mathlib.Omega.{arith}
use borrow.Author.Tests.{lt-ltb, le-ltb}
use Rattle.types_rules.proofs.Classify.{Links, by_open, rep_us, same_term_eq, same_term_ne, solution_by, univ_all, univ_kids, us}
use Rattle.types_rules.proofs.Finite.{all_at}
use Rattle.types_rules.proofs.Follows.{links_in, merged_follows, rep_follows}
use Rattle.types_rules.proofs.Infinite.{follows_inf, inf_term}
use Rattle.types_rules.proofs.Terms.{bool_no}
use Rattle.types_rules.specs.Classes.{rep, swap}
use Rattle.types_rules.specs.Classify.{join, same_term, subs, subss, univ, view_term}
use Rattle.types_rules.specs.Equations.{AllP, In, Pairs, Solves, end, pair}
use Rattle.types_rules.specs.Finite.{bounded, bounded_view, from_list, type_of, type_of_view}
use Rattle.types_rules.specs.Follows.{View, shape, unk}
use Rattle.types_rules.specs.Former.{Former, binding, given, int, parameter, power, product}
use Rattle.types_rules.specs.Infinite.{Inf, eval, evals, mk_i, under_inf, whole, wholes}
use Rattle.types_rules.specs.Types.{Term, Terms, Ty, Tys, con, cons, integer_type, nil, node, tcons, tnil, under, unders, unknown}

-- Above all givens.
unfoldable pub high_former : Former → ℕ
high_former int = 0
high_former (given g) = suc g
high_former (parameter i) = 0
high_former power = 0
high_former product = 0
high_former (binding l) = 0

unfoldable mutual
  pub high_term : Term → ℕ
  high_term (unknown x) = 0
  high_term (con h ts) = high_former h + high_terms ts

  pub high_terms : Terms → ℕ
  high_terms nil = 0
  high_terms (cons t ts) = high_term t + high_terms ts

unfoldable mutual
  pub high_type : Ty → ℕ
  high_type (node h gs) = high_former h + high_types gs

  pub high_types : Tys → ℕ
  high_types tnil = 0
  high_types (tcons g gs) = high_type g + high_types gs

unfoldable pub high_pairs : Pairs Term → ℕ
high_pairs end = 0
high_pairs (pair a b P) = high_term a + high_term b + high_pairs P

-- The stand-in of an unknown.
abbrev pub stand_in : ℕ → ℕ → Ty
stand_in B y = node (given (B + y)) tnil

unfoldable pub stand : ℕ → Term → Ty
stand B (unknown y) = stand_in B y
stand B (con h ts) = integer_type

unfoldable pub fill_former : ℕ → (ℕ → Inf) → Former → List Inf → Inf
fill_former B ι int ds = mk_i int ds
fill_former B ι (given g) ds = elim (ltb g B) [ true ↦ mk_i (given g) ds | false ↦ ι (g - B) ]
fill_former B ι (parameter i) ds = mk_i (parameter i) ds
fill_former B ι power ds = mk_i power ds
fill_former B ι product ds = mk_i product ds
fill_former B ι (binding l) ds = mk_i (binding l) ds

unfoldable mutual
  pub fill : ℕ → (ℕ → Inf) → Ty → Inf
  fill B ι (node h gs) = fill_former B ι h (fills B ι gs)

  pub fills : ℕ → (ℕ → Inf) → Tys → List Inf
  fills B ι tnil = []
  fills B ι (tcons g gs) = fill B ι g ∷ fills B ι gs

module _ (B : ℕ) (ι : ℕ → Inf) where
  fill_former_lem : (h : Former) (ds : List Inf) → high_former h ≤ B → fill_former B ι h ds ≡ mk_i h ds
  unfolding fill_former high_former
  fill_former_lem int ds l = refl
  fill_former_lem (given g) ds l = ap (λ b. elim b as (λ x. Inf) [ true ↦ mk_i (given g) ds | false ↦ ι (g - B) ]) (lt-ltb g B (omega arith))
  fill_former_lem (parameter i) ds l = refl
  fill_former_lem power ds l = refl
  fill_former_lem product ds l = refl
  fill_former_lem (binding k) ds l = refl

  pub fill_stand : (y : ℕ) → fill B ι (stand_in B y) ≡ ι y
  unfolding fill fill_former
  fill_stand y =
      ap (λ b. elim b as (λ x. Inf) [ true ↦ mk_i (given (B + y)) [] | false ↦ ι (B + y - B) ]) (le-ltb (B + y) B (omega arith)) ∙ ap ι (let z : B + y - B ≡ y = omega arith in z)

  pub fill_list : (gs : List Ty) → fills B ι (from_list gs) ≡ map (fill B ι) gs
  unfolding fill from_list
  fill_list [] = refl
  fill_list (g ∷ gs) = ap (λ l. fill B ι g ∷ l) (fill_list gs)

  -- The former of some types, filled.
  pub fill_build : (h : Former) (gs : List Ty) → high_former h ≤ B → fill B ι (node h (from_list gs)) ≡ mk_i h (map (fill B ι) gs)
  unfolding fill
  fill_build h gs l = fill_former_lem h (fills B ι (from_list gs)) l ∙ ap (mk_i h) (fill_list gs)

  mutual
    unfolding fill whole high_type

    pub fill_whole : (g : Ty) → high_type g ≤ B → fill B ι g ≡ whole g
    fill_whole (node h gs) l = fill_former_lem h (fills B ι gs) (omega arith) ∙ ap (mk_i h) (fill_wholes gs (omega arith))

    fill_wholes : (gs : Tys) → high_types gs ≤ B → fills B ι gs ≡ wholes gs
    fill_wholes tnil l = refl
    fill_wholes (tcons g gs) l = ap₂ ◌∷◌ (fill_whole g (omega arith)) (fill_wholes gs (omega arith))

  module _ (τ : ℕ → Ty) where
    mutual
      unfolding fill under eval high_term

      pub fill_under : (t : Term) → high_term t ≤ B → fill B ι (under τ t) ≡ under_inf (λ x. fill B ι (τ x)) t
      fill_under (unknown x) l = refl
      fill_under (con h ts) l = fill_former_lem h (fills B ι (unders τ ts)) (omega arith) ∙ ap (mk_i h) (fill_unders ts (omega arith))

      fill_unders : (ts : Terms) → high_terms ts ≤ B → fills B ι (unders τ ts) ≡ evals mk_i (λ x. fill B ι (τ x)) ts
      fill_unders nil l = refl
      fill_unders (cons t ts) l = ap₂ ◌∷◌ (fill_under t (omega arith)) (fill_unders ts (omega arith))

    pub fill_solves : (P : Pairs Term) → high_pairs P ≤ B → Solves (under τ) P → Solves (under_inf (λ x. fill B ι (τ x))) P
    unfolding high_pairs
    fill_solves end l h = tt
    fill_solves (pair a b P) l h = (sym (fill_under a (omega arith)) ∙ ap (fill B ι) h.0 ∙ fill_under b (omega arith), fill_solves P (omega arith) h.1)

-- NODES OF ANY KIND, those of S: ρ is a solution of possibly infinite types, and τ gives the unknown nodes what, filled, is theirs.
module _ {N : Type 0} (r : N → N) (view : N → View N) (S : N → Type 0) (S-rep : (n : N) → S n → S (r n)) (S-kids : (n : N) (h : Former) (cs : List N) → S n → view n ≡ shape h cs → (c : N) → In c cs → S c)
    (τ : N → Ty) (B : ℕ) (ι : ℕ → Inf) (ρ : N → Inf) (by : (n : N) → S n → ρ n ≡ ρ (r n)) (fits : (n : N) (h : Former) (cs : List N) → view n ≡ shape h cs → ρ n ≡ mk_i h (map ρ cs))
    (high : (n : N) (h : Former) (cs : List N) → S n → view n ≡ shape h cs → high_former h ≤ B) (base : (n : N) → S n → view (r n) ≡ unk → fill B ι (τ (r n)) ≡ ρ (r n)) where
  fill_view : (d : ℕ) → ((c : N) → S c → bounded r view d c ≡ true → fill B ι (type_of r view τ d c) ≡ ρ c) → (n : N) → S n → (v : View N) → view (r n) ≡ v →
      bounded_view (λ c. bounded r view d c) v ≡ true → fill B ι (type_of_view (λ c. type_of r view τ d c) (τ (r n)) v) ≡ ρ (r n)
  unfolding bounded_view type_of_view
  fill_view d ih n s unk e q = base n s e
  fill_view d ih n s (shape h cs) e q =
      fill_build B ι h (map (λ c. type_of r view τ d c) cs) (high (r n) h cs (S-rep n s) e) ∙ ap (mk_i h) (go cs (λ c i. ih c (S-kids (r n) h cs (S-rep n s) e c i) (all_at _ cs q c i)))
      ∙ sym (fits (r n) h cs e)
    where
      go : (cs : List N) → ((c : N) → In c cs → fill B ι (type_of r view τ d c) ≡ ρ c) → map (fill B ι) (map (λ c. type_of r view τ d c) cs) ≡ map ρ cs
      go [] f = refl
      go (c ∷ cs) f = ap₂ ◌∷◌ (f c (inl refl)) (go cs (λ b i. f b (inr i)))

  pub fill_at : (d : ℕ) (n : N) → S n → bounded r view d n ≡ true → fill B ι (type_of r view τ d n) ≡ ρ n
  unfolding bounded type_of
  fill_at zero n s q = absurd (bool_no false q refl)
  fill_at (suc d) n s q = fill_view d (λ c t z. fill_at d c t z) n s (view (r n)) refl q ∙ sym (by n s)

-- TERMS.
high_join : (xs ys : List Term) (m : ℕ) → ((n : Term) → In n xs → high_term n ≤ m) → ((n : Term) → In n ys → high_term n ≤ m) → (n : Term) → In n (join xs ys) → high_term n ≤ m
unfolding join
high_join [] ys m f g n i = g n i
high_join (x ∷ xs) ys m f g n (inl e) = f n (inl e)
high_join (x ∷ xs) ys m f g n (inr i) = high_join xs ys m (λ c j. f c (inr j)) g n i

mutual
  unfolding subs high_term

  high_subs : (t : Term) (m : ℕ) → high_term t ≤ m → (n : Term) → In n (subs t) → high_term n ≤ m
  high_subs (unknown x) m l n (inl e) = let q = ap high_term e in omega arith
  high_subs (unknown x) m l n (inr i) = absurd i
  high_subs (con h ts) m l n (inl e) = let q = ap high_term e in omega arith
  high_subs (con h ts) m l n (inr i) = high_subss ts m (omega arith) n i

  high_subss : (ts : Terms) (m : ℕ) → high_terms ts ≤ m → (n : Term) → In n (subss ts) → high_term n ≤ m
  high_subss nil m l n i = absurd i
  high_subss (cons t ts) m l n i = high_join (subs t) (subss ts) m (λ c j. high_subs t m (omega arith) c j) (λ c j. high_subss ts m (omega arith) c j) n i

high_univ : (P : Pairs Term) (m : ℕ) → high_pairs P ≤ m → (n : Term) → In n (univ P) → high_term n ≤ m
unfolding univ high_pairs
high_univ end m l n i = absurd i
high_univ (pair a b P) m l n i =
    high_join (subs a) (join (subs b) (univ P)) m (high_subs a m (omega arith)) (high_join (subs b) (univ P) m (high_subs b m (omega arith)) (high_univ P m (omega arith))) n i

high_shape : (n : Term) (h : Former) (cs : List Term) (m : ℕ) → high_term n ≤ m → view_term n ≡ shape h cs → high_former h ≤ m
unfolding view_term high_term
high_shape (unknown x) h cs m l e = let z : ◌≡◌ {A = ℕ} 0 1 = cc in absurd (omega arith)
high_shape (con k ts) h cs m l e = let p : k ≡ h = cc in let q = ap high_former p in omega arith

-- What is not among the linked terms stands for itself.
rep_out : (P : Pairs Term) (L : Pairs Term) → AllP (λ a b. In a (us P) × In b (us P)) L → (n : Term) → (rep same_term L n ≡ n) ⊎ In n (us P)
unfolding rep swap
rep_out P end h n = inl refl
rep_out P (pair a b L) h n = ⊎_elim (λ e. go e (same_term (rep same_term L n) a) refl) inr (rep_out P L h.1 n)
  where
    go : rep same_term L n ≡ n → (c : Bool) → same_term (rep same_term L n) a ≡ c → ((elim c as (λ x. Term) [ true ↦ b | false ↦ rep same_term L n ]) ≡ n) ⊎ In n (us P)
    go e true q = inr (subst (λ z. In z (us P)) (sym (same_term_eq (rep same_term L n) a q) ∙ e) h.0.0)
    go e false q = inl e

module _ (P : Pairs Term) (K : Links P) (B : ℕ) (l : high_pairs P ≤ B) (ρ : ℕ → Inf) (s : Solves (under_inf ρ) P) where
  abbrev r : Term → Term
  r = rep same_term K.L

  by_class : (n : Term) → under_inf ρ n ≡ under_inf ρ (r n)
  by_class n =
      follows_inf P ρ s n (r n) (rep_follows Term same_term same_term_eq same_term_ne view_term P K.L
      (merged_follows Term same_term same_term_eq same_term_ne view_term P (length (us P)) K.L K.is) n)

  base_at : (t : Term) → view_term t ≡ unk → fill B ρ (stand B t) ≡ under_inf ρ t
  unfolding view_term stand eval
  base_at (unknown y) e = fill_stand B ρ y
  base_at (con h ts) e = let z : ◌≡◌ {A = ℕ} 0 1 = cc in absurd (omega arith)

  linked : (x : ℕ) → In (unknown x) (us P) → fill B ρ (solution_by P K (stand B) x) ≡ under_inf ρ (unknown x)
  unfolding solution_by
  linked x i =
      fill_at r view_term (λ n. In n (us P)) (rep_us P K.L K.is) (λ n h cs j e c k. univ_kids P n h cs j e c k) (stand B) B ρ (under_inf ρ) (λ n j. by_class n) (inf_term ρ)
      (λ n h cs j e. high_shape n h cs B (high_univ P B l n j) e) (λ n j e. base_at (r n) e) (length (us P)) (unknown x) i (K.bound (unknown x) i)

  -- EVERY SOLUTION of possibly infinite types is the one with stand-ins, filled.
  pub fill_solution : (x : ℕ) → fill B ρ (solution_by P K (stand B) x) ≡ ρ x
  unfolding eval stand
  fill_solution x = ⊎_elim
      (λ e. ap (fill B ρ) (by_open P K (stand B) x e) ∙ fill_stand B ρ x)
      (λ i. linked x i)
      (rep_out P K.L (links_in Term same_term same_term_eq same_term_ne view_term P (us P) (univ_kids P) K.L (univ_all P) K.is) (unknown x))
