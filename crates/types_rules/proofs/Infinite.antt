-- Possibly infinite types: their formers are one-to-one, types are among them, and different formers stand side by side exactly where not even such types fit.
use Prim.Native.Nat.{suc, zero, ℕ}
use lib.Dec.{eqb}
use lib.ListN.{length, length-map}
use mathlib.Core.Bool.{Bool, false, true}
use mathlib.Core.List.{List, [], ◌∷◌, map}
use mathlib.Core.Logic.{◌↔◌}
use mathlib.Core.Option.{Option, some}
use mathlib.Core.Path.{◌∙◌, ◌≡◌, ap, ap₂, fun_ext, refl, subst, sym}
use native.Mathlib.Omega.{arith}
use Rattle.types_rules.proofs.Classify.{classify_right, run, same_term_eq, same_term_ne, univ_all, univ_kids, us}
use Rattle.types_rules.proofs.Closed.{class_covers, class_parts, idem}
use Rattle.types_rules.proofs.Finite.{map_by, sat_by}
use Rattle.types_rules.proofs.Follows.{apart_clash, enough, map_len, merged_closed}
use Rattle.types_rules.proofs.Rational.{cons_0, cons_1}
use Rattle.types_rules.proofs.Transfer.{follows_holds}
use Rattle.types_rules.specs.Classes.{Closed, Shape, rep}
use Rattle.types_rules.specs.Classify.{Out, Right, Verdict, apart, clashing, classify, endless, merged, same_term, solvable, spent, to_list, view_term}
use Rattle.types_rules.specs.Component.{component, pick}
use Rattle.types_rules.specs.Equations.{Pairs, Solves, end, pair}
use Rattle.types_rules.specs.Follows.{Clash, Follows, View, shape, unk}
use Rattle.types_rules.specs.Former.{Former, identifiers}
use Rattle.types_rules.specs.Infinite.{Inf, Info, at_path, component_inf, eval, evals, info, mk_i, nothing, place_inf, top_inf, under_inf, whole, wholes}
use Rattle.types_rules.specs.Types.{Term, Terms, Ty, Tys, con, cons, nil, node, tcons, tnil, under, unders, unknown}

pub evals_map : {D : Type 0} (build : Former → List D → D) (σ : ℕ → D) (ts : Terms) → evals build σ ts ≡ map (eval build σ) (to_list ts)
unfolding eval to_list
evals_map build σ nil = refl
evals_map build σ (cons t ts) = ap (λ l. eval build σ t ∷ l) (evals_map build σ ts)

info_0 : (h k : Former) (n m : ℕ) → info h n ≡ info k m → h ≡ k
info_0 h k n m q = cc

info_1 : (h k : Former) (n m : ℕ) → info h n ≡ info k m → n ≡ m
info_1 h k n m q = cc

pub mk_i_h : (h k : Former) (a b : List Inf) → mk_i h a ≡ mk_i k b → h ≡ k
unfolding mk_i
mk_i_h h k a b q = info_0 _ _ _ _ (ap (λ d. d []) q)

pub mk_i_len : (h k : Former) (a b : List Inf) → mk_i h a ≡ mk_i k b → length a ≡ length b
unfolding mk_i
mk_i_len h k a b q = info_1 _ _ _ _ (ap (λ d. d []) q)

at_ext : (a b : List Inf) → length a ≡ length b → ((i : ℕ) (p : List ℕ) → at_path (λ d. d p) a i ≡ at_path (λ d. d p) b i) → a ≡ b
unfolding at_path
at_ext [] [] l h = refl
at_ext [] (y ∷ b) l h = absurd (omega arith)
at_ext (x ∷ a) [] l h = absurd (omega arith)
at_ext (x ∷ a) (y ∷ b) l h = ap₂ ◌∷◌ (fun_ext (λ p. h zero p)) (at_ext a b (omega arith) (λ i p. h (suc i) p))

pub mk_i_c : (h k : Former) (a b : List Inf) → mk_i h a ≡ mk_i k b → a ≡ b
unfolding mk_i
mk_i_c h k a b q = at_ext a b (mk_i_len h k a b q) (λ i p. ap (λ d. d (i ∷ p)) q)

-- The possibly infinite type of a node: what stands at each path from it, d where it ends at an unknown.
unfoldable pub top : {N : Type 0} → Info → View N → Info
top d unk = d
top d (shape h cs) = info h (length cs)

unfoldable pub kid : {N : Type 0} → (N → Info) → ℕ → Info → View N → Info
kid f i d unk = d
kid f i d (shape h cs) = at_path f cs i

unfoldable pub path : {N : Type 0} → (N → N) → (N → View N) → (N → Inf) → List ℕ → N → Info
path r view β [] n = top (β (r n) []) (view (r n))
path r view β (i ∷ p) n = kid (λ c. path r view β p c) i (β (r n) (i ∷ p)) (view (r n))

at_map : {N D : Type 0} (g : N → D) (f : D → Info) (cs : List N) (i : ℕ) → at_path (λ c. f (g c)) cs i ≡ at_path f (map g cs) i
unfolding at_path
at_map g f [] i = refl
at_map g f (c ∷ cs) zero = refl
at_map g f (c ∷ cs) (suc i) = at_map g f cs i

module _ (N : Type 0) (same : N → N → Bool) (same-eq : (a b : N) → same a b ≡ true → a ≡ b) (same-ne : (a b : N) → same a b ≡ false → a ≡ b → ⊥)
    (view : N → View N) (P₀ L : Pairs N) (C : Closed same view P₀ L end) (β : N → Inf) where
  abbrev r : N → N
  r = rep same L

  abbrev pub inf : N → Inf
  inf n p = path r view β p n

  path_by : (p : List ℕ) (a b : N) → r a ≡ r b → path r view β p a ≡ path r view β p b
  unfolding path
  path_by [] a b e = ap (λ z. top (β z []) (view z)) e
  path_by (i ∷ p) a b e = ap (λ z. kid (λ c. path r view β p c) i (β z (i ∷ p)) (view z)) e

  inf_by : (a b : N) → r a ≡ r b → inf a ≡ inf b
  inf_by a b e = fun_ext (λ p. path_by p a b e)

  fits_p : (n : N) (h : Former) (cs : List N) → view n ≡ shape h cs → (v : View N) → view (r n) ≡ v → (p : List ℕ) → path r view β p n ≡ mk_i h (map inf cs) p
  unfolding path mk_i top kid
  fits_p n h cs vn unk e p = absurd (subst (Shape) e (C.shaped n (subst (Shape) (sym vn) tt)))
  fits_p n h cs vn (shape k ds) e [] =
      let re = idem N same same-eq same-ne L C.wf n in
      ap (top (β (r n) [])) e ∙ ap₂ info (C.heads (r n) n k h ds cs e vn re)
      (map_len r ds cs (class_parts N same same-eq same-ne view P₀ L C (r n) n k h ds cs e vn re) ∙ sym (length-map cs inf))
  fits_p n h cs vn (shape k ds) e (i ∷ p) =
      let re = idem N same same-eq same-ne L C.wf n in
      ap (kid (λ c. path r view β p c) i (β (r n) (i ∷ p))) e ∙ at_map inf (λ d. d p) ds i
      ∙ ap (λ l. at_path (λ d. d p) l i) (map_by r inf inf_by ds cs (class_parts N same same-eq same-ne view P₀ L C (r n) n k h ds cs e vn re))

  -- LAW F: without a clash possibly infinite types fit, with any at the unknowns.
  pub inf_fits : (n : N) (h : Former) (cs : List N) → view n ≡ shape h cs → inf n ≡ mk_i h (map inf cs)
  inf_fits n h cs vn = fun_ext (λ p. fits_p n h cs vn (view (r n)) refl p)

  pub inf_sat : Solves inf P₀
  inf_sat = sat_by r inf inf_by P₀ (class_covers N same same-eq same-ne view P₀ L C)

  unknown_p : (n : N) → view (r n) ≡ unk → (p : List ℕ) → path r view β p n ≡ β (r n) p
  unfolding path top kid
  unknown_p n e [] = ap (top (β (r n) [])) e
  unknown_p n e (i ∷ p) = ap (kid (λ c. path r view β p c) i (β (r n) (i ∷ p))) e

  pub inf_unknown : (n : N) → view (r n) ≡ unk → inf n ≡ β (r n)
  inf_unknown n e = fun_ext (λ p. unknown_p n e p)

pub inf_term : (ρ : ℕ → Inf) (n : Term) (h : Former) (cs : List Term) → view_term n ≡ shape h cs → under_inf ρ n ≡ mk_i h (map (under_inf ρ) cs)
unfolding eval view_term
inf_term ρ (unknown x) h cs e = let z : ◌≡◌ {A = ℕ} 0 1 = cc in absurd (omega arith)
inf_term ρ (con k ts) h cs e =
    let p : k ≡ h = cc in
    let q : to_list ts ≡ cs = cc in
    ap (mk_i k) (evals_map mk_i ρ ts) ∙ ap₂ (λ x l. mk_i x (map (under_inf ρ) l)) p q

-- What follows holds in possibly infinite types too.
pub follows_inf : (P : Pairs Term) (ρ : ℕ → Inf) → Solves (under_inf ρ) P → (a b : Term) → Follows view_term P a b → under_inf ρ a ≡ under_inf ρ b
follows_inf P ρ s a b f = follows_holds mk_i mk_i_c view_term P (under_inf ρ) (inf_term ρ) s a b f

-- Two terms of one possibly infinite type have one former and as many parts.
pub one_former : (ρ : ℕ → Inf) (h g : Former) (us vs : Terms) → under_inf ρ (con h us) ≡ under_inf ρ (con g vs) → (h ≡ g) × (length (to_list us) ≡ length (to_list vs))
unfolding view_term
one_former ρ h g us vs e =
    let w = sym (inf_term ρ (con h us) h (to_list us) refl) ∙ e ∙ inf_term ρ (con g vs) g (to_list vs) refl in
    (mk_i_h _ _ _ _ w, sym (length-map (to_list us) (under_inf ρ)) ∙ mk_i_len _ _ _ _ w ∙ length-map (to_list vs) (under_inf ρ))

-- Types are among the possibly infinite ones: two are one where they are one there, and solutions stay solutions.
mutual
  unfolding whole

  pub whole_one : (g k : Ty) → whole g ≡ whole k → g ≡ k
  whole_one (node h gs) (node l ks) e = ap₂ node (mk_i_h _ _ _ _ e) (wholes_one gs ks (mk_i_c _ _ _ _ e))

  wholes_one : (gs ks : Tys) → wholes gs ≡ wholes ks → gs ≡ ks
  wholes_one tnil tnil e = refl
  wholes_one tnil (tcons k ks) e = let z : ◌≡◌ {A = ℕ} 0 1 = cc in absurd (omega arith)
  wholes_one (tcons g gs) tnil e = let z : ◌≡◌ {A = ℕ} 0 1 = cc in absurd (omega arith)
  wholes_one (tcons g gs) (tcons k ks) e = ap₂ tcons (whole_one g k (cons_0 _ _ _ _ e)) (wholes_one gs ks (cons_1 _ _ _ _ e))

mutual
  unfolding whole under eval

  pub whole_under : (σ : ℕ → Ty) (t : Term) → whole (under σ t) ≡ under_inf (λ x. whole (σ x)) t
  whole_under σ (unknown x) = refl
  whole_under σ (con h ts) = ap (mk_i h) (wholes_under σ ts)

  wholes_under : (σ : ℕ → Ty) (ts : Terms) → wholes (unders σ ts) ≡ evals mk_i (λ x. whole (σ x)) ts
  wholes_under σ nil = refl
  wholes_under σ (cons t ts) = ap₂ ◌∷◌ (whole_under σ t) (wholes_under σ ts)

pub whole_solves : (σ : ℕ → Ty) (P : Pairs Term) → Solves (under σ) P ↔ Solves (under_inf (λ x. whole (σ x))) P
whole_solves σ end = (λ h. tt, λ h. tt)
whole_solves σ (pair a b P) =
    let r = whole_solves σ P in (
      λ h. (sym (whole_under σ a) ∙ ap whole h.0 ∙ whole_under σ b, r.0 h.1),
      λ h. (whole_one _ _ (whole_under σ a ∙ h.0 ∙ sym (whole_under σ b)), r.1 h.1),
    )

-- The component of a term.
some_inj : (a b : Term) → some a ≡ some b → a ≡ b
some_inj a b q = cc

place_some : (ρ : ℕ → Inf) (c : ℕ) (is : List ℕ) (ts : Terms) (u : Term) (e : ℕ → Inf) → ((k : ℕ) (p : List ℕ) → e k p ≡ at_path (λ d. d p) (evals mk_i ρ ts) k) → pick c is ts ≡ some u →
    place_inf c is (length (evals mk_i ρ ts)) e ≡ some (under_inf ρ u)
unfolding place_inf pick eval at_path
place_some ρ c [] ts u e h q = let z : ◌≡◌ {A = ℕ} 0 1 = cc in absurd (omega arith)
place_some ρ c (i ∷ is) nil u e h q = let z : ◌≡◌ {A = ℕ} 0 1 = cc in absurd (omega arith)
place_some ρ c (i ∷ is) (cons t ts) u e h q = go (eqb i c) q (λ r. place_some ρ c is ts u (λ k. e (suc k)) (λ k p. h (suc k) p) r)
  where
    go : (b : Bool) → (elim b as (λ x. Option Term) [ true ↦ some t | false ↦ pick c is ts ]) ≡ some u →
        (pick c is ts ≡ some u → place_inf c is (length (evals mk_i ρ ts)) (λ k. e (suc k)) ≡ some (under_inf ρ u)) →
        (elim b as (λ x. Option Inf) [ true ↦ some (e zero) | false ↦ place_inf c is (length (evals mk_i ρ ts)) (λ k. e (suc k)) ]) ≡ some (under_inf ρ u)
    go true r f = ap some (fun_ext (λ p. h zero p)) ∙ ap (λ z. some (under_inf ρ z)) (some_inj t u r)
    go false r f = f r

pub component_inf_lem : (ρ : ℕ → Inf) (c : ℕ) (t u : Term) → component c t ≡ some u → component_inf c (under_inf ρ t) ≡ some (under_inf ρ u)
unfolding component component_inf top_inf eval mk_i
component_inf_lem ρ c (unknown x) u e = let z : ◌≡◌ {A = ℕ} 0 1 = cc in absurd (omega arith)
component_inf_lem ρ c (con h ts) u e = place_some ρ c (identifiers h) ts u _ (λ k p. refl) e

-- Without a clash the classes are possibly infinite types that fit.
module _ (P L : Pairs Term) (C : Closed same_term view_term P L end) where
  abbrev types : Term → Inf
  types = inf Term same_term same_term_eq same_term_ne view_term P L C (λ n p. nothing)

  abbrev fit : ℕ → Inf
  fit x = types (unknown x)

  mutual
    unfolding eval view_term to_list

    fit_at : (t : Term) → under_inf fit t ≡ types t
    fit_at (unknown x) = refl
    fit_at (con h ts) = ap (mk_i h) (fit_ats ts) ∙ sym (inf_fits Term same_term same_term_eq same_term_ne view_term P L C (λ n p. nothing) (con h ts) h (to_list ts) refl)

    fit_ats : (ts : Terms) → evals mk_i fit ts ≡ map types (to_list ts)
    fit_ats nil = refl
    fit_ats (cons t ts) = ap₂ ◌∷◌ (fit_at t) (fit_ats ts)

  fit_sat : (Q : Pairs Term) → Solves types Q → Solves (under_inf fit) Q
  fit_sat end h = tt
  fit_sat (pair a b Q) h = (fit_at a ∙ h.0 ∙ sym (fit_at b), fit_sat Q h.1)

  fits : (ρ : ℕ → Inf) × Solves (under_inf ρ) P
  fits = (fit, fit_sat P (inf_sat Term same_term same_term_eq same_term_ne view_term P L C (λ n p. nothing)))

pub infinite_fits : (P : Pairs Term) → (Clash view_term P → ⊥) → (ρ : ℕ → Inf) × Solves (under_inf ρ) P
infinite_fits P free = go (run P) refl
  where
    go : (o : Out Term) → run P ≡ o → (ρ : ℕ → Inf) × Solves (under_inf ρ) P
    go apart e = absurd (free (apart_clash Term same_term same_term_eq same_term_ne view_term P (length (us P)) e))
    go spent e = absurd (enough Term same_term same_term_eq same_term_ne view_term P (us P) (univ_kids P) (univ_all P) e)
    go (merged L) e = fits P L (merged_closed Term same_term same_term_eq same_term_ne view_term P (length (us P)) L e)

pub clash_none : (P : Pairs Term) → Clash view_term P → (ρ : ℕ → Inf) → Solves (under_inf ρ) P → ⊥
clash_none P c ρ s =
    let w = sym (inf_term ρ c.n c.h c.cs c.vn) ∙ follows_inf P ρ s c.n c.m c.meet ∙ inf_term ρ c.m c.g c.ds c.vm in
    c.differ (mk_i_h _ _ _ _ w) (sym (length-map c.cs (under_inf ρ)) ∙ mk_i_len _ _ _ _ w ∙ length-map c.ds (under_inf ρ))

-- By meaning (document 02, ask 10): different formers stand side by side exactly where not even possibly infinite types fit.
pub side_by_side : (P : Pairs Term) → Clash view_term P ↔ ((ρ : ℕ → Inf) → Solves (under_inf ρ) P → ⊥)
side_by_side P = (λ c ρ s. clash_none P c ρ s, λ f. go f (classify P) (classify_right P))
  where
    misfit : ((ρ : ℕ → Inf) → Solves (under_inf ρ) P → ⊥) → (Clash view_term P → ⊥) → ⊥
    misfit f free = let w = infinite_fits P free in f w.0 w.1

    go : ((ρ : ℕ → Inf) → Solves (under_inf ρ) P → ⊥) → (v : Verdict) → Right P v → Clash view_term P
    go f solvable r = absurd (misfit f r.1)
    go f clashing r = r.0
    go f endless r = absurd (misfit f r.0)
