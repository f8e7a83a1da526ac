-- Depths: a finite solution bounds them, the number of nodes is bound enough, and bounded depth gives a solution.
use Prim.Native.Nat.{◌+◌, ◌<◌, ◌≤◌, suc, zero, ℕ}
use lib.ListN.{length}
use mathlib.Core.Bool.{Bool, false, true}
use mathlib.Core.List.{List, [], ◌∷◌, map}
use mathlib.Core.Logic.{◌⊎◌, inl, inr, ⊎_elim}
use mathlib.Core.Path.{◌∙◌, ◌≡◌, ap, ap₂, refl, subst, sym}
use native.Mathlib.Omega.{arith}
use Rattle.types_rules.proofs.Closed.{class_parts, idem, rep_self}
use Rattle.types_rules.proofs.Rational.{cons_0, cons_1}
use Rattle.types_rules.proofs.Terms.{and_i, and_l, and_r, bool_no}
use Rattle.types_rules.specs.Classes.{Closed, Shape, rep}
use Rattle.types_rules.specs.Equations.{In, Pairs, Solves, end, pair}
use Rattle.types_rules.specs.Finite.{allb, bounded, bounded_view, from_list, type_of, type_of_view}
use Rattle.types_rules.specs.Follows.{View, shape, unk}
use Rattle.types_rules.specs.Former.{Former}
use Rattle.types_rules.specs.Types.{Ty, node, size, sizes}

pub all_at : {N : Type 0} (p : N → Bool) (ns : List N) → allb p ns ≡ true → (n : N) → In n ns → p n ≡ true
unfolding allb
all_at p [] e n i = absurd i
all_at p (m ∷ ns) e n (inl q) = ap p q ∙ and_l (p m) (allb p ns) e
all_at p (m ∷ ns) e n (inr i) = all_at p ns (and_r (p m) (allb p ns) e) n i

pub all_of : {N : Type 0} (p : N → Bool) (ns : List N) → ((n : N) → In n ns → p n ≡ true) → allb p ns ≡ true
unfolding allb
all_of p [] f = refl
all_of p (m ∷ ns) f = and_i (p m) (allb p ns) (f m (inl refl)) (all_of p ns (λ n i. f n (inr i)))

pub map_same : {N D : Type 0} (f g : N → D) (ns : List N) → ((n : N) → In n ns → f n ≡ g n) → map f ns ≡ map g ns
map_same f g [] h = refl
map_same f g (m ∷ ns) h = ap₂ ◌∷◌ (h m (inl refl)) (map_same f g ns (λ n i. h n (inr i)))

-- Two lists with the same representatives, and a map that goes by representatives.
pub map_by : {N D : Type 0} (r : N → N) (f : N → D) → ((a b : N) → r a ≡ r b → f a ≡ f b) → (cs ds : List N) → map r cs ≡ map r ds → map f cs ≡ map f ds
map_by r f h [] [] e = refl
map_by r f h [] (d ∷ ds) e = let z : ◌≡◌ {A = ℕ} 0 1 = cc in absurd (omega arith)
map_by r f h (c ∷ cs) [] e = let z : ◌≡◌ {A = ℕ} 0 1 = cc in absurd (omega arith)
map_by r f h (c ∷ cs) (d ∷ ds) e = ap₂ ◌∷◌ (h c d (cons_0 _ _ _ _ e)) (map_by r f h cs ds (cons_1 _ _ _ _ e))

module _ {N : Type 0} (r : N → N) (view : N → View N) where
  bounded_view_mono : (f g : N → Bool) → ((c : N) → f c ≡ true → g c ≡ true) → (v : View N) → bounded_view f v ≡ true → bounded_view g v ≡ true
  unfolding bounded_view
  bounded_view_mono f g h unk e = refl
  bounded_view_mono f g h (shape k cs) e = all_of g cs (λ n i. h n (all_at f cs e n i))

  pub bounded_mono : (d : ℕ) (n : N) → bounded r view d n ≡ true → bounded r view (suc d) n ≡ true
  unfolding bounded
  bounded_mono zero n e = absurd (bool_no false e refl)
  bounded_mono (suc d) n e = bounded_view_mono _ _ (λ c q. bounded_mono d c q) (view (r n)) e

  treev_same : (f g : N → Ty) (p q : N → Bool) → ((c : N) → p c ≡ true → q c ≡ true → f c ≡ g c) → (x : Ty) (v : View N) → bounded_view p v ≡ true → bounded_view q v ≡ true → type_of_view f x v ≡ type_of_view g x v
  unfolding type_of_view bounded_view
  treev_same f g p q h x unk e k = refl
  treev_same f g p q h x (shape k₀ cs) e k = ap (λ l. node k₀ (from_list l)) (map_same f g cs (λ n i. h n (all_at p cs e n i) (all_at q cs k n i)))

  -- Once deep enough, the type does not depend on the depth.
  pub tree_same : (τ : N → Ty) (d e : ℕ) (n : N) → bounded r view d n ≡ true → bounded r view e n ≡ true → type_of r view τ d n ≡ type_of r view τ e n
  unfolding bounded type_of
  tree_same τ zero e n p q = absurd (bool_no false p refl)
  tree_same τ (suc d) zero n p q = absurd (bool_no false q refl)
  tree_same τ (suc d) (suc e) n p q = treev_same _ _ _ _ (λ c p' q'. tree_same τ d e c p' q') (τ (r n)) (view (r n)) p q

  pub tree_by : (τ : N → Ty) (d : ℕ) (a b : N) → r a ≡ r b → type_of r view τ d a ≡ type_of r view τ d b
  unfolding type_of
  tree_by τ zero a b e = ap τ e
  tree_by τ (suc d) a b e = ap (λ z. type_of_view (λ c. type_of r view τ d c) (τ z) (view z)) e

  -- A finite solution bounds the depth.
  module _ (σ : N → Ty) (fits : (n : N) (h : Former) (cs : List N) → view n ≡ shape h cs → σ n ≡ node h (from_list (map σ cs))) (by : (n : N) → σ (r n) ≡ σ n) where
    in_size : (cs : List N) (c : N) → In c cs → size (σ c) ≤ sizes (from_list (map σ cs))
    unfolding from_list size
    in_size [] c i = absurd i
    in_size (d ∷ cs) c (inl e) = omega (arith, ap (λ z. size (σ z)) e)
    in_size (d ∷ cs) c (inr i) = omega (arith, in_size cs c i)

    bounded_view_fin : (d : ℕ) (f : N → Bool) → ((c : N) → size (σ c) ≤ d → f c ≡ true) → (n : N) (v : View N) → view n ≡ v → size (σ n) ≤ suc d → bounded_view f v ≡ true
    unfolding bounded_view size
    bounded_view_fin d f h n unk e l = refl
    bounded_view_fin d f h n (shape k cs) e l = all_of f cs (λ c i. h c (omega (arith, in_size cs c i, ap size (fits n k cs e))))

    size_pos : (g : Ty) → 1 ≤ size g
    unfolding size
    size_pos (node h l) = omega arith

    pub finite_bounded : (d : ℕ) (n : N) → size (σ n) ≤ d → bounded r view d n ≡ true
    unfolding bounded
    finite_bounded zero n l = absurd (omega (arith, size_pos (σ n)))
    finite_bounded (suc d) n l = bounded_view_fin d _ (λ c q. finite_bounded d c q) (r n) (view (r n)) refl (omega (arith, ap size (by n)))

unfoldable plus : ℕ → ℕ → ℕ
plus zero d = d
plus (suc e) d = suc (plus e d)

plus_is : (e d : ℕ) → plus e d ≡ e + d
unfolding plus
plus_is zero d = omega arith
plus_is (suc e) d = omega (arith, plus_is e d)

plus_comm : (e d : ℕ) → plus e d ≡ plus d e
plus_comm e d = omega (arith, plus_is e d, plus_is d e)

-- The count of the nodes of bounded depth: it grows until nothing changes.
unfoldable count : {N : Type 0} → (N → Bool) → List N → ℕ
count p [] = 0
count p (n ∷ ns) = elim (p n) [ true ↦ suc (count p ns) | false ↦ count p ns ]

count_c : {N : Type 0} (p q : N → Bool) (ns : List N) (b c : Bool) → (b ≡ true → c ≡ true) → count p ns ≤ count q ns →
    (elim b as (λ x. ℕ) [ true ↦ suc (count p ns) | false ↦ count p ns ]) ≤ (elim c as (λ x. ℕ) [ true ↦ suc (count q ns) | false ↦ count q ns ])
count_c p q ns true true h l = omega arith
count_c p q ns true false h l = absurd (bool_no false (h refl) refl)
count_c p q ns false true h l = omega arith
count_c p q ns false false h l = l

count_le : {N : Type 0} (p q : N → Bool) → ((n : N) → p n ≡ true → q n ≡ true) → (ns : List N) → count p ns ≤ count q ns
unfolding count
count_le p q h [] = omega arith
count_le p q h (n ∷ ns) = count_c p q ns (p n) (q n) (h n) (count_le p q h ns)

grow_c : {N : Type 0} (p q : N → Bool) (ns : List N) (b c : Bool) → (b ≡ true → c ≡ true) → count p ns ≤ count q ns →
    ((count p ns < count q ns) ⊎ ((m : N) → In m ns → q m ≡ true → p m ≡ true)) → (n : N) → p n ≡ b → q n ≡ c →
    ((elim b as (λ x. ℕ) [ true ↦ suc (count p ns) | false ↦ count p ns ]) < (elim c as (λ x. ℕ) [ true ↦ suc (count q ns) | false ↦ count q ns ]))
    ⊎ ((m : N) → In m (n ∷ ns) → q m ≡ true → p m ≡ true)
grow_c p q ns true false h l k n ep eq = absurd (bool_no false (h refl) refl)
grow_c p q ns false true h l k n ep eq = inl (omega arith)
grow_c p q ns true true h l (inl k) n ep eq = inl (omega arith)
grow_c p q ns false false h l (inl k) n ep eq = inl k
grow_c p q ns true true h l (inr k) n ep eq = inr (λ m i e. ⊎_elim (λ s. ap p s ∙ ep) (λ s. k m s e) i)
grow_c p q ns false false h l (inr k) n ep eq = inr (λ m i e. ⊎_elim (λ s. absurd (bool_no (q m) e (ap q s ∙ eq))) (λ s. k m s e) i)

grow : {N : Type 0} (p q : N → Bool) → ((n : N) → p n ≡ true → q n ≡ true) → (ns : List N) →
    (count p ns < count q ns) ⊎ ((m : N) → In m ns → q m ≡ true → p m ≡ true)
unfolding count
grow p q h [] = inr (λ m i e. absurd i)
grow p q h (n ∷ ns) = grow_c p q ns (p n) (q n) (h n) (count_le p q h ns) (grow p q h ns) n refl refl

full_c : {N : Type 0} (p : N → Bool) (ns : List N) (b : Bool) → count p ns ≤ length ns → suc (length ns) ≤ (elim b as (λ x. ℕ) [ true ↦ suc (count p ns) | false ↦ count p ns ]) → (b ≡ true) × (length ns ≤ count p ns)
full_c p ns true l h = (refl, omega arith)
full_c p ns false l h = absurd (omega arith)

count_len_c : {N : Type 0} (p : N → Bool) (ns : List N) (b : Bool) → count p ns ≤ length ns → (elim b as (λ x. ℕ) [ true ↦ suc (count p ns) | false ↦ count p ns ]) ≤ suc (length ns)
count_len_c p ns true l = omega arith
count_len_c p ns false l = omega arith

count_len : {N : Type 0} (p : N → Bool) (ns : List N) → count p ns ≤ length ns
unfolding count
count_len p [] = omega arith
count_len p (n ∷ ns) = count_len_c p ns (p n) (count_len p ns)

all_full : {N : Type 0} (p : N → Bool) (ns : List N) → length ns ≤ count p ns → (m : N) → In m ns → p m ≡ true
unfolding count
all_full p [] h m i = absurd i
all_full p (n ∷ ns) h m (inl e) = ap p e ∙ (full_c p ns (p n) (count_len p ns) h).0
all_full p (n ∷ ns) h m (inr i) = all_full p ns (full_c p ns (p n) (count_len p ns) h).1 m i

module _ {N : Type 0} (r : N → N) (view : N → View N) (us : List N) (r-in : (n : N) → In n us → In (r n) us)
    (kids : (n : N) (h : Former) (cs : List N) → In n us → view n ≡ shape h cs → (c : N) → In c cs → In c us) where
  Fixed : ℕ → Type 0
  Fixed d = (m : N) → In m us → bounded r view (suc d) m ≡ true → bounded r view d m ≡ true

  fixed_v : (f g : N → Bool) → ((m : N) → In m us → f m ≡ true → g m ≡ true) → (n : N) → In n us → (v : View N) → view n ≡ v → bounded_view f v ≡ true → bounded_view g v ≡ true
  unfolding bounded_view
  fixed_v f g h n i unk e q = refl
  fixed_v f g h n i (shape k cs) e q = all_of g cs (λ c j. h c (kids n k cs i e c j) (all_at f cs q c j))

  fixed_suc : (d : ℕ) → Fixed d → Fixed (suc d)
  unfolding Fixed bounded
  fixed_suc d h m i e = fixed_v _ _ (λ c j q. h c j q) (r m) (r-in m i) (view (r m)) refl e

  either : (d : ℕ) → (d ≤ count (bounded r view d) us) ⊎ Fixed d
  unfolding Fixed
  either zero = inl (omega arith)
  either (suc d) = ⊎_elim
      (λ l. ⊎_elim (λ g. inl (omega arith)) (λ f. inr (unfold Fixed in fixed_suc d f)) (grow (bounded r view d) (bounded r view (suc d)) (bounded_mono r view d) us))
      (λ f. inr (fixed_suc d f))
      (either d)

  fixed_plus : (d : ℕ) → Fixed d → (e : ℕ) → Fixed (plus e d)
  unfolding plus
  fixed_plus d f zero = f
  fixed_plus d f (suc e) = fixed_suc (plus e d) (fixed_plus d f e)

  down : (d : ℕ) → Fixed d → (e : ℕ) (m : N) → In m us → bounded r view (plus e d) m ≡ true → bounded r view d m ≡ true
  unfolding plus Fixed
  down d f zero m i q = q
  down d f (suc e) m i q = down d f e m i (fixed_plus d f e m i q)

  up : (d e : ℕ) (m : N) → bounded r view e m ≡ true → bounded r view (plus d e) m ≡ true
  unfolding plus
  up zero e m q = q
  up (suc d) e m q = bounded_mono r view (plus d e) m (up d e m q)

  -- LAW D: the number of nodes is depth enough.
  pub depth : (e : ℕ) (m : N) → In m us → bounded r view e m ≡ true → bounded r view (length us) m ≡ true
  depth e m i q = ⊎_elim
      (λ l. all_full (bounded r view (length us)) us l m i)
      (λ f. down (length us) f e m i (subst (λ k. bounded r view k m ≡ true) (plus_comm (length us) e) (up (length us) e m q)))
      (either (length us))

pub sat_by : {N D : Type 0} (r : N → N) (f : N → D) → ((a b : N) → r a ≡ r b → f a ≡ f b) → (P : Pairs N) → Solves r P → Solves f P
sat_by r f h end q = tt
sat_by r f h (pair a b P) q = (h a b q.0, sat_by r f h P q.1)

module _ (N : Type 0) (same : N → N → Bool) (same-eq : (a b : N) → same a b ≡ true → a ≡ b) (same-ne : (a b : N) → same a b ≡ false → a ≡ b → ⊥)
    (view : N → View N) (P₀ L : Pairs N) (C : Closed same view P₀ L end) (τ : N → Ty) where
  abbrev r : N → N
  r = rep same L

  fits_v : (d : ℕ) (n : N) (h : Former) (cs : List N) → view n ≡ shape h cs → (v : View N) → view (r n) ≡ v → bounded_view (λ c. bounded r view d c) v ≡ true →
      type_of_view (λ c. type_of r view τ d c) (τ (r n)) v ≡ node h (from_list (map (λ c. type_of r view τ (suc d) c) cs))
  unfolding bounded_view type_of_view
  fits_v d n h cs vn unk e q = absurd (subst (Shape) e (C.shaped n (subst (Shape) (sym vn) tt)))
  fits_v d n h cs vn (shape k ds) e q =
      let re = idem N same same-eq same-ne L C.wf n in
      let hk = C.heads (r n) n k h ds cs e vn re in
      let pq = class_parts N same same-eq same-ne view P₀ L C (r n) n k h ds cs e vn re in
      ap₂ (λ x l. node x (from_list l)) hk
      (map_same _ _ ds (λ c i. tree_same r view τ d (suc d) c (all_at _ ds q c i) (bounded_mono r view d c (all_at _ ds q c i)))
      ∙ map_by r (λ c. type_of r view τ (suc d) c) (λ a b z. tree_by r view τ (suc d) a b z) ds cs pq)

  fits_d : (d : ℕ) (n : N) (h : Former) (cs : List N) → bounded r view d n ≡ true → view n ≡ shape h cs → type_of r view τ d n ≡ node h (from_list (map (λ c. type_of r view τ d c) cs))
  unfolding bounded type_of
  fits_d zero n h cs q vn = absurd (bool_no false q refl)
  fits_d (suc d) n h cs q vn = unfold type_of in (fits_v d n h cs vn (view (r n)) refl q)

  -- LAW E: where the depth is bounded there is a solution, with any types at the unknowns.
  pub solution : (d : ℕ) (n : N) (h : Former) (cs : List N) → bounded r view d n ≡ true → view n ≡ shape h cs → type_of r view τ d n ≡ node h (from_list (map (λ c. type_of r view τ d c) cs))
  solution d n h cs q vn = fits_d d n h cs q vn

  pub solution_sat : (d : ℕ) → Solves (λ c. type_of r view τ d c) P₀
  solution_sat d = sat_by r _ (λ a b e. tree_by r view τ d a b e) P₀ (C.covers r (rep_self N same same-eq same-ne L C.wf) tt)

  pub solution_unknown : (d : ℕ) (n : N) → view (r n) ≡ unk → type_of r view τ d n ≡ τ (r n)
  unfolding type_of
  solution_unknown zero n e = refl
  solution_unknown (suc d) n e = unfold type_of_view in (ap (type_of_view (λ c. type_of r view τ d c) (τ (r n))) e)
