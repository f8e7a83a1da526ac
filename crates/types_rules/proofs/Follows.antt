-- Clashes follow from the equations; without one, what follows is in one class; as many merges as there are nodes are enough.
use Prim.Native.Nat.{◌+◌, ◌<◌, ◌≤◌, suc, ℕ}
use lib.ListN.{length}
use mathlib.Core.Bool.{Bool, false, true}
use mathlib.Core.List.{List, [], ◌∷◌, map}
use mathlib.Core.Logic.{inl, inr}
use mathlib.Core.Option.{none, some}
use mathlib.Core.Path.{◌∙◌, ◌≡◌, ap, refl, subst, sym}
use native.Mathlib.Omega.{arith}
use Rattle.types_rules.proofs.Closed.{Fine, class_covers, class_parts, closed_start, idem, outer_fine}
use Rattle.types_rules.proofs.Rational.{cons_0, cons_1, swap_cases, swap_hit}
use Rattle.types_rules.proofs.Run.{Keeps, outer_run}
use Rattle.types_rules.proofs.Terms.{bool_no}
use Rattle.types_rules.specs.Classes.{Closed, Wf, rep, swap, zip_n}
use Rattle.types_rules.specs.Classify.{Out, apart, merge_levels, merged, spent}
use Rattle.types_rules.specs.Equations.{AllP, In, InP, Pairs, Solves, end, pair}
use Rattle.types_rules.specs.Follows.{Clash, Follows, View, matching, parts, reflexive, shape, stated, symmetric, transitive}
use Rattle.types_rules.specs.Former.{Former}

pub zip_len : {N : Type 0} (cs ds : List N) (P : Pairs N) → zip_n cs ds P ≡ none → length cs ≡ length ds → ⊥
unfolding zip_n
zip_len [] [] P e l = let z : ◌≡◌ {A = ℕ} 0 1 = cc in omega arith
zip_len [] (d ∷ ds) P e l = omega arith
zip_len (c ∷ cs) [] P e l = omega arith
zip_len (c ∷ cs) (d ∷ ds) P e l = zip_len cs ds (pair c d P) e (omega arith)

pub zip_all : {N : Type 0} (R : N → N → Type 0) (cs ds : List N) (P P' : Pairs N) → zip_n cs ds P ≡ some P' → AllP R (parts cs ds) → AllP R P → AllP R P'
unfolding zip_n
zip_all R [] [] P P' e h k = let p : P ≡ P' = cc in subst (AllP R) p k
zip_all R [] (d ∷ ds) P P' e h k = let z : ◌≡◌ {A = ℕ} 0 1 = cc in absurd (omega arith)
zip_all R (c ∷ cs) [] P P' e h k = let z : ◌≡◌ {A = ℕ} 0 1 = cc in absurd (omega arith)
zip_all R (c ∷ cs) (d ∷ ds) P P' e h k = zip_all R cs ds (pair c d P) P' e h.1 (h.0, k)

pub all_in_lem : {N : Type 0} (R : N → N → Type 0) (P : Pairs N) → ((a b : N) → InP a b P → R a b) → AllP R P
all_in_lem R end f = tt
all_in_lem R (pair a b P) f = (f a b (inl (refl, refl)), all_in_lem R P (λ c d i. f c d (inr i)))

pub sat_in : {N D : Type 0} (σ : N → D) (P : Pairs N) → Solves σ P → (a b : N) → InP a b P → σ a ≡ σ b
sat_in σ end h a b i = absurd i
sat_in σ (pair c d P) h a b (inl e) = ap σ e.0 ∙ h.0 ∙ ap σ (sym e.1)
sat_in σ (pair c d P) h a b (inr i) = sat_in σ P h.1 a b i

pub map_in : {N D : Type 0} (σ : N → D) (cs ds : List N) → map σ cs ≡ map σ ds → (a b : N) → InP a b (parts cs ds) → σ a ≡ σ b
map_in σ [] ds e a b i = absurd i
map_in σ (c ∷ cs) [] e a b i = absurd i
map_in σ (c ∷ cs) (d ∷ ds) e a b (inl q) = ap σ q.0 ∙ cons_0 _ _ _ _ e ∙ ap σ (sym q.1)
map_in σ (c ∷ cs) (d ∷ ds) e a b (inr i) = map_in σ cs ds (cons_1 _ _ _ _ e) a b i

pub map_len : {N D : Type 0} (σ : N → D) (cs ds : List N) → map σ cs ≡ map σ ds → length cs ≡ length ds
map_len σ [] [] e = refl
map_len σ [] (d ∷ ds) e = let z : ◌≡◌ {A = ℕ} 0 1 = cc in absurd (omega arith)
map_len σ (c ∷ cs) [] e = let z : ◌≡◌ {A = ℕ} 0 1 = cc in absurd (omega arith)
map_len σ (c ∷ cs) (d ∷ ds) e = ap suc (map_len σ cs ds (cons_1 _ _ _ _ e))

module _ (N : Type 0) (same : N → N → Bool) (same-eq : (a b : N) → same a b ≡ true → a ≡ b) (same-ne : (a b : N) → same a b ≡ false → a ≡ b → ⊥)
    (view : N → View N) (P₀ : Pairs N) where
  abbrev pub F : N → N → Type 0
  F = Follows view P₀

  pub rep_follows : (L : Pairs N) → AllP F L → (n : N) → F n (rep same L n)
  unfolding rep
  rep_follows end h n = reflexive
  rep_follows (pair a b L) h n =
      swap_cases N same same-eq same-ne a b (rep same L n) _
      (λ e r. subst (λ z. F n z) (sym r) (transitive (rep_follows L h.1 n) (subst (λ z. F z b) (sym e) h.0)))
      (λ e r. subst (λ z. F n z) (sym r) (rep_follows L h.1 n))

  abbrev Found : Out N → Type 0
  Found (merged L) = AllP F L
  Found apart = Clash view P₀
  Found spent = Unit {0}

  abbrev Inv : ℕ → Pairs N → Pairs N → Type 0
  Inv k L P = AllP F L × AllP F P

  pub reps : (L P : Pairs N) (a b : N) → AllP F L × (F a b × AllP F P) → F (rep same L a) (rep same L b)
  reps L P a b i = transitive (symmetric (rep_follows L i.0 a)) (transitive i.1.0 (rep_follows L i.0 b))

  keeps : Keeps N same same-eq same-ne view Inv Found
  keeps = record {
    fin = λ k L i. i.0;
    skip = λ k L P a b i e. (i.0, i.1.1);
    left = λ k L P a b i ne v. ((reps L P a b i, i.0), i.1.1);
    right = λ k L P a b i ne v. ((symmetric (reps L P a b i), i.0), i.1.1);
    join = λ k L P P' a b h g cs ds i ne va vb e z.
        ((reps L P a b i, i.0), zip_all F cs ds P P' z (all_in_lem F (parts cs ds) (λ c d q. matching (rep same L a) (rep same L b) g cs ds (va ∙ ap (λ x. shape x cs) e) vb (reps L P a b i) q)) i.1.1);
    bad = λ k L P a b h g cs ds i va vb e. record {
      n = rep same L a;
      m = rep same L b;
      h = h;
      g = g;
      cs = cs;
      ds = ds;
      vn = va;
      vm = vb;
      meet = reps L P a b i;
      differ = λ q l. zip_len cs ds P (e q) l;
    };
    dry = λ L P a b i ne. tt;
  }

  -- LAW C1: `apart` only where two different formers meet.
  pub apart_clash : (k : ℕ) → merge_levels same view k end P₀ ≡ apart → Clash view P₀
  apart_clash k e = subst Found e (outer_run N same same-eq same-ne view Inv Found keeps k end P₀ (tt, all_in_lem F P₀ (λ a b i. stated i)))

  -- Every link follows from the equations, and so does what stands for a node.
  pub merged_follows : (k : ℕ) (L : Pairs N) → merge_levels same view k end P₀ ≡ merged L → AllP F L
  merged_follows k L e = subst Found e (outer_run N same same-eq same-ne view Inv Found keeps k end P₀ (tt, all_in_lem F P₀ (λ a b i. stated i)))

  -- LAW C2: where it ends with links, what follows is in one class, and no two different formers meet.
  pub follows_class : (L : Pairs N) → Closed same view P₀ L end → (a b : N) → F a b → rep same L a ≡ rep same L b
  follows_class L C a b (stated i) = sat_in (rep same L) P₀ (class_covers N same same-eq same-ne view P₀ L C) a b i
  follows_class L C a b reflexive = refl
  follows_class L C a b (symmetric f) = sym (follows_class L C b a f)
  follows_class L C a b (transitive {b = c} f g) = follows_class L C a c f ∙ follows_class L C c b g
  follows_class L C a b (matching n m h cs ds vn vm f i) =
      map_in (rep same L) cs ds (class_parts N same same-eq same-ne view P₀ L C n m h h cs ds vn vm (follows_class L C n m f)) a b i

  pub merged_closed : (k : ℕ) (L : Pairs N) → merge_levels same view k end P₀ ≡ merged L → Closed same view P₀ L end
  merged_closed k L e = subst (Fine N same same-eq same-ne view P₀) e (outer_fine N same same-eq same-ne view P₀ k end P₀ (closed_start N same same-eq same-ne view P₀))

  pub merged_no_clash : (k : ℕ) (L : Pairs N) → merge_levels same view k end P₀ ≡ merged L → Clash view P₀ → ⊥
  merged_no_clash k L e c =
      let C = merged_closed k L e in
      let q = follows_class L C c.n c.m c.meet in
      c.differ (C.heads c.n c.m c.h c.g c.cs c.ds c.vn c.vm q)
      (map_len (rep same L) c.cs c.ds (class_parts N same same-eq same-ne view P₀ L C c.n c.m c.h c.g c.cs c.ds c.vn c.vm q))

  -- LAW C3: as many merges as there are nodes are enough.
  abbrev pub bit : Bool → ℕ
  bit true = 1
  bit false = 0

  unfoldable pub roots : Pairs N → List N → ℕ
  roots L [] = 0
  roots L (u ∷ us) = bit (same (rep same L u) u) + roots L us

  bit_le : (c d : Bool) → (c ≡ true → d ≡ true) → bit c ≤ bit d
  bit_le true true h = omega arith
  bit_le true false h = absurd (bool_no false (h refl) refl)
  bit_le false true h = omega arith
  bit_le false false h = omega arith

  same_refl : (a b : N) → a ≡ b → same a b ≡ true
  same_refl a b e = go (same a b) refl
    where
      go : (c : Bool) → same a b ≡ c → c ≡ true
      go true q = refl
      go false q = absurd (same-ne a b q e)

  module _ (L : Pairs N) (a b : N) (ra : rep same L a ≡ a) (rb : rep same L b ≡ b) (ne : b ≡ a → ⊥) where
    root_old : (u : N) → same (rep same (pair a b L) u) u ≡ true → same (rep same L u) u ≡ true
    unfolding rep
    root_old u e =
        swap_cases N same same-eq same-ne a b (rep same L u) _
        (λ q r. absurd (ne (sym rb ∙ ap (rep same L) (sym r ∙ same-eq _ _ e) ∙ q)))
        (λ q r. same_refl _ _ (sym r ∙ same-eq _ _ e))

    pub roots_le : (us : List N) → roots (pair a b L) us ≤ roots L us
    unfolding roots
    roots_le [] = omega arith
    roots_le (u ∷ us) = omega (arith, bit_le _ _ (root_old u), roots_le us)

    root_a_lem : bit (same (rep same (pair a b L) a) a) < bit (same (rep same L a) a)
    unfolding rep
    root_a_lem = go (same (swap same a b (rep same L a)) a) (same (rep same L a) a) refl (same_refl _ _ ra)
      where
        go : (c d : Bool) → same (swap same a b (rep same L a)) a ≡ c → d ≡ true → bit c < bit d
        go true true e q = absurd (ne (sym (swap_hit N same same-eq same-ne a b (rep same L a) ra) ∙ same-eq _ _ e))
        go false true e q = omega arith
        go c false e q = absurd (bool_no false q refl)

    pub roots_less : (us : List N) → In a us → roots (pair a b L) us < roots L us
    unfolding roots
    roots_less [] i = absurd i
    roots_less (u ∷ us) (inl e) = subst (λ z. bit (same (rep same (pair a b L) z) z) + roots (pair a b L) us < bit (same (rep same L z) z) + roots L us) e (omega (arith, root_a_lem, roots_le us))
    roots_less (u ∷ us) (inr i) = omega (arith, bit_le _ _ (root_old u), roots_less us i)

  pub roots_len : (us : List N) → roots end us ≤ length us
  unfolding roots
  roots_len [] = omega arith
  roots_len (u ∷ us) = omega (arith, bit_le (same (rep same end u) u) true (λ e. refl), bit_one, roots_len us)
    where
      bit_one : bit true ≤ 1
      bit_one = omega arith

  module _ (us : List N) (kids : (n : N) (h : Former) (cs : List N) → In n us → view n ≡ shape h cs → (c : N) → In c cs → In c us) where
    abbrev pub Both : N → N → Type 0
    Both a b = In a us × In b us

    pub rep_in : (L : Pairs N) → AllP Both L → (n : N) → In n us → In (rep same L n) us
    unfolding rep
    rep_in end h n i = i
    rep_in (pair a b L) h n i =
        swap_cases N same same-eq same-ne a b (rep same L n) _
        (λ e r. subst (λ z. In z us) (sym r) h.0.1)
        (λ e r. subst (λ z. In z us) (sym r) (rep_in L h.1 n i))

    abbrev Room : ℕ → Pairs N → Pairs N → Type 0
    Room k L P = Wf same L × AllP Both L × AllP Both P × (roots L us ≤ k)

    abbrev Ended : Out N → Type 0
    Ended (merged L) = AllP Both L
    Ended apart = Unit {0}
    Ended spent = ⊥

    parts_in : (cs ds : List N) → ((c : N) → In c cs → In c us) → ((d : N) → In d ds → In d us) → AllP Both (parts cs ds)
    parts_in [] ds f g = tt
    parts_in (c ∷ cs) [] f g = tt
    parts_in (c ∷ cs) (d ∷ ds) f g = ((f c (inl refl), g d (inl refl)), parts_in cs ds (λ x i. f x (inr i)) (λ x i. g x (inr i)))

    room_keeps : Keeps N same same-eq same-ne view Room Ended
    room_keeps = record {
      fin = λ k L i. i.1;
      skip = λ k L P a b i e. (i.0, i.1, i.2.1, i.3);
      left = λ k L P a b i ne v.
          let ra = idem N same same-eq same-ne L i.0 a in
          let rb = idem N same same-eq same-ne L i.0 b in (
            (ra, rb, λ q. ne (sym q), i.0),
            ((rep_in L i.1 a i.2.0.0, rep_in L i.1 b i.2.0.1), i.1),
            i.2.1,
            omega (arith, i.3, roots_less L (rep same L a) (rep same L b) ra rb (λ q. ne (sym q)) us (rep_in L i.1 a i.2.0.0)),
          );
      right = λ k L P a b i ne v.
          let ra = idem N same same-eq same-ne L i.0 a in
          let rb = idem N same same-eq same-ne L i.0 b in (
            (rb, ra, ne, i.0),
            ((rep_in L i.1 b i.2.0.1, rep_in L i.1 a i.2.0.0), i.1),
            i.2.1,
            omega (arith, i.3, roots_less L (rep same L b) (rep same L a) rb ra ne us (rep_in L i.1 b i.2.0.1)),
          );
      join = λ k L P P' a b h g cs ds i ne va vb e z.
          let ra = idem N same same-eq same-ne L i.0 a in
          let rb = idem N same same-eq same-ne L i.0 b in
          let ia = rep_in L i.1 a i.2.0.0 in
          let ib = rep_in L i.1 b i.2.0.1 in (
            (ra, rb, λ q. ne (sym q), i.0),
            ((ia, ib), i.1),
            zip_all Both cs ds P P' z (parts_in cs ds (kids _ h cs ia va) (kids _ g ds ib vb)) i.2.1,
            omega (arith, i.3, roots_less L (rep same L a) (rep same L b) ra rb (λ q. ne (sym q)) us ia),
          );
      bad = λ k L P a b h g cs ds i va vb e. tt;
      dry = λ L P a b i ne.
          let ra = idem N same same-eq same-ne L i.0 a in
          let rb = idem N same same-eq same-ne L i.0 b in
          omega (arith, i.3, roots_less L (rep same L a) (rep same L b) ra rb (λ q. ne (sym q)) us (rep_in L i.1 a i.2.0.0));
    }

    pub enough : AllP Both P₀ → merge_levels same view (length us) end P₀ ≡ spent → ⊥
    enough h e = subst Ended e (outer_run N same same-eq same-ne view Room Ended room_keeps (length us) end P₀ (tt, tt, h, roots_len us))

    pub links_in : (L : Pairs N) → AllP Both P₀ → merge_levels same view (length us) end P₀ ≡ merged L → AllP Both L
    links_in L h e = subst Ended e (outer_run N same same-eq same-ne view Room Ended room_keeps (length us) end P₀ (tt, tt, h, roots_len us))
