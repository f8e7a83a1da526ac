-- 33 AND 39 BY THE EQUATIONS ALONE: after items that pass, different formers stand side by side exactly where no possibly infinite types meet the items and solve
-- the equations of the node.
use mathlib.Core.Path.{◌≡◌, refl, ap, sym, ◌∙◌, subst}
use mathlib.Core.List.{List, [], ◌∷◌}
use mathlib.Core.Option.{Option, some, none as nothing}
use mathlib.Core.Logic.{◌⊎◌, inl, inr, ⊎_elim}
use Prim.Native.Nat.{ℕ}
use native.Mathlib.Omega.{arith}
use lib.ListN.{length}
use Rattle.reader_rules.specs.Tree.{Paragraph}
use Rattle.types_rules.specs.Former.{Former}
use Rattle.types_rules.specs.Types.{Term, unknown, con, Terms}
use Rattle.types_rules.specs.Equations.{Pairs, end, pair, Solves, InP}
use Rattle.types_rules.specs.Follows.{shape, parts, Clash as ClashBy}
use Rattle.types_rules.specs.Follows.{Follows as FollowsBy, stated as statedBy, reflexive as reflexiveBy, symmetric as symmetricBy, transitive as transitiveBy, matching as matchingBy}
use Rattle.types_rules.specs.Classify.{to_list, view_term}
use Rattle.types_rules.specs.Infinite.{Inf, under_inf, component_inf, eval}
use Rattle.types_rules.specs.Representative.{representative, component_by}
use Rattle.types_rules.specs.Trees.{infinite}
use Rattle.types_rules.proofs.Follows.{map_in}
use Rattle.types_rules.proofs.Infinite.{mk_i_c, inf_term, one_former, component_inf_lem, infinite_fits, side_by_side}
use Rattle.types_rules.proofs.Representative.{stands_follows}
use Rattle.checker_rules.specs.Items.{Items, skip, ◌⨾◌, fresh, equations, equate, select, small, refusal, piece, MeetsIn, Typings, Any, And, Passes, Refuses}
use Rattle.checker_rules.specs.Dictionary.{Dictionary}
use Rattle.checker_rules.specs.Rules.{paragraph_items}
use Rattle.checker_rules.specs.Entries.{extend}
use Rattle.checker_rules.specs.Solving.{join_pairs, with_component, equations_of}
use Rattle.checker_rules.specs.SideBySide.{Stated, Chosen, Follows, stated, chosen, reflexive, symmetric, transitive, matching, Clash, BySides, SidesDecide}
use Rattle.checker_rules.proofs.ItemEquations.{Standing, standing_start, equations_standing, standing_more}

-- ---- what follows from the items holds in every typing that meets them
some_inj : (a b : Inf) → some a ≡ some b → a ≡ b
some_inj a b q = cc

module _ (ρ : ℕ → Inf) where
  solved_in : (P : Pairs Term) (a b : Term) → Solves (under_inf ρ) P → InP a b P → under_inf ρ a ≡ under_inf ρ b
  solved_in end a b s i = absurd i
  solved_in (pair c d P) a b s (inl q) = ap (under_inf ρ) q.0 ∙ s.0 ∙ sym (ap (under_inf ρ) q.1)
  solved_in (pair c d P) a b s (inr i) = solved_in P a b s.1 i

  says : (t : Items) → MeetsIn t infinite ρ → (a b : Term) → Stated t a b → under_inf ρ a ≡ under_inf ρ b
  unfolding MeetsIn Stated
  says skip m a b s = absurd s
  says (t ⨾ u) m a b (inl s) = says t m.0 a b s
  says (t ⨾ u) m a b (inr s) = says u m.1 a b s
  says (fresh x) m a b s = absurd s
  says (equations n es) m a b s = solved_in es a b m s
  says (equate f n c d) m a b s = ap (under_inf ρ) s.0 ∙ m ∙ sym (ap (under_inf ρ) s.1)
  says (select n i c x) m a b s = absurd s
  says (small n c) m a b s = absurd s
  says (refusal f n) m a b s = absurd s
  says (piece n t) m a b s = says t m a b s

  picks : (t : Items) → MeetsIn t infinite ρ → (i : ℕ) (a : Term) (x : ℕ) → Chosen t i a x → component_inf i (under_inf ρ a) ≡ some (ρ x)
  unfolding MeetsIn Chosen
  picks skip m i a x c = absurd c
  picks (t ⨾ u) m i a x (inl c) = picks t m.0 i a x c
  picks (t ⨾ u) m i a x (inr c) = picks u m.1 i a x c
  picks (fresh y) m i a x c = absurd c
  picks (equations n es) m i a x c = absurd c
  picks (equate f n d e) m i a x c = absurd c
  picks (select n j d y) m i a x c = rw (c.0, c.1, c.2) m
  picks (small n d) m i a x c = absurd c
  picks (refusal f n) m i a x c = absurd c
  picks (piece n t) m i a x c = picks t m i a x c

  follows_in : (t : Items) → MeetsIn t infinite ρ → (a b : Term) → Follows t a b → under_inf ρ a ≡ under_inf ρ b
  unfolding eval view_term
  follows_in t m a b (stated s) = says t m a b s
  follows_in t m a b (chosen {u = u} i d e x c f q) = some_inj _ _ (sym (picks t m i d x c) ∙ ap (component_inf i) (follows_in t m d e f) ∙ component_inf_lem ρ i e u q)
  follows_in t m a b reflexive = refl
  follows_in t m a b (symmetric f) = sym (follows_in t m b a f)
  follows_in t m a b (transitive {b = c} f g) = follows_in t m a c f ∙ follows_in t m c b g
  follows_in t m a b (matching h us vs f i) =
      map_in (under_inf ρ) (to_list us) (to_list vs)
      (mk_i_c _ _ _ _ (sym (inf_term ρ (con h us) h (to_list us) refl) ∙ follows_in t m (con h us) (con h vs) f ∙ inf_term ρ (con h vs) h (to_list vs) refl)) a b i

clash_none : (t : Items) (ρ : ℕ → Inf) → MeetsIn t infinite ρ → Clash t → ⊥
clash_none t ρ m c = let w = one_former ρ c.h c.g c.us c.vs (follows_in ρ t m _ _ c.meet) in c.differ w.0 w.1

-- ---- what follows from the solver's equations follows from the items
abbrev Backed : Items → Pairs Term → Type 0
Backed H E = (a b : Term) → InP a b E → Follows H a b

-- A term with a former is that former of its parts.
shaped : (n : Term) (h : Former) (cs : List Term) → view_term n ≡ shape h cs → (ts : Terms) × (n ≡ con h ts) × (to_list ts ≡ cs)
unfolding view_term
shaped (unknown x) h cs e = let z : ◌≡◌ {A = ℕ} 0 1 = cc in absurd (omega arith)
shaped (con k ts) h cs e = let p : k ≡ h = cc in let q : to_list ts ≡ cs = cc in (ts, ap (λ z. con z ts) p, q)

back_by : (H : Items) (E : Pairs Term) → Backed H E → (a b : Term) → FollowsBy view_term E a b → Follows H a b
back_by H E f a b (statedBy i) = f a b i
back_by H E f a b reflexiveBy = reflexive
back_by H E f a b (symmetricBy g) = symmetric (back_by H E f b a g)
back_by H E f a b (transitiveBy {b = c} g h) = transitive (back_by H E f a c g) (back_by H E f c b h)
back_by H E f a b (matchingBy n m h cs ds vn vm g i) =
    let x = shaped n h cs vn in
    let y = shaped m h ds vm in
    matching h x.0 y.0 (subst (λ z. Follows H (con h x.0) z) y.1 (subst (λ z. Follows H z m) x.1 (back_by H E f n m g)))
    (subst (λ z. InP a b (parts z (to_list y.0))) (sym x.2) (subst (λ z. InP a b (parts cs z)) (sym y.2) i))

clash_up : (H : Items) (E : Pairs Term) → Backed H E → ClashBy view_term E → Clash H
clash_up H E f c =
    let x = shaped c.n c.h c.cs c.vn in
    let y = shaped c.m c.g c.ds c.vm in
    record {
      h = c.h;
      g = c.g;
      us = x.0;
      vs = y.0;
      meet = subst (λ z. Follows H (con c.h x.0) z) y.1 (subst (λ z. Follows H z c.m) x.1 (back_by H E f c.n c.m c.meet));
      differ = λ e l. c.differ e (ap length (sym x.2) ∙ l ∙ ap length y.2);
    }

-- What follows grows with what is stated.
more : (H J : Items) → ((a b : Term) → Stated H a b → Stated J a b) → ((i : ℕ) (a : Term) (x : ℕ) → Chosen H i a x → Chosen J i a x) → (a b : Term) → Follows H a b → Follows J a b
more H J s c a b (stated h) = stated (s a b h)
more H J s c a b (chosen i d e x h f q) = chosen i d e x (c i d x h) (more H J s c d e f) q
more H J s c a b reflexive = reflexive
more H J s c a b (symmetric f) = symmetric (more H J s c b a f)
more H J s c a b (transitive {b = d} f g) = transitive (more H J s c a d f) (more H J s c d b g)
more H J s c a b (matching h us vs f i) = matching h us vs (more H J s c _ _ f) i

wider : (H t : Items) (a b : Term) → Follows H a b → Follows (H ⨾ t) a b
unfolding Stated Chosen
wider H t a b f = more H (H ⨾ t) (λ a b s. inl s) (λ i a x c. inl c) a b f

regrouped : (H a b : Items) (c d : Term) → Follows ((H ⨾ a) ⨾ b) c d → Follows (H ⨾ (a ⨾ b)) c d
unfolding Stated Chosen
regrouped H a b c d f =
    more ((H ⨾ a) ⨾ b) (H ⨾ (a ⨾ b)) (λ a b h. ⊎_elim (λ k. ⊎_elim (λ s. inl s) (λ s. inr (inl s)) k) (λ s. inr (inr s)) h)
    (λ i a x h. ⊎_elim (λ k. ⊎_elim (λ s. inl s) (λ s. inr (inl s)) k) (λ s. inr (inr s)) h) c d f

as_piece : (H : Items) (n : ℕ) (t : Items) (a b : Term) → Follows (H ⨾ t) a b → Follows (H ⨾ piece n t) a b
unfolding Stated Chosen
as_piece H n t a b f = more (H ⨾ t) (H ⨾ piece n t) (λ a b s. s) (λ i a x c. c) a b f

in_from : (P E : Pairs Term) (a b : Term) → InP a b (join_pairs P E) → InP a b E ⊎ InP a b P
unfolding join_pairs
in_from end E a b i = inl i
in_from (pair c d P) E a b (inl q) = inr (inl q)
in_from (pair c d P) E a b (inr i) = ⊎_elim (λ j. inl j) (λ j. inr (inr j)) (in_from P E a b i)

backed_equations : (H : Items) (E : Pairs Term) (n : ℕ) (es : Pairs Term) → Backed H E → Backed (H ⨾ equations n es) (join_pairs es E)
unfolding Stated
backed_equations H E n es f a b i = ⊎_elim (λ j. wider H (equations n es) a b (f a b j)) (λ s. stated (inr s)) (in_from es E a b i)

module _ (H : Items) (E : Pairs Term) (f : Backed H E) (n i : ℕ) (a : Term) (x : ℕ) where
  own_back : (u : Term) → component_by E i a ≡ some u → Backed (H ⨾ select n i a x) (pair (unknown x) u E)
  unfolding Chosen component_by
  own_back u e b c (inl q) =
      subst (λ z. Follows (H ⨾ select n i a x) z c) (sym q.0) (subst (λ z. Follows (H ⨾ select n i a x) (unknown x) z) (sym q.1)
      (chosen i a (representative E a) x (inr (refl, refl, refl)) (wider H (select n i a x) a (representative E a) (back_by H E f a (representative E a) (stands_follows E a))) e))
  own_back u e b c (inr j) = wider H (select n i a x) b c (f b c j)

  select_back : (o : Option Term) → component_by E i a ≡ o → Backed (H ⨾ select n i a x) (with_component o x E)
  unfolding with_component
  select_back (some u) e = own_back u e
  select_back nothing e = λ b c j. wider H (select n i a x) b c (f b c j)

backed_more : (t H : Items) (E : Pairs Term) → Backed H E → Backed (H ⨾ t) (equations_of t E)
unfolding equations_of Stated
backed_more skip H E f = λ a b i. wider H skip a b (f a b i)
backed_more (s ⨾ t) H E f = λ a b i. regrouped H s t a b (backed_more t (H ⨾ s) (equations_of s E) (backed_more s H E f) a b i)
backed_more (fresh x) H E f = λ a b i. wider H (fresh x) a b (f a b i)
backed_more (equations n es) H E f = backed_equations H E n es f
backed_more (equate g n c d) H E f = λ a b i. ⊎_elim (λ q. stated (inr q)) (λ j. wider H (equate g n c d) a b (f a b j)) i
backed_more (select n i c x) H E f = select_back H E f n i c x (component_by E i c) refl
backed_more (small n c) H E f = λ a b i. wider H (small n c) a b (f a b i)
backed_more (refusal g n) H E f = λ a b i. wider H (refusal g n) a b (f a b i)
backed_more (piece n t) H E f = λ a b i. as_piece H n t a b (backed_more t H E f a b i)

-- ---- the number of a node
pub record Before (H : Items) (P : Typings) (E : Pairs Term) : Type 0 where
  pub meets : (ρ : ℕ → Inf) → P infinite ρ → MeetsIn H infinite ρ
  pub standing : Standing P E
  pub backed : Backed H E

before_more : (t H : Items) (P : Typings) (E : Pairs Term) → Passes t P → Before H P E → Before (H ⨾ t) (And P t) (equations_of t E)
unfolding MeetsIn
before_more t H P E p b = record { meets = λ ρ h. (b.meets ρ h.0, h.1); standing = standing_more t P E p b.standing; backed = backed_more t H E b.backed }

module _ (H : Items) (P : Typings) (E : Pairs Term) (b : Before H P E) (n : ℕ) (es : Pairs Term) where
  abbrev Fits : Type 0
  Fits = (ρ : ℕ → Inf) × P infinite ρ × Solves (under_inf ρ) es

  abbrev Apart : Type 0
  Apart = Clash (H ⨾ equations n es)

  fits_apart : Fits → Apart → ⊥
  unfolding MeetsIn
  fits_apart z c = clash_none (H ⨾ equations n es) z.0 (b.meets z.0 z.1, z.2) c

  up : ClashBy view_term (join_pairs es E) → Apart
  up c = clash_up (H ⨾ equations n es) (join_pairs es E) (backed_equations H E n es b.backed) c

  apart : (Fits → ⊥) → Apart
  unfolding MeetsIn
  apart f = up ((side_by_side (join_pairs es E)).1 (λ ρ s. let z = (equations_standing infinite P E n es (b.standing infinite) ρ).1 s in f (ρ, z.0, z.1)))

  fits : (Apart → ⊥) → Fits
  unfolding MeetsIn
  fits f =
      let w = infinite_fits (join_pairs es E) (λ c. f (up c)) in
      let z = (equations_standing infinite P E n es (b.standing infinite) w.0).1 w.1 in
      (w.0, z.0, z.1)

  by_equations : BySides (equations n es) H P
  unfolding BySides Refuses
  by_equations f = (
    λ r. (r.1, ⊎_elim (λ u. inl (u.0, apart u.1)) (λ u. inr (u.0, fits_apart u.1)) r.2),
    λ r. (refl, r.0, ⊎_elim (λ u. inl (u.0, λ z. fits_apart z u.1)) (λ u. inr (u.0, fits u.1)) r.1),
  )

by_sides_from : (t H : Items) (P : Typings) (E : Pairs Term) → Before H P E → BySides t H P
unfolding BySides
by_sides_from skip H P E b = tt
by_sides_from (s ⨾ t) H P E b = (by_sides_from s H P E b, λ p. by_sides_from t (H ⨾ s) (And P s) (equations_of s E) (before_more s H P E p b))
by_sides_from (fresh x) H P E b = tt
by_sides_from (equations n es) H P E b = by_equations H P E b n es
by_sides_from (equate f n c d) H P E b = tt
by_sides_from (select n i c x) H P E b = tt
by_sides_from (small n c) H P E b = tt
by_sides_from (refusal f n) H P E b = tt
by_sides_from (piece n t) H P E b = by_sides_from t H P E b

before_start : Before skip Any end
unfolding MeetsIn
before_start = record { meets = λ ρ h. tt; standing = standing_start; backed = λ a b i. absurd i }

-- DIFFERENT FORMERS SIDE BY SIDE ARE 33, OTHER EQUATIONS WITHOUT A SOLUTION 39, for any items from the start, and so in every paragraph.
pub by_sides : (t : Items) → BySides t skip Any
by_sides t = by_sides_from t skip Any end before_start

pub sides_decide : (ps : List Paragraph) (D : Dictionary) → SidesDecide ps D
unfolding SidesDecide
sides_decide [] D = tt
sides_decide (p ∷ ps) D = (by_sides (paragraph_items p D), λ τ m. sides_decide ps (extend p D τ))
