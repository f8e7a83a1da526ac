-- What the links come to when merging ends: one former a class, parts in one class; and a law for each step.
use Prim.Native.Nat.{suc, zero, ℕ}
use mathlib.Core.Bool.{Bool, false, true}
use mathlib.Core.List.{List, map}
use mathlib.Core.Option.{Option, none, some}
use mathlib.Core.Path.{◌∙◌, ◌≡◌, ap, refl, subst, sym}
use Rattle.types_rules.proofs.Rational.{ZipSpec, rep_sat, shape_0, shape_1, swap_cases, swap_hit, swap_miss, zip_spec}
use Rattle.types_rules.proofs.Terms.{same_true}
use Rattle.types_rules.specs.Classes.{Closed, Shape, Wf, rep, swap, zip_n}
use Rattle.types_rules.specs.Classify.{Out, apart, both, meet, merge_level, merge_levels, merged, spent, turn}
use Rattle.types_rules.specs.Equations.{Pairs, Solves, end, pair}
use Rattle.types_rules.specs.Follows.{View, shape, unk}
use Rattle.types_rules.specs.Former.{Former, same_former}

module _ (N : Type 0) (same : N → N → Bool) (same-eq : (a b : N) → same a b ≡ true → a ≡ b) (same-ne : (a b : N) → same a b ≡ false → a ≡ b → ⊥) where
  pub idem : (L : Pairs N) → Wf same L → (n : N) → rep same L (rep same L n) ≡ rep same L n
  unfolding rep
  idem end h n = refl
  idem (pair a b L) h n =
      swap_cases N same same-eq same-ne a b (rep same L n) _
      (λ e r. ap (λ z. swap same a b (rep same L z)) r ∙ ap (swap same a b) h.1 ∙ swap_miss N same same-eq same-ne a b b h.2 ∙ sym r)
      (λ e r. ap (λ z. swap same a b (rep same L z)) r ∙ ap (swap same a b) (idem L h.3 n))

  sat_after : {A B : Type 0} (f : N → A) (g : A → B) (L : Pairs N) → Solves f L → Solves (λ n. g (f n)) L
  sat_after f g end h = tt
  sat_after f g (pair a b L) h = (ap g h.0, sat_after f g L h.1)

  -- The representatives satisfy the links.
  pub rep_self : (L : Pairs N) → Wf same L → Solves (rep same L) L
  unfolding rep
  rep_self end h = tt
  rep_self (pair a b L) h = (
    swap_hit N same same-eq same-ne a b _ h.0 ∙ sym (ap (swap same a b) h.1 ∙ swap_miss N same same-eq same-ne a b b h.2),
    sat_after (rep same L) (swap same a b) L (rep_self L h.3),
  )

  module _ (view : N → View N) (P₀ : Pairs N) where
    abbrev pub Fine : Out N → Type 0
    Fine (merged L) = Closed same view P₀ L end
    Fine apart = Unit {0}
    Fine spent = Unit {0}

    pub shape_of : (v : View N) (h : Former) (cs : List N) → v ≡ shape h cs → Shape v
    shape_of v h cs e = subst Shape (sym e) tt

    -- Before a link: the pending pair a b has the representatives ra rb.
    module _ (L P : Pairs N) (a b : N) (C : Closed same view P₀ L (pair a b P)) where
      pub closed_same : rep same L a ≡ rep same L b → Closed same view P₀ L P
      closed_same e = record {
        wf = C.wf;
        shaped = C.shaped;
        heads = C.heads;
        parts = λ n m h k cs ds vn vm q f fl fp.
            C.parts n m h k cs ds vn vm q f fl (sym (rep_sat N same same-eq same-ne f L fl a) ∙ ap f e ∙ rep_sat N same same-eq same-ne f L fl b, fp);
        covers = λ f fl fp. C.covers f fl (sym (rep_sat N same same-eq same-ne f L fl a) ∙ ap f e ∙ rep_sat N same same-eq same-ne f L fl b, fp);
      }

      -- An unknown x goes to y, where x and y are the representatives of a and b, or of b and a.
      pub closed_unk : (x y : N) → rep same L x ≡ x → rep same L y ≡ y → (y ≡ x → ⊥) → view x ≡ unk →
          ((f : N → N) → Solves f L → f x ≡ f y → f a ≡ f b) → Closed same view P₀ (pair x y L) P
      unfolding rep
      closed_unk x y rx ry ne vx same_f = record {
        wf = (rx, ry, ne, C.wf);
        shaped = λ n s. subst (λ z. Shape (view z)) (sym (miss n s)) (C.shaped n s);
        heads = λ n m h k cs ds vn vm q. C.heads n m h k cs ds vn vm (old n m (shape_of _ h cs vn) (shape_of _ k ds vm) q);
        parts = λ n m h k cs ds vn vm q f fl fp.
            C.parts n m h k cs ds vn vm (old n m (shape_of _ h cs vn) (shape_of _ k ds vm) q) f fl.1 (same_f f fl.1 fl.0, fp);
        covers = λ f fl fp. C.covers f fl.1 (same_f f fl.1 fl.0, fp);
      }
        where
          miss : (n : N) → Shape (view n) → swap same x y (rep same L n) ≡ rep same L n
          miss n s = swap_miss N same same-eq same-ne x y (rep same L n) (λ e. subst Shape (ap view e ∙ vx) (C.shaped n s))

          old : (n m : N) → Shape (view n) → Shape (view m) → swap same x y (rep same L n) ≡ swap same x y (rep same L m) → rep same L n ≡ rep same L m
          old n m sn sm q = sym (miss n sn) ∙ q ∙ miss m sm

      pub closed_shape : (x y : N) → rep same L x ≡ x → rep same L y ≡ y → (y ≡ x → ⊥) → (h k : Former) (as' bs : List N) → view x ≡ shape h as' → view y ≡ shape k bs → h ≡ k →
          ((f : N → N) → Solves f L → f x ≡ f y → f a ≡ f b) → (P' : Pairs N) → ((f : N → N) → Solves f P' → (map f as' ≡ map f bs) × Solves f P) → Closed same view P₀ (pair x y L) P'
      unfolding rep
      closed_shape x y rx ry ne h k as' bs vx vy hk same_f P' hp = record {
        wf = (rx, ry, ne, C.wf);
        shaped = λ n s. swap_cases N same same-eq same-ne x y (rep same L n) _
            (λ e r. subst (λ z. Shape (view z)) (sym r) (shape_of _ k bs vy))
            (λ e r. subst (λ z. Shape (view z)) (sym r) (C.shaped n s));
        heads = λ n m h₁ h₂ cs ds vn vm q. cases n m q (h₁ ≡ h₂)
            (λ e. C.heads n m h₁ h₂ cs ds vn vm e)
            (λ e e'. C.heads n x h₁ h cs as' vn vx e ∙ hk ∙ C.heads y m k h₂ bs ds vy vm e')
            (λ e e'. C.heads n y h₁ k cs bs vn vy e ∙ sym hk ∙ C.heads x m h h₂ as' ds vx vm e');
        parts = λ n m h₁ h₂ cs ds vn vm q f fl fp.
            let g : Solves f (pair a b P) = (same_f f fl.1 fl.0, (hp f fp).1) in
            cases n m q (map f cs ≡ map f ds)
            (λ e. C.parts n m h₁ h₂ cs ds vn vm e f fl.1 g)
            (λ e e'. C.parts n x h₁ h cs as' vn vx e f fl.1 g ∙ (hp f fp).0 ∙ C.parts y m k h₂ bs ds vy vm e' f fl.1 g)
            (λ e e'. C.parts n y h₁ k cs bs vn vy e f fl.1 g ∙ sym (hp f fp).0 ∙ C.parts x m h h₂ as' ds vx vm e' f fl.1 g);
        covers = λ f fl fp. C.covers f fl.1 (same_f f fl.1 fl.0, (hp f fp).1);
      }
        where
          cases : (n m : N) → swap same x y (rep same L n) ≡ swap same x y (rep same L m) → (T : Type 0) → (rep same L n ≡ rep same L m → T) →
              (rep same L n ≡ rep same L x → rep same L y ≡ rep same L m → T) → (rep same L n ≡ rep same L y → rep same L x ≡ rep same L m → T) → T
          cases n m q T f g i =
              swap_cases N same same-eq same-ne x y (rep same L n) T
              (λ e r. swap_cases N same same-eq same-ne x y (rep same L m) T
              (λ e' r'. f (e ∙ sym e'))
              (λ e' r'. g (e ∙ sym rx) (ry ∙ sym r ∙ q ∙ r')))
              (λ e r. swap_cases N same same-eq same-ne x y (rep same L m) T
              (λ e' r'. i (sym r ∙ q ∙ r' ∙ sym ry) (rx ∙ sym e'))
              (λ e' r'. f (sym r ∙ q ∙ r')))

    module _ (nx : Pairs N → Pairs N → Out N) (hx : (L P : Pairs N) → Closed same view P₀ L P → Fine (nx L P)) (L P : Pairs N) (a b : N) (C : Closed same view P₀ L (pair a b P)) where
      same_f : (f : N → N) → Solves f L → f (rep same L a) ≡ f (rep same L b) → f a ≡ f b
      same_f f fl q = sym (rep_sat N same same-eq same-ne f L fl a) ∙ q ∙ rep_sat N same same-eq same-ne f L fl b

      both_fine : (h k : Former) (as' bs : List N) → view (rep same L a) ≡ shape h as' → view (rep same L b) ≡ shape k bs → (rep same L b ≡ rep same L a → ⊥) → (d : Bool) → same_former h k ≡ d →
          (o : Option (Pairs N)) → ((f : N → N) → ZipSpec f as' bs P o) → Fine (both d o (λ P'. nx (pair (rep same L a) (rep same L b) L) P'))
      unfolding both
      both_fine h k as' bs vx vy ne true e (some P') z =
          hx _ P' (closed_shape L P a b C (rep same L a) (rep same L b) (idem L C.wf a) (idem L C.wf b) ne h k as' bs vx vy (same_true h k e) same_f P' (λ f q. (z f).0 q))
      both_fine h k as' bs vx vy ne true e none z = tt
      both_fine h k as' bs vx vy ne false e o z = tt

      meet_fine : (v w : View N) → view (rep same L a) ≡ v → view (rep same L b) ≡ w → (rep same L b ≡ rep same L a → ⊥) → Fine (meet nx L (rep same L a) (rep same L b) P v w)
      unfolding meet
      meet_fine unk w vx vy ne = hx _ P (closed_unk L P a b C (rep same L a) (rep same L b) (idem L C.wf a) (idem L C.wf b) ne vx same_f)
      meet_fine (shape h cs) unk vx vy ne =
          hx _ P (closed_unk L P a b C (rep same L b) (rep same L a) (idem L C.wf b) (idem L C.wf a) (λ q. ne (sym q)) vy (λ f fl q. same_f f fl (sym q)))
      meet_fine (shape h cs) (shape k ds) vx vy ne = both_fine h k cs ds vx vy ne (same_former h k) refl (zip_n cs ds P) (λ f. zip_spec f cs ds P)

      turn_fine : (c : Bool) → same (rep same L a) (rep same L b) ≡ c → (f : Unit {0} → Out N) → (Closed same view P₀ L P → Fine (f tt)) →
          Fine (turn c f (λ u. meet nx L (rep same L a) (rep same L b) P (view (rep same L a)) (view (rep same L b))))
      unfolding turn
      turn_fine true e f hf = hf (closed_same L P a b C (same-eq _ _ e))
      turn_fine false e f hf = meet_fine _ _ refl refl (λ q. same-ne _ _ e (sym q))

    inner_fine : (nx : Pairs N → Pairs N → Out N) (hx : (L P : Pairs N) → Closed same view P₀ L P → Fine (nx L P)) (L P : Pairs N) → Closed same view P₀ L P → Fine (merge_level same view nx L P)
    unfolding merge_level
    inner_fine nx hx L end C = C
    inner_fine nx hx L (pair a b P) C = turn_fine nx hx L P a b C (same (rep same L a) (rep same L b)) refl _ (inner_fine nx hx L P)

    -- LAW B.
    pub outer_fine : (k : ℕ) (L P : Pairs N) → Closed same view P₀ L P → Fine (merge_levels same view k L P)
    unfolding merge_levels
    outer_fine zero L P C = inner_fine (λ L' P'. spent) (λ L' P' C'. tt) L P C
    outer_fine (suc k) L P C = inner_fine (λ L' P'. merge_levels same view k L' P') (λ L' P' C'. outer_fine k L' P' C') L P C

    pub closed_start : Closed same view P₀ end P₀
    unfolding rep
    closed_start = record {
      wf = tt;
      shaped = λ n s. s;
      heads = λ n m h k cs ds vn vm q. shape_0 h k cs ds (sym vn ∙ ap view q ∙ vm);
      parts = λ n m h k cs ds vn vm q f fl fp. ap (map f) (shape_1 h k cs ds (sym vn ∙ ap view q ∙ vm));
      covers = λ f fl fp. fp;
    }

    -- At the end the representatives themselves are such a map.
    pub class_parts : (L : Pairs N) → Closed same view P₀ L end → (n m : N) (h k : Former) (cs ds : List N) → view n ≡ shape h cs → view m ≡ shape k ds → rep same L n ≡ rep same L m →
        map (rep same L) cs ≡ map (rep same L) ds
    class_parts L C n m h k cs ds vn vm q = C.parts n m h k cs ds vn vm q (rep same L) (rep_self L C.wf) tt

    pub class_covers : (L : Pairs N) → Closed same view P₀ L end → Solves (rep same L) P₀
    class_covers L C = C.covers (rep same L) (rep_self L C.wf) tt
