-- Laws of links, and what solving over possibly infinite types says of every map.
use Prim.Native.Nat.{suc, zero, ℕ}
use mathlib.Core.Bool.{Bool, false, true}
use mathlib.Core.List.{List, [], ◌∷◌, map}
use mathlib.Core.Option.{Option, none, some}
use mathlib.Core.Path.{◌∙◌, ◌≡◌, ap, ap₂, refl, sym}
use native.Mathlib.Omega.{arith}
use Rattle.types_rules.proofs.Terms.{same_false}
use Rattle.types_rules.specs.Classes.{rep, swap, zip_n}
use Rattle.types_rules.specs.Classify.{Out, apart, both, meet, merge_level, merge_levels, merged, spent, turn}
use Rattle.types_rules.specs.Equations.{Pairs, Solves, end, pair}
use Rattle.types_rules.specs.Follows.{View, shape, unk}
use Rattle.types_rules.specs.Former.{Former, same_former}

pub cons_0 : {D : Type 0} (a b : D) (c d : List D) → a ∷ c ≡ b ∷ d → a ≡ b
cons_0 a b c d q = cc

pub cons_1 : {D : Type 0} (a b : D) (c d : List D) → a ∷ c ≡ b ∷ d → c ≡ d
cons_1 a b c d q = cc

abbrev pub ZipSpec : {N D : Type 0} → (N → D) → List N → List N → Pairs N → Option (Pairs N) → Type 0
ZipSpec σ cs ds P none = map σ cs ≡ map σ ds → ⊥
ZipSpec σ cs ds P (some P') = (Solves σ P' → (map σ cs ≡ map σ ds) × Solves σ P) × ((map σ cs ≡ map σ ds) × Solves σ P → Solves σ P')

zip_cons : {N D : Type 0} (σ : N → D) (a b : N) (cs ds : List N) (P : Pairs N) (o : Option (Pairs N)) → ZipSpec σ cs ds (pair a b P) o → ZipSpec σ (a ∷ cs) (b ∷ ds) P o
zip_cons σ a b cs ds P none h = λ q. h (cons_1 _ _ _ _ q)
zip_cons σ a b cs ds P (some P') h = (
  λ q. (ap₂ ◌∷◌ (h.0 q).1.0 (h.0 q).0, (h.0 q).1.1),
  λ q. h.1 (cons_1 _ _ _ _ q.0, (cons_0 _ _ _ _ q.0, q.1)),
)

pub zip_spec : {N D : Type 0} (σ : N → D) (cs ds : List N) (P : Pairs N) → ZipSpec σ cs ds P (zip_n cs ds P)
unfolding zip_n
zip_spec σ [] [] P = (λ q. (refl, q), λ q. q.1)
zip_spec σ [] (d ∷ ds) P = λ q. let z : ◌≡◌ {A = ℕ} 0 1 = cc in omega arith
zip_spec σ (c ∷ cs) [] P = λ q. let z : ◌≡◌ {A = ℕ} 0 1 = cc in omega arith
zip_spec σ (c ∷ cs) (d ∷ ds) P = zip_cons σ c d cs ds P (zip_n cs ds (pair c d P)) (zip_spec σ cs ds (pair c d P))

module _ (N : Type 0) (same : N → N → Bool) (same-eq : (a b : N) → same a b ≡ true → a ≡ b) (same-ne : (a b : N) → same a b ≡ false → a ≡ b → ⊥) where
  pub swap_hit : (a b m : N) → m ≡ a → swap same a b m ≡ b
  unfolding swap
  swap_hit a b m q = go (same m a) refl
    where
      go : (c : Bool) → same m a ≡ c → (elim c as (λ x. N) [ true ↦ b | false ↦ m ]) ≡ b
      go true e = refl
      go false e = absurd (same-ne m a e q)

  pub swap_miss : (a b m : N) → (m ≡ a → ⊥) → swap same a b m ≡ m
  unfolding swap
  swap_miss a b m q = go (same m a) refl
    where
      go : (c : Bool) → same m a ≡ c → (elim c as (λ x. N) [ true ↦ b | false ↦ m ]) ≡ m
      go true e = absurd (q (same-eq m a e))
      go false e = refl

  pub swap_cases : (a b m : N) (C : Type 0) → (m ≡ a → swap same a b m ≡ b → C) → ((m ≡ a → ⊥) → swap same a b m ≡ m → C) → C
  swap_cases a b m C f g = go (same m a) refl
    where
      go : (c : Bool) → same m a ≡ c → C
      go true e = f (same-eq m a e) (swap_hit a b m (same-eq m a e))
      go false e = g (same-ne m a e) (swap_miss a b m (same-ne m a e))

  pub swap_sat : {D : Type 0} (σ : N → D) (a b m : N) → σ a ≡ σ b → σ (swap same a b m) ≡ σ m
  swap_sat σ a b m q = swap_cases a b m _ (λ e r. ap σ r ∙ sym q ∙ ap σ (sym e)) (λ e r. ap σ r)

  pub rep_sat : {D : Type 0} (σ : N → D) (L : Pairs N) → Solves σ L → (n : N) → σ (rep same L n) ≡ σ n
  unfolding rep
  rep_sat σ end h n = refl
  rep_sat σ (pair a b L) h n = swap_sat σ a b (rep same L n) h.0 ∙ rep_sat σ L h.1 n

  -- LAW A: what the answer says of any map σ into any structure whose formers are one-to-one.
  module _ (view : N → View N) (D : Type 0) (mk : Former → List D → D) (mk-h : (h k : Former) (a b : List D) → mk h a ≡ mk k b → h ≡ k)
      (mk_c : (h k : Former) (a b : List D) → mk h a ≡ mk k b → a ≡ b) (σ : N → D)
      (fits : (n : N) (h : Former) (cs : List N) → view n ≡ shape h cs → σ n ≡ mk h (map σ cs)) where
    abbrev pub Says : Out N → Type 0 → Type 0
    Says (merged L) A = (Solves σ L → A) × (A → Solves σ L)
    Says apart A = A → ⊥
    Says spent A = Unit {0}

    says_iff : (r : Out N) (A B : Type 0) → (A → B) → (B → A) → Says r A → Says r B
    says_iff (merged L) A B f g h = (λ q. f (h.0 q), λ q. h.1 (g q))
    says_iff apart A B f g h = λ q. h (g q)
    says_iff spent A B f g h = tt

    module _ (nx : Pairs N → Pairs N → Out N) (hx : (L P : Pairs N) → Says (nx L P) (Solves σ L × Solves σ P)) where
      both_says : (L : Pairs N) (a b : N) (h k : Former) (cs ds : List N) (P : Pairs N) → view a ≡ shape h cs → view b ≡ shape k ds → (d : Bool) → same_former h k ≡ d →
          (o : Option (Pairs N)) → ZipSpec σ cs ds P o → Says (both d o (λ P'. nx (pair a b L) P')) (Solves σ L × ((σ a ≡ σ b) × Solves σ P))
      unfolding both
      both_says L a b h k cs ds P va vb true e (some P') z =
          says_iff (nx (pair a b L) P') _ _
          (λ q. (q.0.1, (q.0.0, (z.0 q.1).1)))
          (λ q. ((q.1.0, q.0), z.1 (mk_c _ _ _ _ (sym (fits a h cs va) ∙ q.1.0 ∙ fits b k ds vb), q.1.1)))
          (hx (pair a b L) P')
      both_says L a b h k cs ds P va vb true e none z = λ q. z (mk_c _ _ _ _ (sym (fits a h cs va) ∙ q.1.0 ∙ fits b k ds vb))
      both_says L a b h k cs ds P va vb false e o z = λ q. same_false h k e (mk-h _ _ _ _ (sym (fits a h cs va) ∙ q.1.0 ∙ fits b k ds vb))

      meet_says : (L : Pairs N) (a b : N) (P : Pairs N) (v w : View N) → view a ≡ v → view b ≡ w → Says (meet nx L a b P v w) (Solves σ L × ((σ a ≡ σ b) × Solves σ P))
      unfolding meet
      meet_says L a b P unk w va vb = says_iff (nx (pair a b L) P) _ _ (λ q. (q.0.1, (q.0.0, q.1))) (λ q. ((q.1.0, q.0), q.1.1)) (hx (pair a b L) P)
      meet_says L a b P (shape h cs) unk va vb =
          says_iff (nx (pair b a L) P) _ _ (λ q. (q.0.1, (sym q.0.0, q.1))) (λ q. ((sym q.1.0, q.0), q.1.1)) (hx (pair b a L) P)
      meet_says L a b P (shape h cs) (shape k ds) va vb = both_says L a b h k cs ds P va vb (same_former h k) refl (zip_n cs ds P) (zip_spec σ cs ds P)

      turn_says : (L : Pairs N) (a b : N) (P : Pairs N) (c : Bool) → same (rep same L a) (rep same L b) ≡ c → (f g : Unit {0} → Out N) →
          Says (f tt) (Solves σ L × Solves σ P) → Says (g tt) (Solves σ L × ((σ (rep same L a) ≡ σ (rep same L b)) × Solves σ P)) → Says (turn c f g) (Solves σ L × ((σ a ≡ σ b) × Solves σ P))
      unfolding turn
      turn_says L a b P true e f g hf hg =
          says_iff (f tt) _ _ (λ q. (q.0, (sym (rep_sat σ L q.0 a) ∙ ap σ (same-eq _ _ e) ∙ rep_sat σ L q.0 b, q.1))) (λ q. (q.0, q.1.1)) hf
      turn_says L a b P false e f g hf hg =
          says_iff (g tt) _ _
          (λ q. (q.0, (sym (rep_sat σ L q.0 a) ∙ q.1.0 ∙ rep_sat σ L q.0 b, q.1.1)))
          (λ q. (q.0, (rep_sat σ L q.0 a ∙ q.1.0 ∙ sym (rep_sat σ L q.0 b), q.1.1)))
          hg

      inner_says : (L P : Pairs N) → Says (merge_level same view nx L P) (Solves σ L × Solves σ P)
      unfolding merge_level
      inner_says L end = (λ q. (q, tt), λ q. q.0)
      inner_says L (pair a b P) = turn_says L a b P (same (rep same L a) (rep same L b)) refl _ _ (inner_says L P) (meet_says L _ _ P _ _ refl refl)

    pub outer_says : (k : ℕ) (L P : Pairs N) → Says (merge_levels same view k L P) (Solves σ L × Solves σ P)
    unfolding merge_levels
    outer_says zero L P = inner_says (λ L' P'. spent) (λ L' P'. tt) L P
    outer_says (suc k) L P = inner_says (λ L' P'. merge_levels same view k L' P') (λ L' P'. outer_says k L' P') L P

-- The former and the parts of a shape are its own.
pub shape_0 : {N : Type 0} (h k : Former) (cs ds : List N) → shape h cs ≡ shape k ds → h ≡ k
shape_0 h k cs ds q = cc

pub shape_1 : {N : Type 0} (h k : Former) (cs ds : List N) → shape h cs ≡ shape k ds → cs ≡ ds
shape_1 h k cs ds q = cc
