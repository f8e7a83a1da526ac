-- One induction for every law of merging.
use Prim.Native.Nat.{suc, zero, ℕ}
use mathlib.Core.Bool.{Bool, false, true}
use mathlib.Core.List.{List}
use mathlib.Core.Option.{Option, none, some}
use mathlib.Core.Path.{◌≡◌, refl, subst, sym}
use Rattle.types_rules.proofs.Terms.{same_false, same_true}
use Rattle.types_rules.specs.Classes.{rep, zip_n}
use Rattle.types_rules.specs.Classify.{Out, apart, both, meet, merge_level, merge_levels, merged, spent, turn}
use Rattle.types_rules.specs.Equations.{Pairs, end, pair}
use Rattle.types_rules.specs.Follows.{View, shape, unk}
use Rattle.types_rules.specs.Former.{Former, same_former}

module _ (N : Type 0) (same : N → N → Bool) (same-eq : (a b : N) → same a b ≡ true → a ≡ b) (same-ne : (a b : N) → same a b ≡ false → a ≡ b → ⊥)
    (view : N → View N) where
  -- What has to be shown of an invariant I, with k merges left, and a property Q of the answer.
  pub record Keeps (I : ℕ → Pairs N → Pairs N → Type 0) (Q : Out N → Type 0) : Type 0 where
    pub fin : (k : ℕ) (L : Pairs N) → I k L end → Q (merged L)
    pub skip : (k : ℕ) (L P : Pairs N) (a b : N) → I k L (pair a b P) → rep same L a ≡ rep same L b → I k L P
    pub left : (k : ℕ) (L P : Pairs N) (a b : N) → I (suc k) L (pair a b P) → (rep same L a ≡ rep same L b → ⊥) → view (rep same L a) ≡ unk →
        I k (pair (rep same L a) (rep same L b) L) P
    pub right : (k : ℕ) (L P : Pairs N) (a b : N) → I (suc k) L (pair a b P) → (rep same L a ≡ rep same L b → ⊥) → view (rep same L b) ≡ unk →
        I k (pair (rep same L b) (rep same L a) L) P
    pub join : (k : ℕ) (L P P' : Pairs N) (a b : N) (h g : Former) (cs ds : List N) → I (suc k) L (pair a b P) → (rep same L a ≡ rep same L b → ⊥) →
        view (rep same L a) ≡ shape h cs → view (rep same L b) ≡ shape g ds → h ≡ g → zip_n cs ds P ≡ some P' → I k (pair (rep same L a) (rep same L b) L) P'
    pub bad : (k : ℕ) (L P : Pairs N) (a b : N) (h g : Former) (cs ds : List N) → I k L (pair a b P) →
        view (rep same L a) ≡ shape h cs → view (rep same L b) ≡ shape g ds → (h ≡ g → zip_n cs ds P ≡ none) → Q apart
    pub dry : (L P : Pairs N) (a b : N) → I zero L (pair a b P) → (rep same L a ≡ rep same L b → ⊥) → Q spent

  module _ (I : ℕ → Pairs N → Pairs N → Type 0) (Q : Out N → Type 0) (K : Keeps I Q) where
    -- What the next level, with j merges left, is good for.
    abbrev NextOk : ℕ → (Pairs N → Pairs N → Out N) → Type 0
    NextOk zero nx = (L P : Pairs N) → nx L P ≡ spent
    NextOk (suc k) nx = (L P : Pairs N) → I k L P → Q (nx L P)

    both_run : (k : ℕ) (nx : Pairs N → Pairs N → Out N) → NextOk k nx → (L P : Pairs N) (a b : N) → I k L (pair a b P) → (rep same L a ≡ rep same L b → ⊥) → (h g : Former) (cs ds : List N) →
        view (rep same L a) ≡ shape h cs → view (rep same L b) ≡ shape g ds → (d : Bool) → same_former h g ≡ d → (o : Option (Pairs N)) → zip_n cs ds P ≡ o →
        Q (both d o (λ P'. nx (pair (rep same L a) (rep same L b) L) P'))
    unfolding both
    both_run zero nx hx L P a b i ne h g cs ds va vb true e (some P') z = subst Q (sym (hx _ _)) (K.dry L P a b i ne)
    both_run (suc k) nx hx L P a b i ne h g cs ds va vb true e (some P') z = hx _ _ (K.join k L P P' a b h g cs ds i ne va vb (same_true h g e) z)
    both_run k nx hx L P a b i ne h g cs ds va vb true e none z = K.bad k L P a b h g cs ds i va vb (λ q. z)
    both_run k nx hx L P a b i ne h g cs ds va vb false e o z = K.bad k L P a b h g cs ds i va vb (λ q. absurd (same_false h g e q))

    meet_run : (k : ℕ) (nx : Pairs N → Pairs N → Out N) → NextOk k nx → (L P : Pairs N) (a b : N) → I k L (pair a b P) → (rep same L a ≡ rep same L b → ⊥) → (v w : View N) →
        view (rep same L a) ≡ v → view (rep same L b) ≡ w → Q (meet nx L (rep same L a) (rep same L b) P v w)
    unfolding meet
    meet_run zero nx hx L P a b i ne unk w va vb = subst Q (sym (hx _ _)) (K.dry L P a b i ne)
    meet_run zero nx hx L P a b i ne (shape h cs) unk va vb = subst Q (sym (hx _ _)) (K.dry L P a b i ne)
    meet_run zero nx hx L P a b i ne (shape h cs) (shape g ds) va vb = both_run zero nx hx L P a b i ne h g cs ds va vb (same_former h g) refl (zip_n cs ds P) refl
    meet_run (suc k) nx hx L P a b i ne unk w va vb = hx _ _ (K.left k L P a b i ne va)
    meet_run (suc k) nx hx L P a b i ne (shape h cs) unk va vb = hx _ _ (K.right k L P a b i ne vb)
    meet_run (suc k) nx hx L P a b i ne (shape h cs) (shape g ds) va vb = both_run (suc k) nx hx L P a b i ne h g cs ds va vb (same_former h g) refl (zip_n cs ds P) refl

    turn_run : (c : Bool) (k : ℕ) (nx : Pairs N → Pairs N → Out N) → NextOk k nx → (L P : Pairs N) (a b : N) → I k L (pair a b P) → same (rep same L a) (rep same L b) ≡ c →
        (f : Unit {0} → Out N) → (I k L P → Q (f tt)) → Q (turn c f (λ u. meet nx L (rep same L a) (rep same L b) P (view (rep same L a)) (view (rep same L b))))
    unfolding turn
    turn_run true k nx hx L P a b i e f hf = hf (K.skip k L P a b i (same-eq _ _ e))
    turn_run false k nx hx L P a b i e f hf = meet_run k nx hx L P a b i (same-ne _ _ e) _ _ refl refl

    inner_run : (k : ℕ) (nx : Pairs N → Pairs N → Out N) → NextOk k nx → (L P : Pairs N) → I k L P → Q (merge_level same view nx L P)
    unfolding merge_level
    inner_run k nx hx L end i = K.fin k L i
    inner_run k nx hx L (pair a b P) i = turn_run (same (rep same L a) (rep same L b)) k nx hx L P a b i refl _ (inner_run k nx hx L P)

    pub outer_run : (k : ℕ) (L P : Pairs N) → I k L P → Q (merge_levels same view k L P)
    unfolding merge_levels
    outer_run zero L P i = inner_run zero (λ L' P'. spent) (λ L' P'. refl) L P i
    outer_run (suc k) L P i = inner_run (suc k) (λ L' P'. merge_levels same view k L' P') (λ L' P' i'. outer_run k L' P' i') L P i
