-- Following links one at a time comes to the representative, and ends.
use Prim.Native.Nat.{◌+◌, ◌<◌, suc, ℕ}
use mathlib.Core.Bool.{Bool, false, true}
use mathlib.Core.Option.{Option, none, some}
use mathlib.Core.Path.{◌∙◌, ◌≡◌, ap, refl, sym}
use native.Mathlib.Omega.{arith}
use Rattle.types_rules.proofs.Rational.{swap_hit, swap_miss}
use Rattle.types_rules.specs.Classes.{Wf, next, rep, swap}
use Rattle.types_rules.specs.Equations.{Pairs, end, pair}

unfoldable pub bit : Bool → ℕ
bit true = 1
bit false = 0

unfoldable pub hops : {N : Type 0} → (N → N → Bool) → Pairs N → N → ℕ
hops same end n = 0
hops same (pair a b L) n = bit (same (rep same L n) a) + hops same L n

module _ (N : Type 0) (same : N → N → Bool) (same-eq : (a b : N) → same a b ≡ true → a ≡ b) (same-ne : (a b : N) → same a b ≡ false → a ≡ b → ⊥) where
  root_c : (a b n : N) (L : Pairs N) → rep same L b ≡ b → (b ≡ a → ⊥) → (rep same L n ≡ n → hops same L n ≡ 0) → swap same a b (rep same L n) ≡ n →
      (c : Bool) → same (rep same L n) a ≡ c → bit c + hops same L n ≡ 0
  unfolding bit
  root_c a b n L rb ne ih e true q =
      let m = same-eq _ _ q in
      absurd (ne (sym rb ∙ ap (rep same L) (sym (swap_hit N same same-eq same-ne a b _ m) ∙ e) ∙ m))
  root_c a b n L rb ne ih e false q = omega (arith, ih (sym (swap_miss N same same-eq same-ne a b _ (same-ne _ _ q)) ∙ e))

  pub root_hops : (L : Pairs N) → Wf same L → (n : N) → rep same L n ≡ n → hops same L n ≡ 0
  unfolding hops rep
  root_hops end h n e = refl
  root_hops (pair a b L) h n e = root_c a b n L h.1 h.2 (root_hops L h.3 n) e (same (rep same L n) a) refl

  none_c : (a b n : N) (L : Pairs N) → (next same L n ≡ none → rep same L n ≡ n) → (c : Bool) → same n a ≡ c →
      ◌≡◌ {A = Option N} (elim c as (λ x. Option N) [ true ↦ some b | false ↦ next same L n ]) none → swap same a b (rep same L n) ≡ n
  none_c a b n L ih true q e = let z : ◌≡◌ {A = ℕ} 0 1 = cc in absurd (omega arith)
  none_c a b n L ih false q e = ap (swap same a b) (ih e) ∙ swap_miss N same same-eq same-ne a b n (same-ne _ _ q)

  -- No link: a representative.
  pub next_none : (L : Pairs N) (n : N) → next same L n ≡ none → rep same L n ≡ n
  unfolding next rep
  next_none end n e = refl
  next_none (pair a b L) n e = none_c a b n L (next_none L n) (same n a) refl e

  some_inj : (a b : N) → some a ≡ some b → a ≡ b
  some_inj a b q = cc

  hop_one : (a b : N) (L : Pairs N) → rep same L a ≡ a → hops same (pair a b L) a ≡ suc (hops same L a)
  unfolding hops bit
  hop_one a b L ra = go (same (rep same L a) a) refl
    where
      go : (c : Bool) → same (rep same L a) a ≡ c → bit c + hops same L a ≡ suc (hops same L a)
      go true q = omega arith
      go false q = absurd (same-ne _ _ q ra)

  hop_miss : (a b n : N) (L : Pairs N) → (rep same L n ≡ a → ⊥) → hops same (pair a b L) n ≡ hops same L n
  unfolding hops bit
  hop_miss a b n L ne = go (same (rep same L n) a) refl
    where
      go : (c : Bool) → same (rep same L n) a ≡ c → bit c + hops same L n ≡ hops same L n
      go true q = absurd (ne (same-eq _ _ q))
      go false q = omega arith

  hop_same : (a b m n : N) (L : Pairs N) → rep same L m ≡ rep same L n → hops same L m < hops same L n → hops same (pair a b L) m < hops same (pair a b L) n
  unfolding hops
  hop_same a b m n L e l = omega (arith, ap (λ z. bit (same z a)) e)

  some_c : (a b n m : N) (L : Pairs N) → Wf same (pair a b L) → (next same L n ≡ some m → (rep same L m ≡ rep same L n) × (hops same L m < hops same L n)) →
      (c : Bool) → same n a ≡ c → (elim c as (λ x. Option N) [ true ↦ some b | false ↦ next same L n ]) ≡ some m →
      (swap same a b (rep same L m) ≡ swap same a b (rep same L n)) × (hops same (pair a b L) m < hops same (pair a b L) n)
  some_c a b n m L h ih true q e =
      let na = same-eq _ _ q in
      let mb = some_inj b m e in (
        ap (λ z. swap same a b (rep same L z)) (sym mb) ∙ ap (swap same a b) h.1 ∙ swap_miss N same same-eq same-ne a b b h.2
            ∙ sym (swap_hit N same same-eq same-ne a b _ (ap (rep same L) na ∙ h.0)),
        omega (arith, ap (hops same (pair a b L)) mb, ap (hops same (pair a b L)) na, hop_one a b L h.0, hop_miss a b b L (λ z. h.2 (sym h.1 ∙ z)), root_hops L h.3 b h.1),
      )
  some_c a b n m L h ih false q e = (ap (swap same a b) (ih e).0, hop_same a b m n L (ih e).0 (ih e).1)

  -- A link: the same representative, and fewer links to go.
  pub next_some : (L : Pairs N) → Wf same L → (n m : N) → next same L n ≡ some m → (rep same L m ≡ rep same L n) × (hops same L m < hops same L n)
  unfolding next rep
  next_some end h n m e = let z : ◌≡◌ {A = ℕ} 0 1 = cc in absurd (omega arith)
  next_some (pair a b L) h n m e = some_c a b n m L h (next_some L h.3 n m) (same n a) refl e
