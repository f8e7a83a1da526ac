-- Items between pieces, one after another.
use mathlib.Core.Path.{◌≡◌, refl, sym, subst, ◌∙◌}
use mathlib.Core.List.{List}
use mathlib.Core.Logic.{◌↔◌, inl, inr, ⊎_elim}
use Prim.Native.Nat.{ℕ, ◌≤◌, ◌<◌}
use Rattle.types_rules.specs.Types.{Ty, Term, size}
use Rattle.types_rules.specs.Trees.{Extent, Tree}
use Rattle.checker_rules.specs.Unknowns.{Valuation}
use Rattle.checker_rules.specs.Items.{Items, skip, ◌⨾◌, equate, small, refusal, Meets, MeetsIn, Any, And, Passes, Refuses}
use Rattle.checker_rules.proofs.ItemLaws.{passes_ext, refuses_ext}
use Rattle.checker_pieces.specs.Piece.{Steady, Walked, Settled}

-- Two lists of items after H, or the second in a row of them.
pub after : (H a : Items) (ε : Extent) (τ : ℕ → Tree ε) → MeetsIn (H ⨾ a) ε τ ↔ And (MeetsIn H) a ε τ
unfolding MeetsIn
after H a ε τ = (λ h. (h.0, h.1), λ h. (h.0, h.1))

pub passes_then : (H a b : Items) → Passes a (MeetsIn H) → Passes b (MeetsIn (H ⨾ a)) → Passes (a ⨾ b) (MeetsIn H)
unfolding Passes
passes_then H a b p q = (p, passes_ext b (MeetsIn (H ⨾ a)) (And (MeetsIn H) a) (after H a) q)

-- Items after those that pass.
pub passes_after : (H a : Items) → Passes H Any → Passes a (MeetsIn H) → Passes (H ⨾ a) Any
unfolding Passes MeetsIn
passes_after H a p q = (p, passes_ext a (MeetsIn H) (And Any H) (λ ε τ. (λ h. (tt, h), λ h. h.1)) q)

pub refuses_first : (H a b : Items) (f m : ℕ) → Refuses a (MeetsIn H) f m → Refuses (a ⨾ b) (MeetsIn H) f m
unfolding Refuses
refuses_first H a b f m r = inl r

pub refuses_second : (H a b : Items) (f m : ℕ) → Passes a (MeetsIn H) → Refuses b (MeetsIn (H ⨾ a)) f m → Refuses (a ⨾ b) (MeetsIn H) f m
unfolding Refuses
refuses_second H a b f m p r = inr (p, refuses_ext b (MeetsIn (H ⨾ a)) (And (MeetsIn H) a) f m (after H a) r)

-- ITEMS THAT HOLD ANYWAY.
pub walked_noted : (H c : Items) (U : List ℕ) (Mine : ℕ → Type 0) → Steady H U → Passes c (MeetsIn H) → ((τ : Valuation) → Meets H τ → Meets c τ) → Walked H c U U Mine
unfolding MeetsIn
walked_noted H c U Mine S p holds = record {
  goes = p;
  steady = record {
    passes = passes_after H c S.passes p;
    local = λ τ τ' h m. let k = S.local τ τ' h m.0 in (k, holds τ' k);
    some = (S.some.0, (S.some.1, holds S.some.0 S.some.1));
  };
  extends = λ τ m. (τ, (m, holds τ m), λ x i. refl);
  wider = λ x i. i;
  new = λ x i. inl i;
}

pub walked_skip : (H : Items) (U : List ℕ) (Mine : ℕ → Type 0) → Steady H U → Walked H skip U U Mine
unfolding Passes MeetsIn
walked_skip H U Mine S = walked_noted H skip U Mine S tt (λ τ m. tt)

-- ONE AFTER THE OTHER.
pub walked_then : (H a b : Items) (U U' U'' : List ℕ) (Mine : ℕ → Type 0) → Steady H U → Walked H a U U' Mine → Walked (H ⨾ a) b U' U'' Mine → Walked H (a ⨾ b) U U'' Mine
unfolding MeetsIn
walked_then H a b U U' U'' Mine S A B = record {
  goes = passes_then H a b A.goes B.goes;
  steady = record {
    passes = passes_after H (a ⨾ b) S.passes (passes_then H a b A.goes B.goes);
    local = λ τ τ' h m. let k = B.steady.local τ τ' h ((m.0, m.1.0), m.1.1) in (k.0.0, (k.0.1, k.1));
    some = let k = B.steady.some in (k.0, (k.1.0.0, (k.1.0.1, k.1.1)));
  };
  extends = λ τ m.
      let x = A.extends τ m in
      let y = B.extends x.0 x.1 in
      (y.0, (y.1.0.0, (y.1.0.1, y.1.1)), λ z i. y.2 z (A.wider z i) ∙ x.2 z i);
  wider = λ x i. B.wider x (A.wider x i);
  new = λ x i. ⊎_elim (λ k. A.new x k) inr (B.new x i);
}

pub walked_mine : (H c : Items) (U U' : List ℕ) (Mine Mine' : ℕ → Type 0) → ((x : ℕ) → Mine x → Mine' x) → Walked H c U U' Mine → Walked H c U U' Mine'
walked_mine H c U U' Mine Mine' h W = record {
  goes = W.goes;
  steady = W.steady;
  extends = W.extends;
  wider = W.wider;
  new = λ x i. ⊎_elim inl (λ k. inr (h x k)) (W.new x i);
}

-- SETTLED TERMS: 36 and 38 are decided by their types.
pub settled_later : (H c : Items) (a : Term) (g : Ty) → Settled H a g → Settled (H ⨾ c) a g
unfolding MeetsIn
settled_later H c a g S τ m = S τ m.0

pub equal_noted : (H : Items) (U : List ℕ) (Mine : ℕ → Type 0) (f n : ℕ) (a b : Term) (g : Ty) → Steady H U → Settled H a g → Settled H b g → Walked H (equate f n a b) U U Mine
unfolding Passes MeetsIn
equal_noted H U Mine f n a b g S A B = walked_noted H (equate f n a b) U Mine S
    (S.some.0, S.some.1, A S.some.0 S.some.1 ∙ sym (B S.some.0 S.some.1)) (λ τ m. A τ m ∙ sym (B τ m))

pub equal_refused : (H : Items) (f n : ℕ) (a b : Term) (g k : Ty) → Settled H a g → Settled H b k → (g ≡ k → ⊥) → Refuses (equate f n a b) (MeetsIn H) f n
unfolding Refuses
equal_refused H f n a b g k A B d = (refl, refl, λ τ m e. d (sym (A τ m) ∙ e ∙ B τ m))

pub small_noted : (H : Items) (U : List ℕ) (Mine : ℕ → Type 0) (n : ℕ) (a : Term) (g : Ty) → Steady H U → Settled H a g → size g ≤ 32 → Walked H (small n a) U U Mine
unfolding Passes MeetsIn
small_noted H U Mine n a g S A l = walked_noted H (small n a) U Mine S (λ τ m. subst (λ z. size z ≤ 32) (sym (A τ m)) l) (λ τ m. subst (λ z. size z ≤ 32) (sym (A τ m)) l)

pub small_refused : (H : Items) (U : List ℕ) (n : ℕ) (a : Term) (g : Ty) → Steady H U → Settled H a g → 32 < size g → Refuses (small n a) (MeetsIn H) 38 n
unfolding Refuses
small_refused H U n a g S A l = (refl, refl, (S.some.0, S.some.1, subst (λ z. 32 < size z) (sym (A S.some.0 S.some.1)) l))

pub refused : (H : Items) (f n : ℕ) → Refuses (refusal f n) (MeetsIn H) f n
unfolding Refuses
refused H f n = (refl, refl)
