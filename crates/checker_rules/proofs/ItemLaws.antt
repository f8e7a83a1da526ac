-- The finding is one; items that pass are met by a valuation; such valuations agree on every piece.
use mathlib.Core.Path.{◌≡◌, sym, ◌∙◌}
use mathlib.Core.Logic.{◌↔◌, inl, inr}
use Prim.Native.Nat.{ℕ}
use native.Mathlib.Omega.{arith}
use Rattle.types_rules.specs.Trees.{Extent, finite, infinite, Tree}
use Rattle.checker_rules.specs.Unknowns.{Valuation}
use Rattle.checker_rules.specs.Items.{Items, skip, ◌⨾◌, fresh, equations, equate, select, small, refusal, piece, Meets, Agree, And, Passes, Unsolved, Refuses, MeetsIn, Typings}

-- The finding is one.
pub not_both : (t : Items) (P : Typings) (f m : ℕ) → Passes t P → Refuses t P f m → ⊥
unfolding Passes Refuses
not_both skip P f m p r = r
not_both (a ⨾ b) P f m p (inl r) = not_both a P f m p.0 r
not_both (a ⨾ b) P f m p (inr r) = not_both b (And P a) f m p.1 r.1
not_both (fresh x) P f m p r = r
not_both (equations n es) P f m p r = r.1 p.0 p.1 p.2
not_both (equate g n a b) P f m p r = r.2 p.0 p.1 p.2
not_both (select n i a x) P f m p (inl r) = r.2.2 (p.0 r.2.0 r.2.1)
not_both (select n i a x) P f m p (inr r) = r.3 p.1.0 p.1.1 p.1.2
not_both (small n a) P f m p r = omega (arith, p r.2.0 r.2.1, r.2.2)
not_both (refusal g n) P f m p r = p
not_both (piece n t) P f m p (inl r) = not_both t P f m p.0 r
not_both (piece n t) P f m p (inr r) = r.3.4 (p.1 r.3.0 r.3.1 r.3.2 r.3.3)

unsolved_one : (f g : ℕ) (A : Type 0) → Unsolved f A → Unsolved g A → f ≡ g
unsolved_one f g A (inl p) (inl r) = p.0 ∙ sym r.0
unsolved_one f g A (inl p) (inr r) = absurd (p.1 r.1)
unsolved_one f g A (inr p) (inl r) = absurd (r.1 p.1)
unsolved_one f g A (inr p) (inr r) = p.0 ∙ sym r.0

pub one : (t : Items) (P : Typings) (f m g k : ℕ) → Refuses t P f m → Refuses t P g k → (f ≡ g) × (m ≡ k)
unfolding Refuses
one skip P f m g k p r = absurd r
one (a ⨾ b) P f m g k (inl p) (inl r) = one a P f m g k p r
one (a ⨾ b) P f m g k (inl p) (inr r) = absurd (not_both a P f m r.0 p)
one (a ⨾ b) P f m g k (inr p) (inl r) = absurd (not_both a P g k p.0 r)
one (a ⨾ b) P f m g k (inr p) (inr r) = one b (And P a) f m g k p.1 r.1
one (fresh x) P f m g k p r = absurd r
one (equations n es) P f m g k p r = (unsolved_one f g _ p.2 r.2, p.0 ∙ sym r.0)
one (equate z n a b) P f m g k p r = (p.0 ∙ sym r.0, p.1 ∙ sym r.1)
one (select n i a x) P f m g k (inl p) (inl r) = (p.0 ∙ sym r.0, p.1 ∙ sym r.1)
one (select n i a x) P f m g k (inl p) (inr r) = absurd (p.2.2 (r.2 p.2.0 p.2.1))
one (select n i a x) P f m g k (inr p) (inl r) = absurd (r.2.2 (p.2 r.2.0 r.2.1))
one (select n i a x) P f m g k (inr p) (inr r) = (p.0 ∙ sym r.0, p.1 ∙ sym r.1)
one (small n a) P f m g k p r = (p.0 ∙ sym r.0, p.1 ∙ sym r.1)
one (refusal z n) P f m g k p r = (p.0 ∙ sym r.0, p.1 ∙ sym r.1)
one (piece n t) P f m g k (inl p) (inl r) = one t P f m g k p r
one (piece n t) P f m g k (inl p) (inr r) = absurd (not_both t P f m r.0 p)
one (piece n t) P f m g k (inr p) (inl r) = absurd (not_both t P g k p.0 r)
one (piece n t) P f m g k (inr p) (inr r) = (p.1 ∙ sym r.1, p.2 ∙ sym r.2)

-- Items that pass are met by a valuation.
pub table : (t : Items) (P : Typings) → Passes t P → (τ : Valuation) → P finite τ → (σ : Valuation) × P finite σ × Meets t σ
unfolding Passes MeetsIn
table skip P p τ h = (τ, h, tt)
table (a ⨾ b) P p τ h = let x = table a P p.0 τ h in let y = table b (And P a) p.1 x.0 (x.1, x.2) in (y.0, y.1.0, (y.1.1, y.2))
table (fresh x) P p τ h = (τ, h, tt)
table (equations n es) P p τ h = p
table (equate g n a b) P p τ h = p
table (select n i a x) P p τ h = p.1
table (small n a) P p τ h = (τ, h, p τ h)
table (refusal g n) P p τ h = absurd p
table (piece n t) P p τ h = table t P p.0 τ h

-- Two valuations agree on the unknowns of every piece.
unfoldable pub Agrees : Items → Valuation → Valuation → Type 0
Agrees skip σ τ = Unit {0}
Agrees (a ⨾ b) σ τ = Agrees a σ τ × Agrees b σ τ
Agrees (fresh x) σ τ = Unit {0}
Agrees (equations n es) σ τ = Unit {0}
Agrees (equate g n a b) σ τ = Unit {0}
Agrees (select n i a x) σ τ = Unit {0}
Agrees (small n a) σ τ = Unit {0}
Agrees (refusal g n) σ τ = ⊥
Agrees (piece n t) σ τ = Agree t σ τ × Agrees t σ τ

-- So do all valuations that meet items that pass.
pub agreed : (t : Items) (P : Typings) (σ τ : Valuation) → Passes t P → And P t finite σ → And P t finite τ → Agrees t σ τ
unfolding Passes MeetsIn Agrees
agreed skip P σ τ p a b = tt
agreed (x ⨾ y) P σ τ p a b = (agreed x P σ τ p.0 (a.0, a.1.0) (b.0, b.1.0), agreed y (And P x) σ τ p.1 ((a.0, a.1.0), a.1.1) ((b.0, b.1.0), b.1.1))
agreed (fresh x) P σ τ p a b = tt
agreed (equations n es) P σ τ p a b = tt
agreed (equate g n x y) P σ τ p a b = tt
agreed (select n i x y) P σ τ p a b = tt
agreed (small n x) P σ τ p a b = tt
agreed (refusal g n) P σ τ p a b = p
agreed (piece n t) P σ τ p a b = (p.1 σ τ a b, agreed t P σ τ p.0 a b)

-- Only which valuations meet P matters.
abbrev pub Alike : Typings → Typings → Type 0
Alike P Q = (w : Extent) (τ : ℕ → Tree w) → P w τ ↔ Q w τ

pub alike_and : (P Q : Typings) (t : Items) → Alike P Q → Alike (And P t) (And Q t)
alike_and P Q t e w τ = (λ h. ((e w τ).0 h.0, h.1), λ h. ((e w τ).1 h.0, h.1))

pub passes_ext : (t : Items) (P Q : Typings) → Alike P Q → Passes t P → Passes t Q
unfolding Passes
passes_ext skip P Q e p = tt
passes_ext (a ⨾ b) P Q e p = (passes_ext a P Q e p.0, passes_ext b (And P a) (And Q a) (alike_and P Q a e) p.1)
passes_ext (fresh x) P Q e p = tt
passes_ext (equations n es) P Q e p = (p.0, (e finite p.0).0 p.1, p.2)
passes_ext (equate g n a b) P Q e p = (p.0, (e finite p.0).0 p.1, p.2)
passes_ext (select n i a x) P Q e p = (λ τ h. p.0 τ ((e finite τ).1 h), (p.1.0, (e finite p.1.0).0 p.1.1, p.1.2))
passes_ext (small n a) P Q e p = λ τ h. p τ ((e finite τ).1 h)
passes_ext (refusal g n) P Q e p = p
passes_ext (piece n t) P Q e p = (passes_ext t P Q e p.0, λ σ τ a b. p.1 σ τ ((e finite σ).1 a.0, a.1) ((e finite τ).1 b.0, b.1))

pub unsolved_map : (f : ℕ) (A B : Type 0) → A ↔ B → Unsolved f A → Unsolved f B
unsolved_map f A B e (inl u) = inl (u.0, λ b. u.1 (e.1 b))
unsolved_map f A B e (inr u) = inr (u.0, e.0 u.1)

pub refuses_ext : (t : Items) (P Q : Typings) (f m : ℕ) → Alike P Q → Refuses t P f m → Refuses t Q f m
unfolding Refuses
refuses_ext skip P Q f m e r = r
refuses_ext (a ⨾ b) P Q f m e (inl r) = inl (refuses_ext a P Q f m e r)
refuses_ext (a ⨾ b) P Q f m e (inr r) = inr (passes_ext a P Q e r.0, refuses_ext b (And P a) (And Q a) f m (alike_and P Q a e) r.1)
refuses_ext (fresh x) P Q f m e r = r
refuses_ext (equations n es) P Q f m e r = (
  r.0,
  λ τ h. r.1 τ ((e finite τ).1 h),
  unsolved_map f _ _ (λ z. (z.0, (e infinite z.0).0 z.1, z.2), λ z. (z.0, (e infinite z.0).1 z.1, z.2)) r.2,
)
refuses_ext (equate g n a b) P Q f m e r = (r.0, r.1, λ τ h. r.2 τ ((e finite τ).1 h))
refuses_ext (select n i a x) P Q f m e (inl r) = inl (r.0, r.1, (r.2.0, (e finite r.2.0).0 r.2.1, r.2.2))
refuses_ext (select n i a x) P Q f m e (inr r) = inr (r.0, r.1, λ τ h. r.2 τ ((e finite τ).1 h), λ τ h. r.3 τ ((e finite τ).1 h))
refuses_ext (small n a) P Q f m e r = (r.0, r.1, (r.2.0, (e finite r.2.0).0 r.2.1, r.2.2))
refuses_ext (refusal g n) P Q f m e r = r
refuses_ext (piece n t) P Q f m e (inl r) = inl (refuses_ext t P Q f m e r)
refuses_ext (piece n t) P Q f m e (inr r) =
    inr (passes_ext t P Q e r.0, r.1, r.2, (r.3.0, r.3.1, ((e finite r.3.0).0 r.3.2.0, r.3.2.1), ((e finite r.3.1).0 r.3.3.0, r.3.3.1), r.3.4))
