-- Laws of how far a value's words reach: at a place of a slice, and one turn of the loop over heads.
use Rattle.std.proofs.Common.{◌≡◌, ℕ, zero, suc, ◌+◌, ◌-◌, ◌<◌, ◌≤◌, cond, eqb, leb, List, get_or, drop, sym, refl, ap, ◌∙◌, add-zero, add_assoc, arith, get_or-drop, drop-drop}
use Rattle.values.specs.Span.{head, parts, spans}

pub first_word : (w : List ℕ) (at : ℕ) → get_or (drop at w) 0 0 ≡ get_or w at 0
first_word w at = get_or-drop at w 0 0 ∙ ap (λ (i : ℕ). get_or w i 0) (add-zero at)

pub head_at : (w : List ℕ) (at : ℕ) → head (drop at w) ≡ cond (eqb (get_or w at 0) 2) 3 2
unfolding head
head_at w at = ap (λ (x : ℕ). cond (eqb x 2) 3 2) (first_word w at)

pub parts_at : (w : List ℕ) (at : ℕ) → parts (drop at w) ≡ cond (leb (get_or w at 0) 2) 0 (get_or w (at + 1) 0)
unfolding parts
parts_at w at = ap (λ (x : ℕ). cond (leb x 2) 0 (get_or (drop at w) 1 0)) (first_word w at) ∙ ap (λ (x : ℕ). cond (leb (get_or w at 0) 2) 0 x) (get_or-drop at w 1 0)

pub spans_none : (n : ℕ) (ws : List ℕ) → spans n 0 ws ≡ 0
unfolding spans
spans_none zero ws = refl
spans_none (suc n) ws = refl

turn : (n left : ℕ) (ws : List ℕ) → 0 < left → spans (suc n) left ws ≡ head ws + spans n (parts ws + left - 1) (drop (head ws) ws)
unfolding spans
turn n zero ws h = absurd (omega arith)
turn n (suc left) ws h = ap (λ (k : ℕ). head ws + spans n k (drop (head ws) ws)) (omega arith)

module _ (w : List ℕ) (at left i : ℕ) where
  pub spans_go : i < 32 → 0 < left → (h p : ℕ) → h ≡ head (drop at w) → p ≡ parts (drop at w) →
      at + spans (32 - i) left (drop at w) ≡ at + h + spans (32 - (i + 1)) (p + left - 1) (drop (at + h) w)
  spans_go l g h p e q =
      let f : 32 - i ≡ suc (32 - (i + 1)) = omega arith in
      rw (f, turn (32 - (i + 1)) left (drop at w) g, ← e, ← q, drop-drop h at w) (sym (add_assoc at h _))

  pub spans_end : 32 ≤ i → at + spans (32 - i) left (drop at w) ≡ at
  unfolding spans
  spans_end l =
      let f : 32 - i ≡ 0 = omega arith in
      rw f (add-zero at)

  pub spans_stop : left ≡ 0 → at + spans (32 - i) left (drop at w) ≡ at
  spans_stop e = rw (e, spans_none (32 - i) (drop at w)) (add-zero at)
