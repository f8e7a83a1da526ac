-- A cell given a type: what changes, and what solutions make of it.
use mathlib.Core.Path.{◌≡◌, refl, sym, ap, ap₂, subst, ◌∙◌}
use mathlib.Core.Bool.{Bool, true, false}
use mathlib.Core.List.{List, ◌++◌}
use Prim.Native.Nat.{ℕ, ◌+◌, ◌-◌, ◌≤◌, ◌<◌}
use native.Mathlib.Omega.{arith}
use lib.Dec.{eqb}
use lib.ListN.{set, length-set}
use lib.Seq.{get_or-set_same, get_or-set_other, take-set-le}
use borrow.Author.Tests.{eqb-true, eqb-false}
use Rattle.types_rules.proofs.Terms.{bool_no}
use Rattle.types_rules.proofs.Trees.{whole_same}
use Rattle.types_rules.specs.Classes.{Closed}
use Rattle.types_rules.specs.Equations.{AllP, Pairs, end}
use Rattle.types_rules.specs.Follows.{Follows}
use Rattle.types_rules.specs.Trees.{Extent, Tree, whole}
use Rattle.types_rules.specs.Types.{Ty}
use Rattle.types_cells.specs.Layout.{max_cells, pool_size, links_at, settled_from}
use Rattle.types_cells.specs.Store.{frozen, link_at, link_part, tag_at, view, Held, Solved}
use Rattle.types_cells.specs.Settled.{lower, heap, Reads, Readable, word_at, Pinned, ObeysIn, SameType, Kept, Pinning, Pin, Settling}
use Rattle.types_cells.proofs.Words.{frozen_set, link_none}
use Rattle.types_cells.proofs.LinkLaws.{held_same}
use Rattle.types_cells.proofs.Reading.{reads_one}

pub heap_kept : (s s' d : List ℕ) → lower s' ≡ lower s → heap s' d ≡ heap s d
unfolding heap
heap_kept s s' d e = ap (λ l. l ++ d) e

pub kept_refl : (s : List ℕ) → Kept s s
kept_refl s = record { size = refl; low = refl; still = refl; links = λ i. refl; rest = λ i l. refl }

pub kept_on : (s t u : List ℕ) → Kept s t → Kept t u → Kept s u
kept_on s t u a b = record {
  size = b.size ∙ a.size;
  low = b.low ∙ a.low;
  still = b.still ∙ a.still;
  links = λ i. b.links i ∙ a.links i;
  rest = λ i l. b.rest i l ∙ a.rest i l;
}

pub kept_held : (s t : List ℕ) → Kept s t → (n : ℕ) (L : Pairs ℕ) → Held s n L → Held t n L
kept_held s t K n L H = held_same s t K.still n L K.size (λ i l. K.links i) H

pub solved_kept : (s t : List ℕ) → Kept s t → (n : ℕ) (P₀ L : Pairs ℕ) → Solved s n P₀ L → Solved t n P₀ L
solved_kept s t K n P₀ L S = record {
  held = kept_held s t K n L S.held;
  closed = subst (λ w. Closed eqb (view w n) P₀ L end) (sym K.still) S.closed;
  follows = subst (λ w. AllP (Follows (view w n) P₀) L) (sym K.still) S.follows;
  asked = S.asked;
}

-- An unknown r with no link and no type yet.
module _ (s d : List ℕ) (r p : ℕ) (S : Settling s d r p) where
  abbrev P : Pinning s d r p
  P = S.pinning

  abbrev H : List ℕ
  H = heap s d

  few : r < max_cells
  few = let f = P.held.few in let l = P.made in omega arith

  abbrev s₁ : List ℕ
  s₁ = set s (links_at + r) (settled_from + p)

  hit : word_at s₁ r ≡ settled_from + p
  unfolding word_at
  hit = get_or-set_same s (links_at + r) (settled_from + p) 0 (let z = P.held.size in let f = few in omega arith)

  miss : (i : ℕ) → (i ≡ r → ⊥) → word_at s₁ i ≡ word_at s i
  unfolding word_at
  miss i d' = get_or-set_other s (links_at + r) (links_at + i) (settled_from + p) 0 (λ e. d' (omega arith))

  link_c : (i : ℕ) (b : Bool) → eqb i r ≡ b → link_at s₁ i ≡ link_at s i
  unfolding link_at word_at
  link_c i true e =
      let q = eqb-true i r e in
      ap (λ z. link_at s₁ z) q ∙ ap link_part hit ∙ link_none (settled_from + p) (omega arith) ∙ sym (ap (λ z. link_at s z) q ∙ S.root)
  link_c i false e = ap link_part (miss i (eqb-false i r e))

  kept₁ : Kept s s₁
  unfolding lower
  kept₁ = record {
    size = length-set s (links_at + r) (settled_from + p);
    low = take-set-le pool_size s (links_at + r) (settled_from + p) (omega arith);
    still = frozen_set s (links_at + r) (settled_from + p) (let f = few in omega arith);
    links = λ i. link_c i (eqb i r) refl;
    rest = λ i l. get_or-set_other s (links_at + r) i (settled_from + p) 0 (λ e. let f = few in omega arith);
  }

  eh : heap s₁ d ≡ heap s d
  eh = heap_kept s s₁ d kept₁.low

  place : settled_from + p - settled_from ≡ p
  place = omega arith

  pinned_c : (n : ℕ) → Pinned s d n → (i : ℕ) → i < n → (b : Bool) → eqb i r ≡ b → settled_from ≤ word_at s₁ i → Readable (heap s₁ d) (word_at s₁ i - settled_from)
  pinned_c n Q i l true e v =
      let q = eqb-true i r e in
      subst (λ z. Readable z (word_at s₁ i - settled_from)) (sym eh) (subst (Readable (heap s d)) (sym (ap (λ z. word_at s₁ z - settled_from) q ∙ ap (λ z. z - settled_from) hit ∙ place)) P.readable)
  pinned_c n Q i l false e v =
      let m = miss i (eqb-false i r e) in
      subst (λ z. Readable z (word_at s₁ i - settled_from)) (sym eh) (subst (λ z. Readable (heap s d) (z - settled_from)) (sym m) (Q.reads i l (omega arith)))

  bare_c : (n : ℕ) → Pinned s d n → (i : ℕ) → i < n → (b : Bool) → eqb i r ≡ b → settled_from ≤ word_at s₁ i → tag_at (frozen s₁) i ≡ 0
  bare_c n Q i l true e v = ap₂ tag_at kept₁.still (eqb-true i r e) ∙ S.open_cell
  bare_c n Q i l false e v = let m = miss i (eqb-false i r e) in ap (λ z. tag_at z i) kept₁.still ∙ Q.bare i l (omega arith)

  module _ (none : word_at s r < settled_from) where
    pub settled_before : (ε : Extent) (n : ℕ) (σ : ℕ → Tree ε) → ObeysIn ε s₁ d n σ → ObeysIn ε s d n σ
    settled_before ε n σ O i l v g R =
        let ne : i ≡ r → ⊥ = λ q. let z = ap (word_at s) q in omega arith in
        let m = miss i ne in
        O i l (omega arith) g (subst (λ z. Reads z (word_at s₁ i - settled_from) g) (sym eh) (subst (λ z. Reads (heap s d) (z - settled_from) g) (sym m) R))

    pub settled_after : (ε : Extent) (n : ℕ) (g : Ty) → Reads (heap s d) p g → (σ : ℕ → Tree ε) → ObeysIn ε s d n σ → σ r ≡ whole ε g → ObeysIn ε s₁ d n σ
    settled_after ε n g R σ O f i l v k Q = go (eqb i r) refl
      where
        go : (b : Bool) → eqb i r ≡ b → σ i ≡ whole ε k
        go true z =
            let q = eqb-true i r z in
            ap σ q ∙ f
            ∙ ap (whole ε) (reads_one (heap s d) p g k R (subst (λ y. Reads y p k) eh (subst (λ y. Reads (heap s₁ d) y k) (ap (λ y. word_at s₁ y - settled_from) q ∙ ap (λ y. y - settled_from) hit ∙ place) Q)))
        go false z =
            let m = miss i (eqb-false i r z) in
            O i l (omega arith) k (subst (λ y. Reads (heap s d) (y - settled_from) k) m (subst (λ y. Reads y (word_at s₁ i - settled_from) k) eh Q))

    pub settled_type : (ε : Extent) (n : ℕ) → r < n → (g : Ty) → Reads (heap s d) p g → (σ : ℕ → Tree ε) → ObeysIn ε s₁ d n σ → σ r ≡ whole ε g
    settled_type ε n l g R σ O =
        O r l (let z = hit in omega arith) g (subst (λ z. Reads z (word_at s₁ r - settled_from) g) (sym eh) (subst (λ z. Reads (heap s d) z g) (sym (ap (λ z. z - settled_from) hit ∙ place)) R))

    pub settled : Pin s s₁ d r p true
    settled = record {
      kept = kept₁;
      pinned = λ f n L h Q l. record { reads = λ i m. pinned_c n Q i m (eqb i r) refl; bare = λ i m. bare_c n Q i m (eqb i r) refl };
      goes = λ f n L h Q l g R ε σ F Sv. record {
        before = settled_before ε n σ;
        type = settled_type ε n l g R σ;
        after = settled_after ε n g R σ;
      };
      stops = λ f. absurd (bool_no true refl f);
    }

  -- r refers to a type already.
  pub compared : (b : Bool) → settled_from ≤ word_at s r → SameType s d p (word_at s r - settled_from) b → Pin s s d r p b
  compared b v T = record {
    kept = kept_refl s;
    pinned = λ f n L h Q l. Q;
    goes = λ f n L h Q l g R ε σ F Sv.
        let D = Q.reads r l v in
        let same : g ≡ D.type = (T.tells g D.type R D.reads).holds f in
        record { before = λ O. O; type = λ O. O r l v D.type D.reads ∙ ap (whole ε) (sym same); after = λ O q. O };
    stops = λ f n L h Q l g R ε σ F Sv O q.
        let D = Q.reads r l v in
        (T.tells g D.type R D.reads).fails f (whole_same ε g D.type (sym q ∙ O r l v D.type D.reads));
  }
