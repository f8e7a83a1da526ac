-- A settled cell linked to another, and what solutions make of it.
use mathlib.Core.Path.{◌≡◌, refl, sym, ap, subst, ◌∙◌}
use mathlib.Core.Bool.{Bool, true, false}
use mathlib.Core.List.{List}
use Prim.Native.Nat.{ℕ, zero, suc, ◌+◌, ◌*◌, ◌-◌, ◌≤◌, ◌<◌}
use native.Mathlib.Omega.{arith}
use lib.Dec.{eqb}
use lib.ListN.{length, get_or, set, take, length-take}
use lib.Seq.{get_or-set_same, get_or-set_other, get_or-take, take-set-le, ext_get_or}
use borrow.Author.Tests.{eqb-true, eqb-false}
use Rattle.types_rules.proofs.Terms.{bool_no}
use Rattle.types_rules.proofs.Follows.{map_len}
use Rattle.types_rules.proofs.Transfer.{follows_holds}
use Rattle.types_rules.proofs.Trees.{build_former, build_parts}
use Rattle.types_rules.specs.Equations.{AllP, Pairs, Solves}
use Rattle.types_rules.specs.Follows.{Clash, Follows}
use Rattle.types_rules.specs.Trees.{Extent, Tree, build, whole}
use Rattle.types_rules.specs.Types.{Ty}
use Rattle.types_cells.specs.Layout.{max_cells, pool_size, links_at, pairs_at, seconds_at, settled_from, area_size}
use Rattle.types_cells.specs.Store.{frozen, tag_at, view, pending, Busy}
use Rattle.types_cells.specs.Settled.{lower, heap, Reads, Readable, word_at, Pinned, ObeysIn, FitsIn, Kept, Pinning, Pin}
use Rattle.types_unifier.specs.Merging.{Tying, Tied}
use Rattle.types_cells.proofs.Words.{frozen_set}
use Rattle.types_unifier.proofs.Linking.{weight_same, busy}
use Rattle.types_cells.proofs.Solutions.{sat_all}
use Rattle.types_cells.proofs.SettlingLaws.{heap_kept, kept_refl, kept_held}

-- Solutions of the equations solve the links.
pub busy_solves : (s : List ℕ) (n : ℕ) (P₀ L : Pairs ℕ) → AllP (Follows (view (frozen s) n) P₀) L → (ε : Extent) (σ : ℕ → Tree ε) → FitsIn ε (frozen s) n σ → Solves σ P₀ → Solves σ L
busy_solves s n P₀ L f ε σ F S = sat_all σ _ (follows_holds (build ε) (build_parts ε) (view (frozen s) n) P₀ σ F S) L f

-- Where two formers clash there is no solution.
pub clash_none : (w : List ℕ) (n : ℕ) (P₀ : Pairs ℕ) → Clash (view w n) P₀ → (ε : Extent) (σ : ℕ → Tree ε) → FitsIn ε w n σ → Solves σ P₀ → ⊥
clash_none w n P₀ c ε σ F S =
    let e = follows_holds (build ε) (build_parts ε) (view w n) P₀ σ F S c.n c.m c.meet in
    let q = sym (F c.n c.h c.cs c.vn) ∙ e ∙ F c.m c.g c.ds c.vm in
    c.differ (build_former ε _ _ _ _ q) (map_len σ c.cs c.ds (build_parts ε _ _ _ _ q))

-- Two areas with the same link words of cells but x's, and the same heap.
module _ (s t d : List ℕ) (n x : ℕ) (low : lower t ≡ lower s) (still : frozen t ≡ frozen s) (other : (i : ℕ) → (i ≡ x → ⊥) → word_at t i ≡ word_at s i) (free : word_at t x < settled_from) where
  eh : heap t d ≡ heap s d
  eh = heap_kept s t d low

  not_x : (i : ℕ) → settled_from ≤ word_at t i → i ≡ x → ⊥
  not_x i v e = let z = ap (word_at t) e in omega arith

  pub unlinked_pinned : Pinned s d n → Pinned t d n
  unlinked_pinned P = record {
    reads = λ i l v. let m = other i (not_x i v) in
        subst (λ z. Readable z (word_at t i - settled_from)) (sym eh) (subst (λ z. Readable (heap s d) (z - settled_from)) (sym m) (P.reads i l (omega arith)));
    bare = λ i l v. let m = other i (not_x i v) in ap (λ z. tag_at z i) still ∙ P.bare i l (omega arith);
  }

  pub unlinked_obeys : (ε : Extent) (σ : ℕ → Tree ε) → ObeysIn ε s d n σ → ObeysIn ε t d n σ
  unlinked_obeys ε σ O i l v g R =
      let m = other i (not_x i v) in
      O i l (omega arith) g (subst (λ z. Reads (heap s d) (z - settled_from) g) m (subst (λ z. Reads z (word_at t i - settled_from) g) eh R))

  pub linked_obeys : (ε : Extent) (σ : ℕ → Tree ε) → ObeysIn ε t d n σ → (settled_from ≤ word_at s x → (g : Ty) → Reads (heap s d) (word_at s x - settled_from) g → σ x ≡ whole ε g) → ObeysIn ε s d n σ
  linked_obeys ε σ O f i l v g R = go (eqb i x) refl
    where
      go : (b : Bool) → eqb i x ≡ b → σ i ≡ whole ε g
      go true e =
          let q = eqb-true i x e in
          ap σ q ∙ f (subst (λ z. settled_from ≤ word_at s z) q v) g (subst (λ z. Reads (heap s d) (word_at s z - settled_from) g) q R)
      go false e =
          let m = other i (eqb-false i x e) in
          O i l (omega arith) g (subst (λ z. Reads z (word_at t i - settled_from) g) (sym eh) (subst (λ z. Reads (heap s d) (z - settled_from) g) (sym m) R))

-- The link of x to y.
module _ (s d : List ℕ) (x y : ℕ) (size : length s ≡ area_size) (few_x : x < max_cells) (few_y : y < max_cells) where
  abbrev s₁ : List ℕ
  s₁ = set s (links_at + x) (suc y)

  pub low₁ : lower s₁ ≡ lower s
  unfolding lower
  low₁ = take-set-le pool_size s (links_at + x) (suc y) (omega arith)

  pub still₁ : frozen s₁ ≡ frozen s
  still₁ = frozen_set s (links_at + x) (suc y) (omega arith)

  pub hit₁ : word_at s₁ x ≡ suc y
  unfolding word_at
  hit₁ = get_or-set_same s (links_at + x) (suc y) 0 (omega arith)

  pub other₁ : (i : ℕ) → (i ≡ x → ⊥) → word_at s₁ i ≡ word_at s i
  unfolding word_at
  other₁ i d' = get_or-set_other s (links_at + x) (links_at + i) (suc y) 0 (λ e. d' (omega arith))

  pub free₁ : word_at s₁ x < settled_from
  free₁ = let h = hit₁ in omega arith

module _ (s d : List ℕ) (x y : ℕ) (T : Tying s d x y) where
  few_x : x < max_cells
  few_x = let f = T.held.few in let l = T.left in omega arith

  few_y : y < max_cells
  few_y = let f = T.held.few in let l = T.right in omega arith

  abbrev t : List ℕ
  t = set s (links_at + x) (suc y)

  lo : lower t ≡ lower s
  lo = low₁ s d x y T.size few_x few_y

  st : frozen t ≡ frozen s
  st = still₁ s d x y T.size few_x few_y

  ot : (i : ℕ) → (i ≡ x → ⊥) → word_at t i ≡ word_at s i
  ot = other₁ s d x y T.size few_x few_y

  fr : word_at t x < settled_from
  fr = free₁ s d x y T.size few_x few_y

  pub tied_none : word_at s x < settled_from → Tied s t d x y true
  tied_none v = record {
    kept = kept_refl t;
    same = λ f n L H P lx ly P₀ sv. record {
      pinned = unlinked_pinned s t d n x lo st ot fr P;
      to = λ ε σ F S O. unlinked_obeys s t d n x lo st ot fr ε σ O;
      from = λ ε σ F S O. linked_obeys s t d n x lo st ot fr ε σ O (λ w. absurd (omega arith));
    };
    stops = λ f. absurd (bool_no true refl f);
  }

  pub pinning_y : settled_from ≤ word_at s x → Pinning t d y (word_at s x - settled_from)
  pinning_y v = record {
    n = T.n;
    L = T.L;
    held = T.held;
    pinned = unlinked_pinned s t d T.n x lo st ot fr T.pinned;
    made = T.right;
    few = T.few;
    readable = subst (λ z. Readable z (word_at s x - settled_from)) (sym (heap_kept s t d lo)) (T.pinned.reads x T.left v);
  }

  module _ (u : List ℕ) (b : Bool) (v : settled_from ≤ word_at s x) (X : Pin t u d y (word_at s x - settled_from) b) where
    reads_t : (g : Ty) → Reads (heap s d) (word_at s x - settled_from) g → Reads (heap t d) (word_at s x - settled_from) g
    reads_t g R = subst (λ z. Reads z (word_at s x - settled_from) g) (sym (heap_kept s t d lo)) R

    fits_t : (n : ℕ) (ε : Extent) (σ : ℕ → Tree ε) → FitsIn ε (frozen s) n σ → FitsIn ε (frozen t) n σ
    fits_t n ε σ F = subst (λ z. FitsIn ε z n σ) (sym st) F

    pub tied_some : Tied s u d x y b
    tied_some = record {
      kept = X.kept;
      same = λ f n L H P lx ly P₀ sv.
          let Pt = unlinked_pinned s t d n x lo st ot fr P in
          let D = P.reads x lx v in
          record {
            pinned = X.pinned f n L H Pt ly;
            to = λ ε σ F S O.
                let z = sv ε σ F S in
                (X.goes f n L H Pt ly D.type (reads_t D.type D.reads) ε σ (fits_t n ε σ F) z.0).after (unlinked_obeys s t d n x lo st ot fr ε σ O) (sym z.1 ∙ O x lx v D.type D.reads);
            from = λ ε σ F S O.
                let z = sv ε σ F S in
                linked_obeys s t d n x lo st ot fr ε σ ((X.goes f n L H Pt ly D.type (reads_t D.type D.reads) ε σ (fits_t n ε σ F) z.0).before O)
                (λ w g R. z.1 ∙ (X.goes f n L H Pt ly g (reads_t g R) ε σ (fits_t n ε σ F) z.0).type O);
          };
      stops = λ f n L H P lx ly P₀ sv ε σ F S O.
          let Pt = unlinked_pinned s t d n x lo st ot fr P in
          let D = P.reads x lx v in
          let z = sv ε σ F S in
          X.stops f n L H Pt ly D.type (reads_t D.type D.reads) ε σ (fits_t n ε σ F) z.0 (unlinked_obeys s t d n x lo st ot fr ε σ O) (sym z.1 ∙ O x lx v D.type D.reads);
    }

-- The invariant of merging is kept where only settled cells change.
pending_kept : (s t : List ℕ) → Kept s t → (k : ℕ) → pending t k ≡ pending s k
unfolding pending
pending_kept s t K zero = refl
pending_kept s t K (suc k) =
    let a = K.rest (pairs_at + 2 * k) (omega arith) in
    let b = K.rest (seconds_at + 2 * k) (omega arith) in
    let r = pending_kept s t K k in
    cc

pub busy_kept : (s t : List ℕ) → Kept s t → (n : ℕ) (P₀ L : Pairs ℕ) (k : ℕ) → Busy s n P₀ L k → Busy t n P₀ L k
busy_kept s t K n P₀ L k B =
    busy t n P₀ L k (frozen s) (pending s k) K.still (pending_kept s t K k) (kept_held s t K n L B.held) B.closed B.follows B.due B.cells B.asked
    (let e = weight_same s t K.still n (λ i l. K.links i) in let f = B.fit in omega arith)

-- Two areas with the same link words and the same heap.
module _ (s t d : List ℕ) (n : ℕ) (low : lower t ≡ lower s) (still : frozen t ≡ frozen s) (words : (i : ℕ) → i < n → word_at t i ≡ word_at s i) where
  eq : heap t d ≡ heap s d
  eq = heap_kept s t d low

  pub alike_pinned : Pinned s d n → Pinned t d n
  alike_pinned P = record {
    reads = λ i l v. let m = words i l in subst (λ z. Readable z (word_at t i - settled_from)) (sym eq) (subst (λ z. Readable (heap s d) (z - settled_from)) (sym m) (P.reads i l (omega arith)));
    bare = λ i l v. let m = words i l in ap (λ z. tag_at z i) still ∙ P.bare i l (omega arith);
  }

  pub alike_to : (ε : Extent) (σ : ℕ → Tree ε) → ObeysIn ε s d n σ → ObeysIn ε t d n σ
  alike_to ε σ O i l v g R = let m = words i l in O i l (omega arith) g (subst (λ z. Reads (heap s d) (z - settled_from) g) m (subst (λ z. Reads z (word_at t i - settled_from) g) eq R))

  pub alike_from : (ε : Extent) (σ : ℕ → Tree ε) → ObeysIn ε t d n σ → ObeysIn ε s d n σ
  alike_from ε σ O i l v g R =
      let m = words i l in O i l (omega arith) g (subst (λ z. Reads z (word_at t i - settled_from) g) (sym eq) (subst (λ z. Reads (heap s d) (z - settled_from) g) (sym m) R))

pub lower_front : (s t : List ℕ) → length t ≡ length s → ((i : ℕ) → i < pairs_at → get_or t i 0 ≡ get_or s i 0) → lower t ≡ lower s
unfolding lower
lower_front s t e h =
    ext_get_or 0 (take pool_size t) (take pool_size s) (length-take pool_size t ∙ ap (λ z. Prim.Native.Nat.min pool_size z) e ∙ sym (length-take pool_size s))
    (λ i l. let q : i < pool_size = small t i l in get_or-take pool_size t i 0 q ∙ h i (omega arith) ∙ sym (get_or-take pool_size s i 0 q))
  where
    small : (t : List ℕ) (i : ℕ) → i < length (take pool_size t) → i < pool_size
    small t i l = let z = length-take pool_size t in omega arith

-- Two areas with the same link words but for x, which is settled in neither, and the same heap.
module _ (s t d : List ℕ) (n x : ℕ) (low : lower t ≡ lower s) (still : frozen t ≡ frozen s) (other : (i : ℕ) → i < n → (i ≡ x → ⊥) → word_at t i ≡ word_at s i) (free : word_at t x < settled_from)
    (free-s : word_at s x < settled_from) where
  eqh : heap t d ≡ heap s d
  eqh = heap_kept s t d low

  no_t : (i : ℕ) → settled_from ≤ word_at t i → i ≡ x → ⊥
  no_t i v e = let z = ap (word_at t) e in omega arith

  no_s : (i : ℕ) → settled_from ≤ word_at s i → i ≡ x → ⊥
  no_s i v e = let z = ap (word_at s) e in omega arith

  pub free_pinned : Pinned s d n → Pinned t d n
  free_pinned P = record {
    reads = λ i l v. let m = other i l (no_t i v) in
        subst (λ z. Readable z (word_at t i - settled_from)) (sym eqh) (subst (λ z. Readable (heap s d) (z - settled_from)) (sym m) (P.reads i l (omega arith)));
    bare = λ i l v. let m = other i l (no_t i v) in ap (λ z. tag_at z i) still ∙ P.bare i l (omega arith);
  }

  pub free_to : (ε : Extent) (σ : ℕ → Tree ε) → ObeysIn ε s d n σ → ObeysIn ε t d n σ
  free_to ε σ O i l v g R =
      let m = other i l (no_t i v) in
      O i l (omega arith) g (subst (λ z. Reads (heap s d) (z - settled_from) g) m (subst (λ z. Reads z (word_at t i - settled_from) g) eqh R))

  pub free_from : (ε : Extent) (σ : ℕ → Tree ε) → ObeysIn ε t d n σ → ObeysIn ε s d n σ
  free_from ε σ O i l v g R =
      let m = other i l (no_s i v) in
      O i l (omega arith) g (subst (λ z. Reads z (word_at t i - settled_from) g) (sym eqh) (subst (λ z. Reads (heap s d) (z - settled_from) g) (sym m) R))

pub pinning_as : (t u d : List ℕ) (c p q : ℕ) → u ≡ t → q ≡ p → Pinning t d c p → Pinning u d c q
pinning_as t u d c p q e f P = subst (λ z. Pinning z d c q) (sym e) (subst (Pinning t d c) (sym f) P)

pub pin_from : (t u v d : List ℕ) (c p q : ℕ) (b : Bool) → u ≡ t → q ≡ p → Pin u v d c q b → Pin t v d c p b
pin_from t u v d c p q b e f P = subst (λ z. Pin z v d c p b) e (subst (λ z. Pin u v d c z b) f P)
