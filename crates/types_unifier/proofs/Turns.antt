-- What one turn of merging gives, in the words of the contracts.
use mathlib.Core.Path.{◌≡◌, refl, sym, ap, subst, ◌∙◌}
use mathlib.Core.Bool.{Bool, true, false}
use mathlib.Core.List.{List}
use Prim.Native.Nat.{ℕ, zero, suc, ◌+◌, ◌*◌, ◌≤◌, ◌<◌}
use native.Mathlib.Omega.{arith}
use lib.Dec.{eqb}
use lib.ListN.{length, get_or, set, length-set}
use borrow.Author.Tests.{eqb-true, eqb-false}
use Rattle.types_rules.proofs.Steps.{closed_add}
use Rattle.types_rules.proofs.Terms.{bool_no}
use Rattle.types_rules.specs.Classes.{rep}
use Rattle.types_rules.specs.Equations.{AllP, Pairs, end, pair}
use Rattle.types_rules.specs.Follows.{Follows, View, matching, reflexive, stated, symmetric, transitive}
use Rattle.types_cells.specs.Layout.{max_cells, max_pending, links_at, pairs_at, seconds_at, settled_from, area_size}
use Rattle.types_cells.specs.Store.{frozen, link_at, tag_at, count_at, view, Solved, pending, Busy}
use Rattle.types_rules.specs.Equations.{Solves}
use Rattle.types_rules.specs.Trees.{Extent, Tree, build}
use Rattle.types_rules.proofs.Transfer.{follows_holds}
use Rattle.types_rules.proofs.Trees.{build_parts}
use Rattle.types_cells.specs.Calls.{Known, Root}
use Rattle.types_cells.specs.Settled.{lower, word_at, Pinned, FitsIn}
use Rattle.types_unifier.specs.Comparing.{Two, Alike, Pushing, Pushed}
use Rattle.types_unifier.specs.Merging.{Open, Next, Same, NoSolution, Turned, TurnedTo, Popped, Tying, Tied, Drained, Asking, Merged, Done}
use Rattle.types_unifier.proofs.Tying.{busy_solves, clash_none, low₁, other₁, hit₁, busy_kept, alike_pinned, alike_to, alike_from, lower_front, free_pinned, free_to, free_from}
use Rattle.types_cells.proofs.Growing.{lt_or_ge}
use mathlib.Core.Logic.{⊎_elim}
use Rattle.std.specs.Bool.{then_some}
use Rattle.std.specs.Prelude.{Option}
use Rattle.types_cells.proofs.LinkLaws.{held_same}
use Rattle.types_cells.proofs.Words.{frozen_length, link_same}
use Rattle.types_unifier.proofs.PendingLaws.{pushed, push_pending, push_frozen, push_front}
use Rattle.types_unifier.proofs.Linking.{
  weight_same,
  weight_load,
  still₁,
  weight_link,
  busy,
  below_a,
  below_b,
  skip,
  lx,
  ly,
  left_unk,
  right_unk,
  apart,
  weight₂,
  both_shape,
  meets,
}

pub pos : {r t : ℕ} → r ≡ t → (r ≡ 0 → ⊥) → 0 < t
pos e ne = omega arith

-- The answer b of a step, with the r pairs that are left.
pub turned_some : (s s' d : List ℕ) (k r : ℕ) (b : Bool) (o : Option ℕ) → o ≡ then_some b r → Turned s s' d k b r → TurnedTo s s' d k o
turned_some s s' d k r b o e T = subst (TurnedTo s s' d k) (sym e) (go b T)
  where
    go : (b : Bool) → Turned s s' d k b r → TurnedTo s s' d k (then_some b r)
    go true X = X
    go false X = record {
      still = X.still;
      low = X.low;
      falls = λ f. absurd (bool_no false f refl);
      goes = λ f. absurd (bool_no false f refl);
      same = λ f. absurd (bool_no false f refl);
      stops = X.stops;
    }

-- The two ends of the newest pair are cells.
module _ (s d : List ℕ) (k : ℕ) (o : Open s d (suc k)) where
  pub few : k < max_pending
  few = let f = o.busy.fit in omega arith

  pub known_a : Known s (get_or s (pairs_at + 2 * k) 0)
  known_a = record { n = o.n; L = o.L; held = o.busy.held; made = below_a s o.n o.P₀ o.L k o.busy }

  pub known_b : Known s (get_or s (seconds_at + 2 * k) 0)
  known_b = record { n = o.n; L = o.L; held = o.busy.held; made = below_b s o.n o.P₀ o.L k o.busy }

  pub skip_turned : (x y : ℕ) → Root s (get_or s (pairs_at + 2 * k) 0) x → Root s (get_or s (seconds_at + 2 * k) 0) y → x ≡ y → Turned s s d (suc k) true k
  skip_turned x y rx ry e = record {
    still = refl;
    low = refl;
    falls = λ t. omega arith;
    goes = λ t n P₀ L B P. skip s n P₀ L k B
        (rx.is n L B.held (below_a s n P₀ L k B) ∙ e ∙ sym (ry.is n L B.held (below_b s n P₀ L k B)));
    same = λ t n P₀ L B P. record { pinned = P; to = λ ε σ F S O. O; from = λ ε σ F S O. O };
    stops = λ f n P₀ L B. absurd (bool_no true refl f);
  }

module _ (s d : List ℕ) (k x y : ℕ) (p : Popped s d k x y) where
  module _ (n : ℕ) (P₀ L : Pairs ℕ) (B : Busy s n P₀ L (suc k)) where
    ra : rep eqb L (get_or s (pairs_at + 2 * k) 0) ≡ x
    ra = p.left.is n L B.held (below_a s n P₀ L k B)

    rb : rep eqb L (get_or s (seconds_at + 2 * k) 0) ≡ y
    rb = p.right.is n L B.held (below_b s n P₀ L k B)

    x_below : x < n
    x_below = lx s n P₀ L k B x y ra rb p.apart p.left.free p.right.free

    y_below : y < n
    y_below = ly s n P₀ L k B x y ra rb p.apart p.left.free p.right.free

  size : length s ≡ area_size
  size = p.reading.busy.held.size

  abbrev o : Open s d (suc k)
  o = p.reading

  pub few_x : x < max_cells
  few_x = let l = x_below o.n o.P₀ o.L o.busy in let f = o.busy.held.few in omega arith

  pub few_y : y < max_cells
  few_y = let l = y_below o.n o.P₀ o.L o.busy in let f = o.busy.held.few in omega arith

  -- Solutions make the two representatives equal.
  one_type : (n : ℕ) (P₀ L : Pairs ℕ) → Busy s n P₀ L (suc k) → (ε : Extent) (σ : ℕ → Tree ε) → FitsIn ε (frozen s) n σ → Solves σ P₀ → σ x ≡ σ y
  one_type n P₀ L B ε σ F S =
      follows_holds (build ε) (build_parts ε) (view (frozen s) n) P₀ σ F S x y
      (meets s n P₀ L k B x y (ra n P₀ L B) (rb n P₀ L B) p.apart p.left.free p.right.free)

  -- The unknown u, one of the two, is linked to v, the other.
  module _ (u v : ℕ) (fu : u < max_cells) (fv : v < max_cells) (free : link_at s u ≡ 0)
      (below : (n : ℕ) (P₀ L : Pairs ℕ) → Busy s n P₀ L (suc k) → (u < n) × (v < n))
      (one : (n : ℕ) (P₀ L : Pairs ℕ) → Busy s n P₀ L (suc k) → (ε : Extent) (σ : ℕ → Tree ε) → FitsIn ε (frozen s) n σ → Solves σ P₀ → σ u ≡ σ v)
      (next : (n : ℕ) (P₀ L : Pairs ℕ) → Busy s n P₀ L (suc k) → Next (set s (links_at + u) (suc v)) n P₀ k) where
    abbrev t : List ℕ
    t = set s (links_at + u) (suc v)

    tied_tying : Tying s d u v
    tied_tying =
        let N = next o.n o.P₀ o.L o.busy in
        let b = below o.n o.P₀ o.L o.busy in
        record { n = o.n; L = N.L; size = size; held = N.busy.held; pinned = o.pinned; few = o.few; left = b.0; right = b.1 }

    solves : (n : ℕ) (P₀ L : Pairs ℕ) (B : Busy s n P₀ L (suc k)) (ε : Extent) (σ : ℕ → Tree ε) → FitsIn ε (frozen s) n σ → Solves σ P₀ → Solves σ (next n P₀ L B).L × (σ u ≡ σ v)
    solves n P₀ L B ε σ F S =
        (busy_solves t n P₀ (next n P₀ L B).L (next n P₀ L B).busy.follows ε σ (subst (λ w. FitsIn ε w n σ) (sym (still₁ s u v size fu fv)) F) S, one n P₀ L B ε σ F S)

    tied_turned : (s' : List ℕ) (b : Bool) → Tied s s' d u v b → Turned s s' d (suc k) b k
    tied_turned s' b T = record {
      still = T.kept.still ∙ still₁ s u v size fu fv;
      low = T.kept.low ∙ low₁ s d u v size fu fv;
      falls = λ e. omega (arith, weight_same t s' T.kept.still max_cells (λ i l. T.kept.links i), weight_link s u v size fu fv free max_cells fu);
      goes = λ e n P₀ L B P. let N = next n P₀ L B in record { L = N.L; busy = busy_kept t s' T.kept n P₀ N.L k N.busy };
      same = λ e n P₀ L B P. let N = next n P₀ L B in let q = below n P₀ L B in T.same e n N.L N.busy.held P q.0 q.1 P₀ (solves n P₀ L B);
      stops = λ e n P₀ L B P. let N = next n P₀ L B in let q = below n P₀ L B in T.stops e n N.L N.busy.held P q.0 q.1 P₀ (solves n P₀ L B);
    }

  pub left_tying : tag_at (frozen s) x ≡ 0 → Tying s d x y
  left_tying t = tied_tying x y few_x few_y p.left.free (λ n P₀ L B. (x_below n P₀ L B, y_below n P₀ L B)) one_type
      (λ n P₀ L B. left_unk s n P₀ L k B x y (ra n P₀ L B) (rb n P₀ L B) p.apart p.left.free p.right.free t)

  pub left_turned : tag_at (frozen s) x ≡ 0 → (s' : List ℕ) (b : Bool) → Tied s s' d x y b → Turned s s' d (suc k) b k
  left_turned t = tied_turned x y few_x few_y p.left.free (λ n P₀ L B. (x_below n P₀ L B, y_below n P₀ L B)) one_type
      (λ n P₀ L B. left_unk s n P₀ L k B x y (ra n P₀ L B) (rb n P₀ L B) p.apart p.left.free p.right.free t)

  pub right_tying : tag_at (frozen s) y ≡ 0 → Tying s d y x
  right_tying t = tied_tying y x few_y few_x p.right.free (λ n P₀ L B. (y_below n P₀ L B, x_below n P₀ L B)) (λ n P₀ L B ε σ F S. sym (one_type n P₀ L B ε σ F S))
      (λ n P₀ L B. right_unk s n P₀ L k B x y (ra n P₀ L B) (rb n P₀ L B) p.apart p.left.free p.right.free t)

  pub right_turned : tag_at (frozen s) y ≡ 0 → (s' : List ℕ) (b : Bool) → Tied s s' d y x b → Turned s s' d (suc k) b k
  right_turned t = tied_turned y x few_y few_x p.right.free (λ n P₀ L B. (y_below n P₀ L B, x_below n P₀ L B)) (λ n P₀ L B ε σ F S. sym (one_type n P₀ L B ε σ F S))
      (λ n P₀ L B. right_unk s n P₀ L k B x y (ra n P₀ L B) (rb n P₀ L B) p.apart p.left.free p.right.free t)

  module _ (tx : 0 < tag_at (frozen s) x) (ty : 0 < tag_at (frozen s) y) where
    pub two : Two (frozen s) x y
    two = record {
      size = frozen_length s size;
      few_x = few_x;
      few_y = few_y;
      left = o.busy.held.cells x (x_below o.n o.P₀ o.L o.busy);
      right = o.busy.held.cells y (y_below o.n o.P₀ o.L o.busy);
      shaped_x = tx;
      shaped_y = ty;
    }

    pub apart_turned : (Alike (frozen s) x y → ⊥) → Turned s s d (suc k) false 0
    apart_turned d' = record {
      still = refl;
      low = refl;
      falls = λ e. absurd (bool_no false e refl);
      goes = λ e n P₀ L B. absurd (bool_no false e refl);
      same = λ e n P₀ L B. absurd (bool_no false e refl);
      stops = λ f n P₀ L B P ε σ F S O.
          clash_none (frozen s) n P₀ (apart s n P₀ L k B x y (ra n P₀ L B) (rb n P₀ L B) p.apart p.left.free p.right.free tx ty d') ε σ F S;
    }

    module _ (al : Alike (frozen s) x y) where
      pub pushing : Pushing (set s (links_at + x) (suc y)) k x y
      pushing =
          let e = still₁ s x y size few_x few_y in
          let c = ap (λ w. count_at w x) e in
          let f = o.busy.fit in
          let l = x_below o.n o.P₀ o.L o.busy in
          record {
            size = length-set s (links_at + x) (suc y) ∙ size;
            two = subst (λ w. Two w x y) (sym e) two;
            same = subst (λ w. count_at w x ≡ count_at w y) (sym e) al.1;
            fit = omega (arith, weight_link s x y size few_x few_y p.left.free o.n l);
          }

      module _ (s₂ : List ℕ) (r : ℕ) (len : length s₂ ≡ length (set s (links_at + x) (suc y))) (q : Pushed (set s (links_at + x) (suc y)) s₂ k x y r) where
        low₂ : lower s₂ ≡ lower s
        low₂ = lower_front (set s (links_at + x) (suc y)) s₂ len q.front ∙ low₁ s d x y size few_x few_y

        still₂ : frozen s₂ ≡ frozen s
        still₂ = q.still ∙ still₁ s x y size few_x few_y

        word₂ : (i : ℕ) → i < max_cells → word_at s₂ i ≡ word_at (set s (links_at + x) (suc y)) i
        unfolding word_at
        word₂ i l = q.front (links_at + i) (omega arith)

        -- Link words past the last cell are never asked.
        words₂ : (i : ℕ) → i < max_cells → (i ≡ x → ⊥) → word_at s₂ i ≡ word_at s i
        words₂ i l ne = word₂ i l ∙ other₁ s d x y size few_x few_y i ne

        hit₂ : word_at s₂ x < settled_from
        hit₂ = let a = word₂ x few_x in let b = hit₁ s d x y size few_x few_y in let l = few_y in omega arith

        not_settled : (n : ℕ) → Pinned s d n → x < n → word_at s x < settled_from
        not_settled n P l = ⊎_elim (λ z. z) (λ z. absurd (let b = P.bare x l z in omega arith)) (lt_or_ge (word_at s x) settled_from)

        small : (n : ℕ) → n ≤ max_cells → (i : ℕ) → i < n → i < max_cells
        small n f i l = omega arith

        pub both_turned : Turned s s₂ d (suc k) true r
        both_turned = record {
          still = still₂;
          low = low₂;
          falls = λ e. omega (
            arith,
            weight₂ s o.n o.P₀ o.L k o.busy x y (ra o.n o.P₀ o.L o.busy) (rb o.n o.P₀ o.L o.busy) p.apart p.left.free p.right.free
                tx ty al s₂ r len q.count q.still q.front q.pairs max_cells (omega arith) few_x,
          );
          goes = λ e n P₀ L B P. both_shape s n P₀ L k B x y (ra n P₀ L B) (rb n P₀ L B) p.apart p.left.free p.right.free
              tx ty al s₂ r len q.count q.still q.front q.pairs;
          same = λ e n P₀ L B P. record {
            pinned = free_pinned s s₂ d n x low₂ still₂ (λ i l ne. words₂ i (small n B.held.few i l) ne) hit₂ (not_settled n P (x_below n P₀ L B)) P;
            to = λ ε σ F S O. free_to s s₂ d n x low₂ still₂ (λ i l ne. words₂ i (small n B.held.few i l) ne) hit₂ (not_settled n P (x_below n P₀ L B)) ε σ O;
            from = λ ε σ F S O. free_from s s₂ d n x low₂ still₂ (λ i l ne. words₂ i (small n B.held.few i l) ne) hit₂ (not_settled n P (x_below n P₀ L B)) ε σ O;
          };
          stops = λ f n P₀ L B. absurd (bool_no true refl f);
        }

-- One more equation: what followed still follows.
module _ {N : Type 0} (view' : N → View N) (P₀ : Pairs N) (x y : N) where
  follows_more : (a b : N) → Follows view' P₀ a b → Follows view' (pair x y P₀) a b
  follows_more a b (stated i) = stated (mathlib.Core.Logic.inr i)
  follows_more a b reflexive = reflexive
  follows_more a b (symmetric f) = symmetric (follows_more b a f)
  follows_more a b (transitive {b = c} f g) = transitive (follows_more a c f) (follows_more c b g)
  follows_more a b (matching n m h cs ds vn vm f i) = matching n m h cs ds vn vm (follows_more n m f) i

  all_more : (L : Pairs N) → AllP (Follows view' P₀) L → AllP (Follows view' (pair x y P₀)) L
  all_more end h = tt
  all_more (pair a b L) h = (follows_more a b h.0, all_more L h.1)

module _ (s : List ℕ) (n : ℕ) (P₀ L : Pairs ℕ) (S : Solved s n P₀ L) (x y : ℕ) (lx : x < n) (ly : y < n) where
  zero_pending : pending s 0 ≡ end
  unfolding pending
  zero_pending = refl

  pub begin : Next (pushed s 0 x y) n (pair x y P₀) 1
  begin =
      let size = S.held.size in
      let ew = push_frozen s 0 x y size (omega arith) in
      let el : ((i : ℕ) → i < max_cells → link_at (pushed s 0 x y) i ≡ link_at s i) = (λ i l. link_same s (pushed s 0 x y) i i (push_front s 0 x y size (omega arith) (links_at + i) (omega arith))) in
      let f = S.held.few in
      record {
        L = L;
        busy = busy (pushed s 0 x y) n (pair x y P₀) L 1 (frozen s) (pair x y end) ew
            (push_pending s 0 x y size (omega arith) ∙ ap (λ P. pair x y P) zero_pending)
            (held_same s (pushed s 0 x y) ew n L (simp length-set) el S.held)
            (closed_add ℕ eqb eqb-true eqb-false (view (frozen s) n) P₀ L x y S.closed)
            (all_more (view (frozen s) n) P₀ x y L S.follows)
            (stated (mathlib.Core.Logic.inl (refl, refl)), tt)
            ((lx, ly), tt) ((lx, ly), S.asked)
            (let r = S.held.room in omega (arith, weight_load s n, weight_same s (pushed s 0 x y) ew n (λ i l. el i (omega arith))));
      }

pub begin_same : (s d : List ℕ) (n : ℕ) (P₀ L : Pairs ℕ) → Solved s n P₀ L → Pinned s d n → (x y : ℕ) → (P : Pairs ℕ) → Same s (pushed s 0 x y) d n P
begin_same s d n P₀ L S Pn x y P =
    let size = S.held.size in
    let lo : lower (pushed s 0 x y) ≡ lower s = lower_front s (pushed s 0 x y) (simp length-set) (λ i l. push_front s 0 x y size (omega arith) i l) in
    let st = push_frozen s 0 x y size (omega arith) in
    record {
      pinned = alike_pinned s (pushed s 0 x y) d n lo st (words size) Pn;
      to = λ ε σ F S' O. alike_to s (pushed s 0 x y) d n lo st (words size) ε σ O;
      from = λ ε σ F S' O. alike_from s (pushed s 0 x y) d n lo st (words size) ε σ O;
    }
  where
    words : length s ≡ area_size → (i : ℕ) → i < n → word_at (pushed s 0 x y) i ≡ word_at s i
    words size i l = let f = S.held.few in unfold word_at in (push_front s 0 x y size (omega arith) (links_at + i) (omega arith))

pub same_on : (s t u d : List ℕ) (n : ℕ) (P₀ : Pairs ℕ) → frozen t ≡ frozen s → Same s t d n P₀ → Same t u d n P₀ → Same s u d n P₀
same_on s t u d n P₀ e A B = record {
  pinned = B.pinned;
  to = λ ε σ F S O. B.to ε σ (subst (λ w. FitsIn ε w n σ) (sym e) F) S (A.to ε σ F S O);
  from = λ ε σ F S O. A.from ε σ F S (B.from ε σ (subst (λ w. FitsIn ε w n σ) (sym e) F) S O);
}

pub none_on : (s t d : List ℕ) (n : ℕ) (P₀ : Pairs ℕ) → frozen t ≡ frozen s → Same s t d n P₀ → NoSolution t d n P₀ → NoSolution s d n P₀
none_on s t d n P₀ e A N ε σ F S O = N ε σ (subst (λ w. FitsIn ε w n σ) (sym e) F) S (A.to ε σ F S O)

pub finish : (s : List ℕ) (n : ℕ) (P₀ : Pairs ℕ) (k : ℕ) → k ≤ 0 → Next s n P₀ k → Done s n P₀
unfolding pending
finish s n P₀ zero l N = record { L = N.L; solved = record { held = N.busy.held; closed = N.busy.closed; follows = N.busy.follows; asked = N.busy.asked } }
finish s n P₀ (suc k) l N = absurd (omega arith)

-- Turns so far.
pub record Draining (s t d : List ℕ) (k : ℕ) : Type 0 where
  pub size : length t ≡ length s
  pub still : frozen t ≡ frozen s
  pub low : lower t ≡ lower s
  pub next : (n : ℕ) (P₀ L : Pairs ℕ) → Busy s n P₀ L 1 → Pinned s d n → Next t n P₀ k
  pub same : (n : ℕ) (P₀ L : Pairs ℕ) → Busy s n P₀ L 1 → Pinned s d n → Same s t d n P₀

module _ (s t u d : List ℕ) (k j r : ℕ) (b : Bool) (D : Draining s t d k) (e : k ≡ suc j) (T : Turned t u d (suc j) b r) where
  busy_j : (n : ℕ) (P₀ L : Pairs ℕ) (B : Busy s n P₀ L 1) (P : Pinned s d n) → Busy t n P₀ (D.next n P₀ L B P).L (suc j)
  busy_j n P₀ L B P = subst (λ z. Busy t n P₀ (D.next n P₀ L B P).L z) e (D.next n P₀ L B P).busy

  pub draining_step : length u ≡ length t → b ≡ true → Draining s u d r
  draining_step l f = record {
    size = l ∙ D.size;
    still = T.still ∙ D.still;
    low = T.low ∙ D.low;
    next = λ n P₀ L B P. T.goes f n P₀ _ (busy_j n P₀ L B P) (D.same n P₀ L B P).pinned;
    same = λ n P₀ L B P. same_on s t u d n P₀ D.still (D.same n P₀ L B P) (T.same f n P₀ _ (busy_j n P₀ L B P) (D.same n P₀ L B P).pinned);
  }

  pub draining_stop : b ≡ false → Drained s u d 1 false
  draining_stop f = record {
    still = T.still ∙ D.still;
    low = T.low ∙ D.low;
    goes = λ g. absurd (bool_no false g refl);
    same = λ g. absurd (bool_no false g refl);
    stops = λ g n P₀ L B P. none_on s t d n P₀ D.still (D.same n P₀ L B P) (T.stops f n P₀ _ (busy_j n P₀ L B P) (D.same n P₀ L B P).pinned);
  }

pub draining_open : (s t d : List ℕ) (k j : ℕ) → Draining s t d k → k ≡ suc j → Open s d 1 → Open t d (suc j)
draining_open s t d k j D e o = record {
  n = o.n;
  P₀ = o.P₀;
  L = (D.next o.n o.P₀ o.L o.busy o.pinned).L;
  busy = subst (λ z. Busy t o.n o.P₀ (D.next o.n o.P₀ o.L o.busy o.pinned).L z) e (D.next o.n o.P₀ o.L o.busy o.pinned).busy;
  pinned = (D.same o.n o.P₀ o.L o.busy o.pinned).pinned;
  few = o.few;
}

pub draining_end : (s t d : List ℕ) (k : ℕ) → k ≤ 0 → Draining s t d k → Drained s t d 1 true
draining_end s t d k l D = record {
  still = D.still;
  low = D.low;
  goes = λ g n P₀ L B P. finish t n P₀ k l (D.next n P₀ L B P);
  same = λ g. D.same;
  stops = λ f. absurd (bool_no true refl f);
}

-- The whole merge.
module _ (s t u d : List ℕ) (x y : ℕ) (b : Bool) (e : t ≡ pushed s 0 x y) (D : Drained t u d 1 b) (size : length s ≡ area_size) where
  fz : frozen t ≡ frozen s
  fz = ap frozen e ∙ push_frozen s 0 x y size (omega arith)

  lo : lower t ≡ lower s
  lo = lower_front s t (ap length e ∙ (simp length-set)) (λ i l. ap (λ z. get_or z i 0) e ∙ push_front s 0 x y size (omega arith) i l)

  module _ (n : ℕ) (P₀ L : Pairs ℕ) (S : Solved s n P₀ L) (P : Pinned s d n) (lx : x < n) (ly : y < n) where
    N : Next t n (pair x y P₀) 1
    N = subst (λ z. Next z n (pair x y P₀) 1) (sym e) (begin s n P₀ L S x y lx ly)

    A : Same s t d n (pair x y P₀)
    A = subst (λ z. Same s z d n (pair x y P₀)) (sym e) (begin_same s d n P₀ L S P x y (pair x y P₀))

  pub merged : Merged s u d x y b
  merged = record {
    still = D.still ∙ fz;
    low = D.low ∙ lo;
    goes = λ f n P₀ L S P lx ly. D.goes f n (pair x y P₀) (N n P₀ L S P lx ly).L (N n P₀ L S P lx ly).busy (A n P₀ L S P lx ly).pinned;
    same = λ f n P₀ L S P lx ly. same_on s t u d n (pair x y P₀) fz (A n P₀ L S P lx ly) (D.same f n (pair x y P₀) (N n P₀ L S P lx ly).L (N n P₀ L S P lx ly).busy (A n P₀ L S P lx ly).pinned);
    stops = λ f n P₀ L S P lx ly. none_on s t d n (pair x y P₀) fz (A n P₀ L S P lx ly) (D.stops f n (pair x y P₀) (N n P₀ L S P lx ly).L (N n P₀ L S P lx ly).busy (A n P₀ L S P lx ly).pinned);
  }

pub merge_open : (s t d : List ℕ) (x y : ℕ) → t ≡ pushed s 0 x y → Asking s d x y → Open t d 1
merge_open s t d x y e q =
    let M = begin s q.n q.P₀ q.L q.solved x y q.left q.right in
    subst (λ z. Open z d 1) (sym e)
    (record { n = q.n; P₀ = pair x y q.P₀; L = M.L; busy = M.busy; pinned = (begin_same s d q.n q.P₀ q.L q.solved q.pinned x y (pair x y q.P₀)).pinned; few = q.few })
