-- The visits: a cell is marked after its parts, and one that is met below itself has no size.
use mathlib.Core.Path.{◌≡◌, refl, sym, ap, subst, ◌∙◌}
use mathlib.Core.Bool.{Bool, true, false}
use mathlib.Core.List.{List, map}
use mathlib.Core.Logic.{⊎_elim}
use Prim.Native.Nat.{ℕ, zero, suc, ◌+◌, ◌*◌, ◌-◌, ◌≤◌, ◌<◌}
use native.Mathlib.Omega.{arith}
use native.Mathlib.Nat.{eq-or-lt_of_le, eq-zero-or-pos}
use lib.Dec.{eqb}
use lib.ListN.{length, get_or, set}
use borrow.Author.Tests.{eqb-true, eqb-false}
use Rattle.types_rules.proofs.Terms.{bool_no}
use Rattle.types_rules.specs.Classes.{rep}
use Rattle.types_rules.specs.Equations.{In, Pairs}
use Rattle.types_rules.specs.Finite.{bounded, from_list}
use Rattle.types_rules.specs.Types.{size, sizes}
use Rattle.types_cells.specs.Layout.{max_cells, marks_at, area_size}
use Rattle.types_cells.specs.Store.{frozen, link_at, tag_at, first_at, count_at, run, parts_at, view, Held}
use Rattle.types_cells.specs.Calls.{Known}
use Rattle.types_solver.specs.Sizes.{cap, mark_at, bare, arity_of, arity_at, type_at, Sized, Marks, Same, Falls, Onward, Reached, Visited}
use Rattle.types_cells.proofs.LinkLaws.{far, far_le, far_less, hop_below, hop_rep, stop_rep}
use Rattle.types_cells.proofs.Words.{run_at, run_length, get_d_in, in_get_d}
use Rattle.types_solver.proofs.Marking.{cap_le, cap_pos, cap_low, sized_unk, sized_shape, sized_class, same_refl, same_on, same_held, mark_same, mark_hit, mark_miss, bare_mark, bare_less, marks_set}
use Rattle.types_solver.proofs.Summing.{ToAdd, add_step, add_end}

onward_refl : (s : List ℕ) → Onward s s
onward_refl s = record { same = same_refl s; fewer = omega arith; kept = λ i d. refl; ended = λ i e. e }

onward_on : (s t u : List ℕ) → Onward s t → Onward t u → Onward s u
onward_on s t u a b = record {
  same = same_on s t u a.same b.same;
  fewer = let x = a.fewer in let y = b.fewer in omega arith;
  kept = λ i d. b.kept i (λ e. d (sym (a.kept i d) ∙ e)) ∙ a.kept i d;
  ended = λ i e. a.ended i (b.ended i e);
}

pub visited_as : (s t : List ℕ) (r : ℕ) (a b : Bool) → a ≡ b → Visited s t r a → Visited s t r b
visited_as s t r a b e Y = subst (λ z. Visited s t r z) e Y

-- A cell that has a mark.
pub visited_again : (s : List ℕ) (r : ℕ) → mark_at s r ≡ 34 → Visited s s r false
visited_again s r e = record { same = same_refl s; goes = λ q. absurd (bool_no false q refl); stops = λ q n L H l m F B. let z = B r l e in omega arith }

pub visited_before : (s : List ℕ) (r : ℕ) → (mark_at s r ≡ 0 → ⊥) → (mark_at s r ≡ 34 → ⊥) → Visited s s r true
visited_before s r d f = record {
  same = same_refl s;
  goes = λ q. record { onward = onward_refl s; marked = d; done = f; marks = λ n L H l M. M };
  stops = λ q. absurd (bool_no true refl q);
}

-- j of the k parts of r have been visited.
pub record Sum (w : List ℕ) (n : ℕ) (L : Pairs ℕ) (r k j sum : ℕ) : Type 0 where
  pub finite : (i : ℕ) → i < j → bounded (rep eqb L) (view w n) n (get_or w (first_at w r + i) 0) ≡ true
  pub left : ToAdd (type_at w n L) w (first_at w r) k j sum (1 + sizes (from_list (map (type_at w n L) (run w (first_at w r) k))))

pub record Parts (s t : List ℕ) (r k j sum : ℕ) : Type 0 where
  pub onward : Onward s t
  pub few : sum ≤ 33
  pub some : 0 < sum
  pub sums : (n : ℕ) (L : Pairs ℕ) → Held s n L → r < n → Marks s n L → Marks t n L × Sum (frozen s) n L r k j sum

arity_unknown : (t k : ℕ) → t ≡ 0 → arity_of t k ≡ 0
unfolding arity_of
arity_unknown zero k e = refl
arity_unknown (suc t) k e = absurd (omega arith)

arity_former : (t k : ℕ) → 0 < t → arity_of t k ≡ k
unfolding arity_of
arity_former zero k p = absurd (omega arith)
arity_former (suc t) k p = refl

pub arity_0 : (w : List ℕ) (r : ℕ) → tag_at w r ≡ 0 → 0 ≡ arity_at w r
arity_0 w r e = sym (arity_unknown _ _ e)

pub arity_count : (w : List ℕ) (r : ℕ) → 0 < tag_at w r → count_at w r ≡ arity_at w r
arity_count w r p = sym (arity_former _ _ p)

-- Part j of the cell r.
module _ (s : List ℕ) (r k j : ℕ) (ek : k ≡ arity_at (frozen s) r) (lt : j < k) (n : ℕ) (L : Pairs ℕ) (H : Held s n L) (l : r < n) where
  former : 0 < tag_at (frozen s) r
  former = ⊎_elim (λ z. let y = arity_0 (frozen s) r z in absurd (omega arith)) (λ p. p) (eq-zero-or-pos (tag_at (frozen s) r))

  count : k ≡ count_at (frozen s) r
  count = ek ∙ sym (arity_count (frozen s) r former)

  part_in : In (get_or (frozen s) (first_at (frozen s) r + j) 0) (parts_at (frozen s) r)
  part_in =
      let c = count in
      let jc : j < count_at (frozen s) r = omega arith in
      let z = run_length (frozen s) (first_at (frozen s) r) (count_at (frozen s) r) (H.cells r l).room in
      subst (λ y. In y (parts_at (frozen s) r)) (run_at (frozen s) (first_at (frozen s) r) (count_at (frozen s) r) j jc) (get_d_in (parts_at (frozen s) r) j (omega arith))

  pub part_below : get_or (frozen s) (first_at (frozen s) r + j) 0 < n
  part_below = let o = (H.cells r l).older _ part_in in omega arith

  room : first_at (frozen s) r + k ≤ length (frozen s)
  room = let z = (H.cells r l).room in let c = count in omega arith

-- One part more: p, with t before its visit, and x the new sum.
module _ (s t : List ℕ) (r k j sum : ℕ) (P : Parts s t r k j sum) (ek : k ≡ arity_at (frozen s) r) (lt : j < k) (p : ℕ) (ep : p ≡ get_or (frozen t) (first_at (frozen t) r + j) 0)
    (u : List ℕ) where
  still : frozen t ≡ frozen s
  still = P.onward.same.still

  ep' : p ≡ get_or (frozen s) (first_at (frozen s) r + j) 0
  ep' = ep ∙ ap (λ w. get_or w (first_at w r + j) 0) still

  module _ (n : ℕ) (L : Pairs ℕ) (H : Held s n L) (l : r < n) where
    pub p_below : p < n
    p_below = subst (λ z. z < n) (sym ep') (part_below s r k j ek lt n L H l)

    Ht : Held t n L
    Ht = same_held s t P.onward.same n L H

  step_sum : (Y : Visited t u p true) (v x : ℕ) → v ≡ mark_at u p → x ≡ cap (sum + v) → (n : ℕ) (L : Pairs ℕ) → Held s n L → r < n → Marks s n L → Marks u n L × Sum (frozen s) n L r k (j + 1) x
  step_sum Y v x ev ex n L H l M =
      let S = P.sums n L H l M in
      let R = Y.goes refl in
      let Mu = R.marks n L (Ht n L H l) (p_below n L H l) S.0 in
      let us = R.onward.same.still ∙ still in
      let zp : Sized (frozen s) n L p (mark_at u p) = subst (λ w. Sized w n L p (mark_at u p)) us (Mu.right p (p_below n L H l) R.marked R.done) in (
        Mu,
        record {
          finite = λ i q. ⊎_elim
              (λ e. ap (λ y. bounded (rep eqb L) (view (frozen s) n) n (get_or (frozen s) (first_at (frozen s) r + y) 0)) e ∙ ap (bounded (rep eqb L) (view (frozen s) n) n) (sym ep') ∙ zp.finite)
              (λ y. S.1.finite i y)
              (eq-or-lt_of_le (let z : i ≤ j = omega arith in z));
          left = add_step (type_at (frozen s) n L) (frozen s) (first_at (frozen s) r) k j sum _ x p v (room s r k j ek lt n L H l) lt ep' (ev ∙ zp.size) ex S.1.left;
        },
      )

  pub parts_step : (Y : Visited t u p true) (v x : ℕ) → v ≡ mark_at u p → x ≡ cap (sum + v) → Parts s u r k (j + 1) x
  parts_step Y v x ev ex = record {
    onward = onward_on s t u P.onward (Y.goes refl).onward;
    few = subst (λ z. z ≤ 33) (sym ex) (cap_le _);
    some = subst (λ z. 0 < z) (sym ex) (cap_pos _ (let z = P.some in omega arith));
    sums = step_sum Y v x ev ex;
  }

  -- The visit of the part met a cell below itself: so would one of r, which was not marked in s₀.
  module _ (s₀ : List ℕ) (few : r < max_cells) (size : length s₀ ≡ area_size) (begun : s ≡ set s₀ (marks_at + r) 34) (Y : Visited t u p false) where
    begun_same : Same s₀ s
    begun_same = subst (λ z. Same s₀ z) (sym begun) (mark_same s₀ r 34 size few)

    below : (n : ℕ) (L : Pairs ℕ) → Held s₀ n L → r < n → (m : ℕ → ℕ) → Falls (frozen s₀) n L m → ((i : ℕ) → i < n → mark_at s₀ i ≡ 34 → m r < m i) → (i : ℕ) → i < n → mark_at t i ≡ 34 → m p < m i
    below n L H₀ l m F B i il e = go (eqb i r) refl
      where
        H : Held s n L
        H = same_held s₀ s begun_same n L H₀

        mp : m p < m r
        mp = F.parts r l (subst (λ w. 0 < tag_at w r) begun_same.still (former s r k j ek lt n L H l)) p
            (subst (λ w. In p (parts_at w r)) begun_same.still (subst (λ y. In y (parts_at (frozen s) r)) (sym ep') (part_in s r k j ek lt n L H l)))

        es : mark_at s i ≡ 34
        es = P.onward.ended i e

        go : (b : Bool) → eqb i r ≡ b → m p < m i
        go true q = subst (λ y. m p < m y) (sym (eqb-true i r q)) mp
        go false q = let z = B i il (sym (mark_miss s₀ r 34 size few i (eqb-false i r q)) ∙ ap (λ y. mark_at y i) (sym begun) ∙ es) in let y = mp in omega arith

    pub parts_stop_lem : Visited s₀ u r false
    parts_stop_lem = record {
      same = same_on s₀ s u begun_same (same_on s t u P.onward.same Y.same);
      goes = λ q. absurd (bool_no false q refl);
      stops = λ q n L H₀ l m F B.
          let H = same_held s₀ s begun_same n L H₀ in
          Y.stops refl n L (Ht n L H l) (p_below n L H l) m (subst (λ w. Falls w n L m) (sym (still ∙ begun_same.still)) F) (below n L H₀ l m F B);
    }

-- All parts have been visited: r gets its mark.
module _ (s₀ s t : List ℕ) (r k j sum : ℕ) (W : Known s₀ r) (root : link_at s₀ r ≡ 0) (none : mark_at s₀ r ≡ 0) (begun : s ≡ set s₀ (marks_at + r) 34) (P : Parts s t r k j sum) (ek : k ≡ arity_at (frozen s₀) r) (le : k ≤ j) where
  few_r : r < max_cells
  few_r = let f = W.held.few in let l = W.made in omega arith

  size₀ : length s₀ ≡ area_size
  size₀ = W.held.size

  s_same : Same s₀ s
  s_same = subst (λ z. Same s₀ z) (sym begun) (mark_same s₀ r 34 size₀ few_r)

  size_t : length t ≡ area_size
  size_t = P.onward.same.size ∙ s_same.size ∙ size₀

  miss : (i : ℕ) → (i ≡ r → ⊥) → mark_at s i ≡ mark_at s₀ i
  miss i d = ap (λ y. mark_at y i) begun ∙ mark_miss s₀ r 34 size₀ few_r i d

  abbrev u : List ℕ
  u = set t (marks_at + r) sum

  pos_sum : sum ≡ 0 → ⊥
  pos_sum e = let z = P.some in omega arith

  end_onward : Onward s₀ u
  end_onward = record {
    same = same_on s₀ s u s_same (same_on s t u P.onward.same (mark_same t r sum size_t few_r));
    fewer =
        let a = bare_less t r sum size_t few_r pos_sum max_cells in
        let b = P.onward.fewer in
        let c = ap (λ z. bare z max_cells) begun in
        let d = bare_mark s₀ r 34 size₀ few_r none (λ e. omega arith) max_cells few_r in
        omega arith;
    kept = λ i d.
        let ne : (i ≡ r → ⊥) = λ e. d (ap (mark_at s₀) e ∙ none) in
        mark_miss t r sum size_t few_r i ne ∙ P.onward.kept i (λ e. d (sym (miss i ne) ∙ e)) ∙ miss i ne;
    ended = λ i e. go i e (eqb i r) refl;
  }
    where
      go : (i : ℕ) → mark_at u i ≡ 34 → (b : Bool) → eqb i r ≡ b → mark_at s₀ i ≡ 34
      go i e true q = let z : sum ≡ 34 = sym (mark_hit t r sum size_t few_r) ∙ ap (mark_at u) (sym (eqb-true i r q)) ∙ e in let f = P.few in absurd (omega arith)
      go i e false q = let ne = eqb-false i r q in sym (miss i ne) ∙ P.onward.ended i (sym (mark_miss t r sum size_t few_r i ne) ∙ e)

  module _ (n : ℕ) (L : Pairs ℕ) (H₀ : Held s₀ n L) (l : r < n) (M₀ : Marks s₀ n L) where
    Hs : Held s n L
    Hs = same_held s₀ s s_same n L H₀

    Ms : Marks s n L
    Ms = subst (λ z. Marks z n L) (sym begun) (marks_set s₀ r 34 size₀ few_r n L (λ d. absurd (d refl)) M₀)

    S : Sum (frozen s₀) n L r k j sum
    S = subst (λ w. Sum w n L r k j sum) s_same.still (P.sums n L Hs l Ms).1

    abbrev w : List ℕ
    w = frozen s₀

    total : sum ≡ cap (1 + sizes (from_list (map (type_at w n L) (run w (first_at w r) k))))
    total = add_end (type_at w n L) w (first_at w r) k j sum _ le P.few S.left

    root_r : rep eqb L r ≡ r
    root_r = stop_rep s₀ n L H₀ r l root

    unknown : tag_at w r ≡ 0 → Sized w n L r sum
    unfolding run from_list size
    unknown e =
        let k0 : k ≡ 0 = ek ∙ sym (arity_0 w r e) in
        let z : sum ≡ 1 = total ∙ ap (λ y. cap (1 + sizes (from_list (map (type_at w n L) (run w (first_at w r) y))))) k0 ∙ cap_low 1 (omega arith) in
        subst (λ y. Sized w n L r y) (sym z) (sized_unk s₀ n L H₀ r l (ap (tag_at w) root_r ∙ e))

    formed : 0 < tag_at w r → Sized w n L r sum
    formed p =
        let kc : k ≡ count_at w r = ek ∙ sym (arity_count w r p) in
        let y = run_length w (first_at w r) (count_at w r) (H₀.cells r l).room in
        sized_shape s₀ n L H₀ r l (subst (λ z. 0 < tag_at w z) (sym root_r) p)
        (subst (λ z. (c : ℕ) → In c (parts_at w z) → bounded (rep eqb L) (view w n) n c ≡ true) (sym root_r) (λ c i.
        let g = in_get_d c (parts_at w r) i in
        let lc = g.1 in
        let q : g.0 < count_at w r = omega arith in
        ap (bounded (rep eqb L) (view w n) n) (sym g.2 ∙ run_at w (first_at w r) (count_at w r) g.0 q) ∙ S.finite g.0 (omega arith)))
        sum
        (total ∙ ap (λ z. cap (1 + sizes (from_list (map (type_at w n L) (run w (first_at w r) z))))) kc
        ∙ ap (λ z. cap (1 + sizes (from_list (map (type_at w n L) (parts_at w z))))) (sym root_r))

    end_marks : Marks u n L
    end_marks =
        let z = ⊎_elim unknown formed (eq-zero-or-pos (tag_at w r)) in
        marks_set t r sum size_t few_r n L (λ d. subst (λ y. Sized y n L r sum) (sym (P.onward.same.still ∙ s_same.still)) z) (P.sums n L Hs l Ms).0

  pub parts_end : Visited s₀ u r true
  parts_end = record {
    same = end_onward.same;
    goes = λ q. record {
      onward = end_onward;
      marked = λ e. pos_sum (sym (mark_hit t r sum size_t few_r) ∙ e);
      done = λ e. let z = sym (mark_hit t r sum size_t few_r) ∙ e in let f = P.few in omega arith;
      marks = end_marks;
    };
    stops = λ q. absurd (bool_no true refl q);
  }

-- In the visit of r, which had no mark in s₀ and has 34 in s.
module _ (s₀ s : List ℕ) (r k : ℕ) (W : Known s₀ r) (root : link_at s₀ r ≡ 0) (none : mark_at s₀ r ≡ 0) (begun : s ≡ set s₀ (marks_at + r) 34) (ek : k ≡ arity_at (frozen s₀) r) where
  few_cell_r : r < max_cells
  few_cell_r = let f = W.held.few in let l = W.made in omega arith

  marked_same : Same s₀ s
  marked_same = subst (λ z. Same s₀ z) (sym begun) (mark_same s₀ r 34 W.held.size few_cell_r)

  es : k ≡ arity_at (frozen s) r
  es = ek ∙ ap (λ w. arity_at w r) (sym marked_same.still)

  reading : Held s W.n W.L
  reading = same_held s₀ s marked_same W.n W.L W.held

  module _ (t : List ℕ) (j sum : ℕ) (P : Parts s t r k j sum) where
    pub visit_size : length t ≡ length s₀
    visit_size = P.onward.same.size ∙ marked_same.size

    -- The measure: cells without a mark, then links on the way.
    pub visit_falls : (p : ℕ) → (2 + max_cells) * bare t max_cells + far t (1 + max_cells) p < (2 + max_cells) * bare s₀ max_cells + far s₀ (1 + max_cells) r
    visit_falls p =
        let a = P.onward.fewer in
        let b = ap (λ z. bare z max_cells) begun in
        let c = bare_mark s₀ r 34 W.held.size few_cell_r none (λ e. omega arith) max_cells few_cell_r in
        let d = far_le t (1 + max_cells) p in
        omega arith

    module _ (lt : j < k) (p : ℕ) (ep : p ≡ get_or (frozen t) (first_at (frozen t) r + j) 0) where
      pub visit_known : Known t p
      visit_known = record {
        n = W.n;
        L = W.L;
        held = same_held s t P.onward.same W.n W.L reading;
        made = subst (λ z. z < W.n) (sym (ep ∙ ap (λ w. get_or w (first_at w r + j) 0) P.onward.same.still)) (part_below s r k j es lt W.n W.L reading W.made);
      }

      pub visit_step : (u : List ℕ) → Visited t u p true → (v x : ℕ) → v ≡ mark_at u p → x ≡ cap (sum + v) → Parts s u r k (j + 1) x
      visit_step u Y v x ev ex = parts_step s t r k j sum P es lt p ep u Y v x ev ex

      pub visit_stop : (u : List ℕ) → Visited t u p false → Visited s₀ u r false
      visit_stop u Y = parts_stop_lem s t r k j sum P es lt p ep u s₀ few_cell_r W.held.size begun Y

-- A linked cell, after the visit of the cell c that it is linked to.
module _ (s u : List ℕ) (i c : ℕ) (K : Known s i) (none : mark_at s i ≡ 0) (link : link_at s i ≡ suc c) where
  pub link_known : Known s c
  link_known = record { n = K.n; L = K.L; held = K.held; made = hop_below s K.n K.L K.held i c K.made link }

  pub link_falls : (2 + max_cells) * bare s max_cells + far s (1 + max_cells) c < (2 + max_cells) * bare s max_cells + far s (1 + max_cells) i
  link_falls = let z = far_less s K.n K.L K.held i c K.made link in omega arith

  pub link_stop : Visited s u c false → Visited s u i false
  link_stop Y = record {
    same = Y.same;
    goes = λ q. absurd (bool_no false q refl);
    stops = λ q n L H l m F B.
        let e : m c ≡ m i = sym (F.classes c) ∙ ap m (hop_rep s n L H i c l link) ∙ F.classes i in
        Y.stops refl n L H (hop_below s n L H i c l link) m F (λ j q e'. let z = B j q e' in omega arith);
  }

  module _ (Y : Visited s u c true) (v : ℕ) (ev : v ≡ mark_at u c) where
    few_i : i < max_cells
    few_i = let f = K.held.few in let l = K.made in omega arith

    R : Reached s u c
    R = Y.goes refl

    size_u : length u ≡ area_size
    size_u = Y.same.size ∙ K.held.size

    abbrev u' : List ℕ
    u' = set u (marks_at + i) v

    hit : mark_at u' i ≡ mark_at u c
    hit = mark_hit u i v size_u few_i ∙ ev

    link_onward : Onward s u'
    link_onward = record {
      same = same_on s u u' Y.same (mark_same u i v size_u few_i);
      fewer = let a = bare_less u i v size_u few_i (λ e. R.marked (sym ev ∙ e)) max_cells in let b = R.onward.fewer in omega arith;
      kept = λ j d. mark_miss u i v size_u few_i j (λ e. d (ap (mark_at s) e ∙ none)) ∙ R.onward.kept j d;
      ended = λ j e. go j e (eqb j i) refl;
    }
      where
        go : (j : ℕ) → mark_at u' j ≡ 34 → (b : Bool) → eqb j i ≡ b → mark_at s j ≡ 34
        go j e true q = absurd (R.done (sym hit ∙ ap (mark_at u') (sym (eqb-true j i q)) ∙ e))
        go j e false q = R.onward.ended j (sym (mark_miss u i v size_u few_i j (eqb-false j i q)) ∙ e)

    link_marks : (n : ℕ) (L : Pairs ℕ) → Held s n L → i < n → Marks s n L → Marks u' n L
    link_marks n L H l M =
        let b = hop_below s n L H i c l link in
        let Mu = R.marks n L H b M in
        marks_set u i v size_u few_i n L
        (λ d. subst (λ y. Sized (frozen u) n L i y) (sym ev) (sized_class u n L (same_held s u Y.same n L H) c i _ (hop_rep s n L H i c l link) (Mu.right c b R.marked R.done))) Mu

    pub link_end : Visited s u' i true
    link_end = record {
      same = link_onward.same;
      goes = λ q. record { onward = link_onward; marked = λ e. R.marked (sym hit ∙ e); done = λ e. R.done (sym hit ∙ e); marks = link_marks };
      stops = λ q. absurd (bool_no true refl q);
    }

pub link_cell : (x l : ℕ) → l ≡ x → (l ≡ 0 → ⊥) → x ≡ suc (l - 1)
link_cell x l e d = ⊎_elim (λ z. absurd (d z)) (λ p. omega arith) (eq-zero-or-pos l)
