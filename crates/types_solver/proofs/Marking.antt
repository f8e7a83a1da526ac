-- Marks: sums that stop at 33, sizes, and what a mark changes.
use mathlib.Core.Path.{◌≡◌, refl, sym, ap, ap₂, subst, ◌∙◌}
use mathlib.Core.Bool.{Bool, true, false}
use mathlib.Core.List.{List, map}
use mathlib.Core.Logic.{inl, inr, ⊎_elim}
use Prim.Native.Nat.{ℕ, zero, suc, ◌+◌, ◌≤◌, ◌<◌}
use native.Mathlib.Omega.{arith}
use native.Mathlib.Nat.{eq-or-lt_of_le, eq-zero-or-pos}
use lib.Dec.{eqb}
use lib.ListN.{length, set, length-set}
use lib.Seq.{get_or-set_same, get_or-set_other, take-set-le}
use Rattle.types_cells.specs.Layout.{max_cells, pool_size, links_at, marks_at, area_size}
use Rattle.types_cells.specs.Settled.{lower, word_at}
use borrow.Author.Tests.{eqb-true, eqb-false, lt-ltb, le-ltb}
use Rattle.types_rules.proofs.Classify.{build}
use Rattle.types_rules.proofs.Finite.{all_of, depth, solution, solution_sat, tree_by, tree_same}
use Rattle.types_rules.proofs.Rational.{shape_1, rep_sat}
use Rattle.types_rules.proofs.Transfer.{follows_holds}
use Rattle.types_rules.specs.Classes.{Closed, rep}
use Rattle.types_rules.specs.Equations.{AllP, In, Pairs, end}
use Rattle.types_rules.specs.Finite.{bounded, bounded_view, from_list, type_of, type_of_view}
use Rattle.types_rules.specs.Follows.{Follows, View, shape, unk}
use Rattle.types_rules.specs.Former.{Former, int}
use Rattle.types_rules.specs.Types.{Ty, node, size, sizes, tnil}
use Rattle.types_cells.specs.Store.{frozen, tag_at, parts_at, former_at, view, free, Held, Solved}
use Rattle.types_solver.specs.Sizes.{cap, mark_at, bare, type_at, Sized, Marks, Same, Solution}
use Rattle.types_cells.proofs.LinkLaws.{rep_below, upto, upto_in, upto_len, held_same}
use Rattle.types_cells.proofs.Solutions.{mk_c, sat_all}
use Rattle.types_cells.proofs.Words.{frozen_set, link_same}
use Rattle.types_cells.proofs.Heads.{view_unk, view_shape}
use Rattle.types_cells.proofs.Growing.{view_made, lt_or_ge}

pub cap_low : (x : ℕ) → x < 33 → cap x ≡ x
unfolding cap
cap_low x l = rw (cap, lt-ltb x 33 l)

pub cap_high : (x : ℕ) → 33 ≤ x → cap x ≡ 33
unfolding cap
cap_high x l = rw (cap, le-ltb x 33 l)

pub cap_cases : (x : ℕ) (C : Type 0) → (x < 33 → cap x ≡ x → C) → (33 ≤ x → cap x ≡ 33 → C) → C
cap_cases x C f g = ⊎_elim (λ l. f l (cap_low x l)) (λ l. g l (cap_high x l)) (lt_or_ge x 33)

pub cap_le : (x : ℕ) → cap x ≤ 33
cap_le x = cap_cases x _ (λ l e. omega arith) (λ l e. omega arith)

pub cap_pos : (x : ℕ) → 0 < x → 0 < cap x
cap_pos x p = cap_cases x _ (λ l e. omega arith) (λ l e. omega arith)

pub cap_add : (x y z : ℕ) → cap (cap (x + y) + z) ≡ cap (x + (y + z))
cap_add x y z =
    cap_cases (x + y) _
    (λ l e. ap cap (let q : cap (x + y) + z ≡ x + (y + z) = omega arith in q))
    (λ l e. cap_high (cap (x + y) + z) (omega arith) ∙ sym (cap_high (x + (y + z)) (omega arith)))

pub cap_part : (x y : ℕ) → cap (x + cap y) ≡ cap (x + y)
cap_part x y =
    cap_cases y _
    (λ l e. ap (λ v. cap (x + v)) e)
    (λ l e. cap_high (x + cap y) (omega arith) ∙ sym (cap_high (x + y) (omega arith)))

one_more : (x : ℕ) → 1 + x ≡ suc x
one_more x = omega arith

upto_below : (n i : ℕ) → In i (upto n) → i < n
upto_below zero i h = absurd h
upto_below (suc n) i (inl e) = omega arith
upto_below (suc n) i (inr h) = let l = upto_below n i h in omega arith

module _ (s : List ℕ) (n : ℕ) (L : Pairs ℕ) (H : Held s n L) where
  abbrev w : List ℕ
  w = frozen s

  abbrev Vw : ℕ → View ℕ
  Vw = view (frozen s) n

  abbrev r : ℕ → ℕ
  r = rep eqb L

  kids : (x : ℕ) → x < n → (c : ℕ) → In c (parts_at w x) → c < n
  kids x l c i = let o = (H.cells x l).older c i in omega arith

  no_unk : (h : Former) (cs : List ℕ) → ◌≡◌ {A = View ℕ} unk (shape h cs) → ⊥
  no_unk h cs q = let z : ◌≡◌ {A = ℕ} 0 1 = cc in omega arith

  pub kids_below : (x : ℕ) (h : Former) (cs : List ℕ) → x < n → Vw x ≡ shape h cs → (c : ℕ) → In c cs → c < n
  kids_below x h cs l e c j =
      ⊎_elim
      (λ z. absurd (no_unk h cs (sym (view_unk w n x l z) ∙ e)))
      (λ p. kids x l c (subst (In c) (shape_1 _ _ _ _ (sym e ∙ view_shape w n x l p)) j))
      (eq-zero-or-pos (tag_at w x))

  kids_v : (x : ℕ) (h : Former) (cs : List ℕ) → In x (upto n) → Vw x ≡ shape h cs → (c : ℕ) → In c cs → In c (upto n)
  kids_v x h cs i e c j = upto_in n c (kids_below x h cs (upto_below n x i) e c j)

  pub deep : (d i : ℕ) → i < n → bounded r Vw d i ≡ true → bounded r Vw n i ≡ true
  deep d i l e =
      subst (λ k. bounded r Vw k i ≡ true) (upto_len n)
      (depth r Vw (upto n) (λ j m. upto_in n (r j) (rep_below n L H.inside j (upto_below n j m))) kids_v d i (upto_in n i l) e)

  module _ (i : ℕ) (l : i < n) where
    x_below : r i < n
    x_below = rep_below n L H.inside i l

    pub sized_unk : tag_at w (r i) ≡ 0 → Sized w n L i 1
    unfolding type_at size
    sized_unk e =
        let vu = view_unk w n (r i) x_below e in
        let o : bounded r Vw 1 i ≡ true = unfold bounded bounded_view in (ap (bounded_view (λ c. bounded r Vw 0 c)) vu) in
        let d = deep 1 i l o in
        let h : type_of r Vw (λ j. node int tnil) 1 i ≡ node int tnil = unfold type_of type_of_view in (ap (type_of_view (λ c. type_of r Vw (λ j. node int tnil) 0 c) (node int tnil)) vu) in
        let q = tree_same r Vw (λ j. node int tnil) n 1 i d o ∙ h in
        record { finite = d; size = sym (ap (λ z. cap (size z)) q ∙ cap_low 1 (omega arith)) }

    -- A former whose parts have finite types.
    pub sized_shape : 0 < tag_at w (r i) → ((c : ℕ) → In c (parts_at w (r i)) → bounded r Vw n c ≡ true) → (v : ℕ) → v ≡ cap (1 + sizes (from_list (map (type_at w n L) (parts_at w (r i))))) →
        Sized w n L i v
    unfolding type_at size
    sized_shape p f v e =
        let vs = view_shape w n (r i) x_below p in
        let o : bounded r Vw (suc n) i ≡ true = unfold bounded bounded_view in (ap (bounded_view (λ c. bounded r Vw n c)) vs ∙ all_of (λ c. bounded r Vw n c) (parts_at w (r i)) f) in
        let d = deep (suc n) i l o in
        let h : type_of r Vw (λ j. node int tnil) (suc n) i ≡ node (former_at w (r i)) (from_list (map (λ c. type_of r Vw (λ j. node int tnil) n c) (parts_at w (r i)))) =
        unfold type_of type_of_view in (ap (type_of_view (λ c. type_of r Vw (λ j. node int tnil) n c) (node int tnil)) vs) in
        let q = tree_same r Vw (λ j. node int tnil) n (suc n) i d o ∙ h in
        record { finite = d; size = e ∙ ap cap (one_more _) ∙ sym (ap (λ y. cap (size y)) q) }

  by_class : (d i j : ℕ) → r i ≡ r j → bounded r Vw d i ≡ bounded r Vw d j
  unfolding bounded
  by_class zero i j e = refl
  by_class (suc d) i j e = ap (λ z. bounded_view (λ c. bounded r Vw d c) (Vw z)) e

  -- Cells of one class have one size.
  pub sized_class : (i j v : ℕ) → r i ≡ r j → Sized w n L i v → Sized w n L j v
  unfolding type_at
  sized_class i j v e z =
      record { finite = sym (by_class n i j e) ∙ z.finite; size = z.size ∙ ap (λ y. cap (size y)) (tree_by r Vw (λ j. node int tnil) n i j e) }

module _ (s : List ℕ) (n : ℕ) (P₀ L : Pairs ℕ) (S : Solved s n P₀ L) where
  pub by_rep : (X : Solution (frozen s) n P₀) → (i : ℕ) → X.σ (rep eqb L i) ≡ X.σ i
  by_rep X i = rep_sat ℕ eqb eqb-true eqb-false X.σ L (sat_all X.σ _ (follows_holds build mk_c (view (frozen s) n) P₀ X.σ X.fits X.sat) L S.follows) i

  -- A solution, with τ at the unknowns.
  unfoldable pub solve_with : (τ : ℕ → Ty) → ((i : ℕ) → i < n → bounded (rep eqb L) (view (frozen s) n) n i ≡ true) → Solution (frozen s) n P₀
  solve_with τ h = record {
    σ = type_of (rep eqb L) (view (frozen s) n) τ n;
    fits = λ i k cs e. solution ℕ eqb eqb-true eqb-false (view (frozen s) n) P₀ L S.closed τ n i k cs (h i (view_made (frozen s) n i k cs e)) e;
    sat = solution_sat ℕ eqb eqb-true eqb-false (view (frozen s) n) P₀ L S.closed τ n;
  }

  unfoldable pub solve : ((i : ℕ) → i < n → bounded (rep eqb L) (view (frozen s) n) n i ≡ true) → Solution (frozen s) n P₀
  unfolding type_at
  solve h = record {
    σ = type_at (frozen s) n L;
    fits = λ i k cs e. solution ℕ eqb eqb-true eqb-false (view (frozen s) n) P₀ L S.closed (λ j. node int tnil) n i k cs (h i (view_made (frozen s) n i k cs e)) e;
    sat = solution_sat ℕ eqb eqb-true eqb-false (view (frozen s) n) P₀ L S.closed (λ j. node int tnil) n;
  }

-- Same cells and links.
pub same_refl : (s : List ℕ) → Same s s
same_refl s = record { size = refl; still = refl; links = λ i l. refl; low = refl; refs = λ i l. refl }

pub same_back : (s s' : List ℕ) → Same s s' → Same s' s
same_back s s' K = record { size = sym K.size; still = sym K.still; links = λ i l. sym (K.links i l); low = sym K.low; refs = λ i l. sym (K.refs i l) }

pub same_on : (s t u : List ℕ) → Same s t → Same t u → Same s u
same_on s t u a b = record { size = b.size ∙ a.size; still = b.still ∙ a.still; links = λ i l. b.links i l ∙ a.links i l; low = b.low ∙ a.low; refs = λ i l. b.refs i l ∙ a.refs i l }

pub same_held : (s t : List ℕ) → Same s t → (n : ℕ) (L : Pairs ℕ) → Held s n L → Held t n L
same_held s t a n L H = held_same s t a.still n L a.size a.links H

pub same_solved : (s t : List ℕ) → Same s t → (n : ℕ) (P₀ L : Pairs ℕ) → Solved s n P₀ L → Solved t n P₀ L
same_solved s t a n P₀ L S = record {
  held = same_held s t a n L S.held;
  closed = subst (λ z. Closed eqb (view z n) P₀ L end) (sym a.still) S.closed;
  follows = subst (λ z. AllP (Follows (view z n) P₀) L) (sym a.still) S.follows;
  asked = S.asked;
}

-- A mark.
module _ (s : List ℕ) (i v : ℕ) (size : length s ≡ area_size) (l : i < max_cells) where
  pub mark_same : Same s (set s (marks_at + i) v)
  unfolding lower word_at
  mark_same = record {
    low = take-set-le pool_size s (marks_at + i) v (omega arith);
    refs = λ j m. get_or-set_other s (marks_at + i) (links_at + j) v 0 (λ e. omega arith);
    size = length-set s (marks_at + i) v;
    still = frozen_set s (marks_at + i) v (omega arith);
    links = λ j m. link_same s _ j j (get_or-set_other s (marks_at + i) (links_at + j) v 0 (λ e. omega arith));
  }

  pub mark_hit : mark_at (set s (marks_at + i) v) i ≡ v
  unfolding mark_at
  mark_hit = get_or-set_same s (marks_at + i) v 0 (omega arith)

  pub mark_miss : (j : ℕ) → (j ≡ i → ⊥) → mark_at (set s (marks_at + i) v) j ≡ mark_at s j
  unfolding mark_at
  mark_miss j d = get_or-set_other s (marks_at + i) (marks_at + j) v 0 (λ e. d (omega arith))

  bare_low : (m : ℕ) → m ≤ i → bare (set s (marks_at + i) v) m ≡ bare s m
  unfolding bare
  bare_low zero q = refl
  bare_low (suc m) q = ap₂ (λ x y. free x 1 + y) (mark_miss m (λ e. omega arith)) (bare_low m (omega arith))

  free_0 : (x : ℕ) → (x ≡ 0 → ⊥) → free x 1 ≡ 0
  unfolding free
  free_0 zero d = absurd (d refl)
  free_0 (suc x) d = refl

  pub bare_less : (v ≡ 0 → ⊥) → (m : ℕ) → bare (set s (marks_at + i) v) m ≤ bare s m
  unfolding bare
  bare_less some zero = omega arith
  bare_less some (suc m) = go (eqb m i) refl (bare_less some m)
    where
      go : (b : Bool) → eqb m i ≡ b → bare (set s (marks_at + i) v) m ≤ bare s m → free (mark_at (set s (marks_at + i) v) m) 1 + bare (set s (marks_at + i) v) m ≤ free (mark_at s m) 1 + bare s m
      go true t h = let e = ap (mark_at (set s (marks_at + i) v)) (eqb-true m i t) ∙ mark_hit in let z = free_0 (mark_at (set s (marks_at + i) v) m) (λ y. some (sym e ∙ y)) in omega arith
      go false t h = let e = ap (λ x. free x 1) (mark_miss m (eqb-false m i t)) in omega arith

  module _ (none : mark_at s i ≡ 0) (some : v ≡ 0 → ⊥) where
    term_new : free (mark_at (set s (marks_at + i) v) i) 1 ≡ 0
    term_new = free_0 _ (λ e. some (sym mark_hit ∙ e))

    term_old : free (mark_at s i) 1 ≡ 1
    unfolding free
    term_old = ap (λ x. free x 1) none

    pub bare_mark : (m : ℕ) → i < m → bare (set s (marks_at + i) v) m + 1 ≡ bare s m
    unfolding bare
    bare_mark zero q = absurd (omega arith)
    bare_mark (suc m) q = ⊎_elim
        (λ e. subst (λ z. free (mark_at (set s (marks_at + i) v) z) 1 + bare (set s (marks_at + i) v) z + 1 ≡ free (mark_at s z) 1 + bare s z) e
        (omega (arith, term_new, term_old, bare_low i (omega arith))))
        (λ p. omega (arith, bare_mark m p, ap (λ x. free x 1) (mark_miss m (λ e. omega arith))))
        (eq-or-lt_of_le q')
      where
        q' : i ≤ m
        q' = omega arith

  -- Marks stay right where the new one is.
  pub marks_set : (n : ℕ) (L : Pairs ℕ) → ((v ≡ 34 → ⊥) → Sized (frozen s) n L i v) → Marks s n L → Marks (set s (marks_at + i) v) n L
  marks_set n L z M = record { right = λ j q d f. go j q d f (eqb j i) refl }
    where
      e : frozen (set s (marks_at + i) v) ≡ frozen s
      e = frozen_set s (marks_at + i) v (omega arith)

      go : (j : ℕ) → j < n → (mark_at (set s (marks_at + i) v) j ≡ 0 → ⊥) → (mark_at (set s (marks_at + i) v) j ≡ 34 → ⊥) → (b : Bool) → eqb j i ≡ b →
          Sized (frozen (set s (marks_at + i) v)) n L j (mark_at (set s (marks_at + i) v) j)
      go j q d f true t =
          let ji = eqb-true j i t in
          let h = ap (mark_at (set s (marks_at + i) v)) ji ∙ mark_hit in
          subst (λ y. Sized (frozen (set s (marks_at + i) v)) n L y (mark_at (set s (marks_at + i) v) y)) (sym ji)
          (subst (λ y. Sized y n L i (mark_at (set s (marks_at + i) v) i)) (sym e) (subst (λ y. Sized (frozen s) n L i y) (sym mark_hit) (z (λ y. f (h ∙ y)))))
      go j q d f false t =
          let m = mark_miss j (eqb-false j i t) in
          subst (λ y. Sized y n L j (mark_at (set s (marks_at + i) v) j)) (sym e)
          (subst (λ y. Sized (frozen s) n L j y) (sym m) (M.right j q (λ y. d (m ∙ y)) (λ y. f (m ∙ y))))
