-- The test: the marks are cleared, every cell is visited, and what that says of the types.
use mathlib.Core.Path.{◌≡◌, refl, sym, ap, subst, ◌∙◌}
use mathlib.Core.Bool.{Bool, true, false}
use mathlib.Core.List.{List}
use mathlib.Core.Logic.{⊎_elim}
use Prim.Native.Nat.{ℕ, ◌+◌, ◌≤◌, ◌<◌}
use native.Mathlib.Omega.{arith}
use native.Mathlib.Nat.{eq-or-lt_of_le}
use lib.ListN.{length, set}
use Rattle.types_rules.proofs.Terms.{bool_no}
use Rattle.types_rules.specs.Equations.{Pairs}
use Rattle.types_rules.specs.Types.{size}
use Rattle.types_cells.specs.Layout.{max_cells, marks_at, area_size}
use Rattle.types_cells.specs.Store.{frozen, parts_at, Held, Solved}
use Rattle.types_cells.specs.Calls.{Known}
use Rattle.types_solver.specs.Sizes.{mark_at, Sized, Marks, Same, Read, Falls, Visited, Calm, Visits, Cleared, Solution, TestedFinite}
use Rattle.types_cells.proofs.Heads.{view_shape}
use Rattle.types_solver.proofs.Marking.{by_rep, solve, same_on, same_held, same_solved, mark_same, mark_hit, mark_miss}
use Rattle.types_solver.proofs.Summing.{part_size}

-- The cells before i have been marked.
pub record Seen (s t : List ℕ) (n i : ℕ) : Type 0 where
  pub same : Same s t
  pub calm : Calm s n → Calm t n
  pub done : (j : ℕ) → j < i → (mark_at t j ≡ 0 → ⊥) × (mark_at t j ≡ 34 → ⊥)
  pub marks : (L : Pairs ℕ) → Held s n L → Marks s n L → Marks t n L

module _ (s t : List ℕ) (n i : ℕ) (X : Seen s t n i) (D : Read s n) (l : i < n) where
  H-at : (L : Pairs ℕ) → Held s n L → Held t n L
  H-at L H = same_held s t X.same n L H

  pub seen_known : Known t i
  seen_known = record { n = n; L = D.L; held = H-at D.L D.held; made = l }

  pub seen_stop : (u : List ℕ) → Visited t u i false → Visits s u n false
  seen_stop u Y = record {
    same = same_on s t u X.same Y.same;
    goes = λ q. absurd (bool_no false q refl);
    stops = λ q L H C m F. Y.stops refl n L (H-at L H) l m (subst (λ w. Falls w n L m) (sym X.same.still) F) (λ j m e. absurd (X.calm C j m e));
  }

  pub seen_step : (u : List ℕ) → Visited t u i true → Seen s u n (i + 1)
  seen_step u Y =
      let R = Y.goes refl in
      record {
        same = same_on s t u X.same Y.same;
        calm = λ C j m e. X.calm C j m (R.onward.ended j e);
        done = λ j b. ⊎_elim
            (λ e. let h = ap (mark_at u) e in (λ z. R.marked (sym h ∙ z), λ z. R.done (sym h ∙ z)))
            (λ q. let d = X.done j q in let h = R.onward.kept j d.0 in (λ z. d.0 (sym h ∙ z), λ z. d.1 (sym h ∙ z)))
            (eq-or-lt_of_le (let z : j ≤ i = omega arith in z));
        marks = λ L H M. R.marks n L (H-at L H) l (X.marks L H M);
      }

pub clear_step : (s t : List ℕ) (n i : ℕ) → Cleared s t i → Read s n → i < n → Cleared s (set t (marks_at + i) 0) (i + 1)
clear_step s t n i C D l =
    let size : length t ≡ area_size = C.same.size ∙ D.held.size in
    let few : i < max_cells = let f = D.held.few in omega arith in
    record {
      same = same_on s t _ C.same (mark_same t i 0 size few);
      none = λ j b. ⊎_elim
          (λ e. ap (mark_at (set t (marks_at + i) 0)) e ∙ mark_hit t i 0 size few)
          (λ q. mark_miss t i 0 size few j (λ e. omega arith) ∙ C.none j q)
          (eq-or-lt_of_le (let z : j ≤ i = omega arith in z));
    }

-- The sizes of a solution fall.
pub solution_falls : (s : List ℕ) (n : ℕ) (P₀ L : Pairs ℕ) → Solved s n P₀ L → (X : Solution (frozen s) n P₀) → Falls (frozen s) n L (λ i. size (X.σ i))
unfolding size
solution_falls s n P₀ L S X = record {
  classes = λ i. ap size (by_rep s n P₀ L S X i);
  parts = λ r l p c i. let e = ap size (X.fits r _ _ (view_shape (frozen s) n r l p)) in let z = part_size X.σ c (parts_at (frozen s) r) i in omega arith;
}

module _ (s t u : List ℕ) (n : ℕ) (C : Cleared s t n) (fine : Bool) (Y : Visits t u n fine) where
  cleared_marks : (L : Pairs ℕ) → Marks t n L
  cleared_marks L = record { right = λ i l d f. absurd (d (C.none i l)) }

  cleared_sizes : fine ≡ true → (L : Pairs ℕ) → Held s n L → (i : ℕ) → i < n → Sized (frozen s) n L i (mark_at u i)
  cleared_sizes e L H i l = subst (λ w. Sized w n L i (mark_at u i)) C.same.still (Y.goes e L (same_held s t C.same n L H) (cleared_marks L) i l)

  cleared_stops : fine ≡ false → (L : Pairs ℕ) → Held s n L → (m : ℕ → ℕ) → Falls (frozen s) n L m → ⊥
  cleared_stops e L H m F =
      Y.stops e L (same_held s t C.same n L H) (λ i l q. let z = C.none i l in omega arith) m (subst (λ w. Falls w n L m) (sym C.same.still) F)

  same_through : Same s u
  same_through = same_on s t u C.same Y.same

  pub tested : TestedFinite s u n fine
  tested = record {
    same = same_through;
    still = same_through.still;
    grown = λ P₀ L S. same_solved s u same_through n P₀ L S;
    sizes = λ e P₀ L S i l. cleared_sizes e L S.held i l;
    solves = λ e P₀ L S. solve s n P₀ L S (λ i l. (cleared_sizes e L S.held i l).finite);
    endless = λ e P₀ L S X. cleared_stops e L S.held _ (solution_falls s n P₀ L S X);
  }
