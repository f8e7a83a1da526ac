-- What the steps that visit no node promise, from what the functions that they call do.
use mathlib.Core.Path.{◌≡◌, refl, sym, subst}
use mathlib.Core.Bool.{Bool, true, false}
use mathlib.Core.List.{List, [], ◌∷◌}
use mathlib.Core.Logic.{inl, inr}
use Prim.Native.Nat.{ℕ, ◌≤◌, ◌<◌}
use native.Mathlib.Omega.{arith}
use Rattle.types_rules.proofs.Terms.{bool_no}
use Rattle.std.specs.Prelude.{Result}
use Rattle.types_rules.specs.Types.{Ty, Term, size}
use Rattle.checker_rules.specs.Conditions.{new_names, new_name}
use Rattle.checker_rules.specs.Dictionary.{blank, name_in}
use Rattle.checker_rules.specs.Items.{Items, skip, ◌⨾◌}
use Rattle.checker_rules.specs.Signatures.{Signature}
use Rattle.types_solver.specs.Sizes.{cap}
use Rattle.types_solver.proofs.Marking.{cap_cases}
use Rattle.checker_signatures.specs.Rows.{rows}
use Rattle.checker_signatures.specs.Carried.{Carries}
use Rattle.checker_signatures.proofs.CarryLaws.{carries_other}
use Rattle.checker_merging.specs.Merging.{TypedAt, DeclaredTold, NewTold}
use Rattle.checker_pieces.specs.Answering.{Answers}
use Rattle.checker_pieces.specs.Building.{Working}
use Rattle.checker_pieces.specs.Piece.{Steady, Walked}
use Rattle.checker_pieces.specs.Stage.{Comparing}
use Rattle.checker_pieces.proofs.Between.{walked_skip, walked_then}
use Rattle.checker_pieces.proofs.Stages.{cells_older, one_comparing}
use Rattle.checker_kinds.specs.Equations.{Related, equality_items, membership_items, comparison_items}
use Rattle.checker_includes.specs.Components.{Placed}
use Rattle.checker_includes.specs.Storing.{OverlapTold}
use Rattle.checker_contracts.specs.Visits.{globals_if}
use Rattle.checker_closing.specs.Leaves.{relation_items, FitsTold, NewIfTold}

-- RELATIONS, by kind.
pub comparing : (s d : List ℕ) (n top x y : ℕ) → Working s d n top 1 (x ∷ y ∷ []) → Comparing s d n (x ∷ []) y 0
comparing s d n top x y W =
    let older = cells_older s d n W.ghost (x ∷ y ∷ []) W.terms W.cells in
    one_comparing s d n x y top W.ghost W.stands (older x (inl refl)) (older y (inr (inl refl)))

module _ (s s' d : List ℕ) (n top x y : ℕ) (r : Result ℕ ℕ) (q : ℕ) where
  abbrev Told : (ℕ → Term → Term → Items) → Type 0
  Told own = Answers ℕ (λ number cells. Related s s' d n top x y number cells own) r

  pub as_equality : q ≡ 21 → Answers ℕ (λ number cells. Related s s' d n top x y number cells equality_items) r → Answers ℕ (λ number cells. Related s s' d n top x y number cells (relation_items q)) r
  as_equality e R = subst (λ z. Told (relation_items z)) (sym e) R

  pub as_membership : q ≡ 22 → Answers ℕ (λ number cells. Related s s' d n top x y number cells membership_items) r → Answers ℕ (λ number cells. Related s s' d n top x y number cells (relation_items q)) r
  as_membership e R = subst (λ z. Told (relation_items z)) (sym e) R

  pub as_comparison : 21 ≤ q → q ≤ 23 → (q ≡ 21 → ⊥) → (q ≡ 22 → ⊥) → Answers ℕ (λ number cells. Related s s' d n top x y number cells comparison_items) r →
      Answers ℕ (λ number cells. Related s s' d n top x y number cells (relation_items q)) r
  as_comparison l m a b R = let e : q ≡ 23 = omega (arith, l, m, a, b) in subst (λ z. Told (relation_items z)) (sym e) R

-- 36, SECOND CASE.
pub new_global : (g : Bool) (d w is : List ℕ) (r : Bool) → g ≡ true → NewTold d w is r → NewIfTold g d w is r
unfolding globals_if
new_global true d w is r e N = record { goes = N.goes; stops = N.stops }
new_global false d w is r e N = absurd (bool_no false e refl)

none_new : (H : Items) (U : List ℕ) (n : ℕ) (is : List ℕ) → Steady H U → Walked H (new_names n is blank) U U (λ x. ⊥)
unfolding new_names new_name name_in
none_new H U n [] S = walked_skip H U (λ x. ⊥) S
none_new H U n (i ∷ is) S =
    let W = walked_skip H U (λ x. ⊥) S in
    walked_then H skip (new_names n is blank) U U U (λ x. ⊥) S W (none_new (H ⨾ skip) U n is W.steady)

pub new_local : (g : Bool) (d w is : List ℕ) → g ≡ false → NewIfTold g d w is true
unfolding globals_if
new_local false d w is e = record { goes = λ y D H U n h S. none_new H U n is S; stops = λ y. absurd (bool_no true refl y) }
new_local true d w is e = absurd (bool_no true refl e)

-- 36 OF A DECL, by the size of its type.
module _ (s d w : List ℕ) (base m : ℕ) (is : List ℕ) (at v : ℕ) (fine : Bool) where
  small_is : (g : Ty) → v ≡ cap (size g) → v ≤ 32 → size g ≤ 32
  small_is g e l = cap_cases (size g) _ (λ k q. omega (arith, e, l, k, q)) (λ k q. omega (arith, e, l, k, q))

  large_is : (g : Ty) → v ≡ cap (size g) → 32 < v → 32 < size g
  large_is g e l = cap_cases (size g) _ (λ k q. omega (arith, e, l, k, q)) (λ k q. omega (arith, e, l, k, q))

  typed : (H : Items) (U : List ℕ) (r : Signature) → Carries (Placed s d H U) r (rows w base m) → Carries (TypedAt s d H U) r (rows w base m)
  typed H U r C = carries_other (Placed s d H U) (TypedAt s d H U) (λ t p P. P.typed) r (rows w base m) C

  pub fits_small : v ≤ 32 → DeclaredTold s d w base m at is fine → FitsTold s d w base m is at v fine
  fits_small l D = record {
    goes = λ y H U n t g r S T E e R C. D.goes y H U n t r S (record { type = g; reads = R (small_is g e l); settled = T; over = E }) (typed H U r C);
    stops = λ y H U n t g r S T E e R C. D.stops y H U n t r S (record { type = g; reads = R (small_is g e l); settled = T; over = E }) (typed H U r C);
  }

  pub fits_large : 32 < v → OverlapTold s d w base m is fine → FitsTold s d w base m is at v fine
  fits_large l D = record {
    goes = λ y H U n t g r S T E e R C. D.goes y H U n t r S C;
    stops = λ y H U n t g r S T E e R C. D.stops y H U n t g r S T (large_is g e l) C;
  }
