-- Operands one after another: the sides of their equations, and what the equations promise of members of a Set.
use mathlib.Core.Path.{◌≡◌, refl, ap, subst}
use mathlib.Core.List.{List, [], ◌∷◌}
use Prim.Native.Nat.{ℕ, suc, ◌+◌, ◌<◌}
use native.Mathlib.Omega.{arith}
use lib.ListN.{length}
use Rattle.reader_rules.specs.Tree.{Exprs, none, more, exprs_length}
use Rattle.types_rules.specs.Equations.{Pairs}
use Rattle.types_rules.specs.Types.{Term}
use Rattle.checker_rules.specs.Conditions.{types_of, are_members, members, powers}
use Rattle.checker_rules.specs.Unknowns.{unknown_at, power_of}
use Rattle.checker_pieces.specs.Stage.{Ghost, Cell, Comparing, SidesBy, Sides, Equated, StandsReady}
use Rattle.checker_pieces.specs.Building.{Cells}
use Rattle.checker_pieces.specs.Rows.{Members}
use Rattle.checker_pieces.proofs.Sides.{sides_map, sides_within}
use Rattle.checker_pieces.proofs.Stages.{equal_advanced}

-- As many operands as cells.
pub cells_count : (s d : List ℕ) (n : ℕ) (G : Ghost) (l : List ℕ) (xs : Exprs) → Cells s d n G l (types_of xs) → length l ≡ exprs_length xs
unfolding Cells types_of exprs_length
cells_count s d n G [] none K = refl
cells_count s d n G [] (more a xs) K = absurd K
cells_count s d n G (c ∷ l) none K = absurd K
cells_count s d n G (c ∷ l) (more a xs) K = ap suc (cells_count s d n G l xs K.1)

-- MEMBERS have the type of unknown 1 of node k.
pub sides_members : (s d : List ℕ) (n : ℕ) (G : Ghost) (k : ℕ) (l : List ℕ) (y : ℕ) (xs : Exprs) → Cell s d n G y (unknown_at k 1) → Cells s d n G l (types_of xs) → Sides s d n G l y 0 (members k xs)
unfolding SidesBy Cells types_of members
sides_members s d n G k [] y none Y K = tt
sides_members s d n G k [] y (more a xs) Y K = absurd K
sides_members s d n G k (c ∷ l) y none Y K = absurd K
sides_members s d n G k (c ∷ l) y (more a xs) Y K =
    (K.0, Y, sides_members s d n G k l (y + 0) xs (subst (λ z. Cell s d n G z (unknown_at k 1)) (let z : y ≡ y + 0 = omega arith in z) Y) K.1)

-- POWERS, of unknowns j, j + 1, .. of node k.
pub sides_powers : (s d : List ℕ) (n : ℕ) (G : Ghost) (k : ℕ) (l : List ℕ) (y j : ℕ) (xs : Exprs) → ((i : ℕ) → i < exprs_length xs → Cell s d n G (y + i) (power_of (unknown_at k (j + i)))) →
    Cells s d n G l (types_of xs) → Sides s d n G l y 1 (powers k xs j)
unfolding SidesBy Cells types_of powers exprs_length
sides_powers s d n G k [] y j none Y K = tt
sides_powers s d n G k [] y j (more a xs) Y K = absurd K
sides_powers s d n G k (c ∷ l) y j none Y K = absurd K
sides_powers s d n G k (c ∷ l) y j (more a xs) Y K = (K.0, at 0 y j (omega arith) (omega arith) (omega arith), sides_powers s d n G k l (y + 1) (suc j) xs (λ i b. at (suc i) (y + 1 + i) (suc j + i) (omega arith) (omega arith) (omega arith)) K.1)
  where
    at : (i c' j' : ℕ) → i < suc (exprs_length xs) → y + i ≡ c' → j + i ≡ j' → Cell s d n G c' (power_of (unknown_at k j'))
    at i c' j' b e f = subst (λ z. Cell s d n G c' (power_of (unknown_at k z))) f (subst (λ z. Cell s d n G z (power_of (unknown_at k (j + i)))) e (Y i b))

-- Equations whose sides are these may be asked.
pub sides_comparing : (s d : List ℕ) (n : ℕ) (l : List ℕ) (y k top : ℕ) (R : StandsReady s d n top) → (es : Pairs Term) → Sides s d n R.ghost l y k es → k < 3 → Comparing s d n l y k
sides_comparing s d n l y k top R es D b = record {
  top = top;
  ready = R;
  made = sides_within n l y k es (sides_map (Cell s d n R.ghost) (λ c a. c < n) (λ c a C. C.made) l y k es D);
  step = omega arith;
}

pub members_of_lem : (s s' d : List ℕ) (n y : ℕ) (l : List ℕ) (number : ℕ) → Equated s s' d n l y 0 number → Members s s' d n y l number
unfolding are_members
members_of_lem s s' d n y l number E = record {
  low = E.low;
  still = E.still;
  goes = λ e top G St k Y xs K.
      equal_advanced s s' d n l y 0 top G St (members k xs) (sides_members s d n G k l y xs Y K) k (λ x. ⊥) (subst (Equated s s' d n l y 0) e E);
  stops = λ e top G St k Y xs K. E.stops e top G St (members k xs) (sides_members s d n G k l y xs Y K) k;
}
