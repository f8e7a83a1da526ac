-- What the rules that only build promise: Number, the set ℤ, Tuple, Comprehension.
use mathlib.Core.Path.{◌≡◌, subst}
use mathlib.Core.List.{List, [], ◌∷◌}
use mathlib.Core.Logic.{inl, inr}
use Prim.Native.Nat.{ℕ, suc, ◌+◌, ◌≤◌, ◌<◌}
use native.Mathlib.Omega.{arith}
use Rattle.types_rules.specs.Equations.{In}
use Rattle.types_rules.specs.Former.{int, power, product}
use Rattle.types_rules.specs.Types.{nil, cons}
use Rattle.checker_rules.specs.Conditions.{types_of}
use Rattle.checker_rules.specs.Unknowns.{integer, power_of, product_of}
use Rattle.types_cells.specs.Layout.{first_run}
use Rattle.types_cells.specs.Calls.{Making}
use Rattle.types_solver.proofs.Extending.{builds_on}
use Rattle.checker_pieces.specs.Stage.{Ghost, Stands, Cell}
use Rattle.checker_pieces.specs.Building.{Building, Built, Integer}
use Rattle.checker_pieces.proofs.Stages.{leaf_making, built_stands, built_cell, one_cell, no_cells, uses_on}
use Rattle.checker_kinds.specs.Formers.{DerivedList, Derived, number_items, integers_items, tuple_items, comprehension_items}
use Rattle.checker_kinds.proofs.Concluding.{listed, derived}

-- ℤ may be made.
pub integer_making : (s : List ℕ) (n top x : ℕ) (l : List ℕ) → Building s n top x l → 1 ≤ x → Making s n 1 0 first_run 0
integer_making s n top x l B f = leaf_making s n top x B.P₀ B.L B.solved B.room f 1 (omega arith)

-- NUMBER.
pub number_ruled : (s s' : List ℕ) (n top : ℕ) → Building s n top 1 [] → Integer s s' n int [] → (d : List ℕ) → DerivedList s s' d n top [] 0 n (n + 1) top 1 number_items
number_ruled s s' n top B I d =
    let K = I.built top B.above in
    subst (λ z. DerivedList s s' d n top [] 0 n z top 1 number_items) (let z : suc n ≡ n + 1 = omega arith in z)
    (listed s s' d n (suc n) top top n 1 (K.builds d) K.above K.uses [] (λ xs. integer) (λ G St xs C. built_cell s s' d n top top 1 int [] K G St nil (no_cells s d n G)))

-- THE SET ℤ.
module _ (s : List ℕ) (n top : ℕ) (B : Building s n top 2 []) (s₁ : List ℕ) (I : Integer s s₁ n int []) where
  K₁ : Built s s₁ n top top 1 int []
  K₁ = I.built top B.above

  asked : Building s₁ (suc n) top 1 (n ∷ [])
  asked = record {
    P₀ = B.P₀;
    L = B.L;
    solved = (K₁.builds []).grows.solved B.P₀ B.L B.solved;
    above = K₁.above;
    room = K₁.uses 1 B.room;
    older = one_older;
  }
    where
      one_older : (c : ℕ) → In c (n ∷ []) → c < suc n
      one_older c (inl e) = omega arith
      one_older c (inr i) = absurd i

  pub integers_ask : Building s₁ (n + 1) top 1 (n ∷ [])
  integers_ask = subst (λ z. Building s₁ z top 1 (n ∷ [])) (let z : suc n ≡ n + 1 = omega arith in z) asked

  module _ (s₂ : List ℕ) (K : Built s₁ s₂ (n + 1) top (top + 1) 1 power (n ∷ [])) where
    K₂ : Built s₁ s₂ (suc n) top (top + 1) 1 power (n ∷ [])
    K₂ = subst (λ z. Built s₁ s₂ z top (top + 1) 1 power (n ∷ [])) (let z : n + 1 ≡ suc n = omega arith in z) K

    ℤ_cell : (d : List ℕ) (G : Ghost) → Stands s d n top G → Cell s₁ d (suc n) G n integer
    ℤ_cell d G St = built_cell s s₁ d n top top 1 int [] K₁ G St nil (no_cells s d n G)

    its_power : (d : List ℕ) (G : Ghost) → Stands s d n top G → Cell s₂ d (suc (suc n)) G (suc n) (power_of integer)
    its_power d G St =
        built_cell s₁ s₂ d (suc n) top (top + 1) 1 power (n ∷ []) K₂ G (built_stands s s₁ d n top top 1 int [] K₁ G St) (cons integer nil)
        (one_cell s₁ d (suc n) G n integer (ℤ_cell d G St))

    pub integers_ruled : (d : List ℕ) → DerivedList s s₂ d n top [] 0 (n + 1) (n + 2) (top + 1) 2 integers_items
    integers_ruled d =
        subst (λ z. DerivedList s s₂ d n top [] 0 z (n + 2) (top + 1) 2 integers_items) (let z : suc n ≡ n + 1 = omega arith in z)
        (subst (λ z. DerivedList s s₂ d n top [] 0 (suc n) z (top + 1) 2 integers_items) (let z : suc (suc n) ≡ n + 2 = omega arith in z)
        (listed s s₂ d n (suc (suc n)) top (top + 1) (suc n) 2 (builds_on s s₁ s₂ d n (suc n) (suc (suc n)) (K₁.builds d) (K₂.builds d)) K₂.above
        (uses_on s s₁ s₂ n (suc n) (suc (suc n)) top top (top + 1) 1 1 K₁.uses K₂.uses) [] (λ xs. power_of integer) (λ G St xs C. its_power d G St)))

-- TUPLE.
pub tuple_ruled : (s s' : List ℕ) (n top m : ℕ) (l : List ℕ) → Built s s' n top (top + m) 4 product l → (d : List ℕ) → DerivedList s s' d n top l 0 n (n + 1) (top + m) 4 tuple_items
tuple_ruled s s' n top m l K d =
    subst (λ z. DerivedList s s' d n top l 0 n z (top + m) 4 tuple_items) (let z : suc n ≡ n + 1 = omega arith in z)
    (listed s s' d n (suc n) top (top + m) n 4 (K.builds d) K.above K.uses l (λ xs. product_of (types_of xs))
    (λ G St xs C. built_cell s s' d n top (top + m) 4 product l K G St (types_of xs) C))

-- COMPREHENSION.
pub comprehension_ruled : (s s' : List ℕ) (n top c : ℕ) → Built s s' n top (top + 1) 1 power (c ∷ []) → (d : List ℕ) → Derived s s' d n top c 0 n (n + 1) (top + 1) 1 comprehension_items
comprehension_ruled s s' n top c K d =
    subst (λ z. Derived s s' d n top c 0 n z (top + 1) 1 comprehension_items) (let z : suc n ≡ n + 1 = omega arith in z)
    (derived s s' d n (suc n) top (top + 1) n 1 (K.builds d) K.above K.uses c (λ a. power_of a)
    (λ G St a C. built_cell s s' d n top (top + 1) 1 power (c ∷ []) K G St (cons a nil) (one_cell s d n G c a C)))
