-- What `is_power` promises: a new unknown, its power, and the equation.
use mathlib.Core.Path.{◌≡◌, refl, subst, ◌∙◌}
use mathlib.Core.List.{List, [], ◌∷◌}
use mathlib.Core.Logic.{inl, inr}
use Prim.Native.Nat.{ℕ, suc, ◌+◌, ◌*◌, ◌<◌}
use native.Mathlib.Omega.{arith}
use Rattle.types_rules.specs.Equations.{In, end, pair}
use Rattle.types_rules.specs.Former.{power}
use Rattle.types_rules.specs.Types.{Term, unknown, nil, cons}
use Rattle.checker_rules.specs.Conditions.{equation}
use Rattle.checker_rules.specs.Items.{fresh}
use Rattle.checker_rules.specs.Unknowns.{slot, power_of}
use Rattle.types_cells.specs.Layout.{first_run}
use Rattle.types_cells.specs.Calls.{Making, Made}
use Rattle.types_solver.proofs.Extending.{made_grows}
use Rattle.checker_pieces.specs.Piece.{Stops}
use Rattle.checker_pieces.specs.Stage.{Ghost, Stands, Room, Cell, Comparing, Sides, Equated, Uses}
use Rattle.checker_pieces.specs.Building.{Building, Built, Introduced, Working, Powered, power_items}
use Rattle.checker_pieces.proofs.Stages.{next, next_stands, next_cell, placed_cell, built_stands, built_old, built_cell, one_cell, building, plain_making, cells_older, introduced_unknown, introduced_equal, introduced_before, introduce_then, stop_then, unknown_uses, uses_on, equal_room, one_side, one_comparing}

-- An unknown that a list does not mention.
most : List ℕ → ℕ
most [] = 0
most (x ∷ l) = suc x + most l

below : (x : ℕ) (l : List ℕ) → In x l → x < most l
unfolding most
below x [] i = absurd i
below x (y ∷ l) (inl e) = omega arith
below x (y ∷ l) (inr i) = let z = below x l i in omega arith

pub unmentioned : (l : List ℕ) → (x : ℕ) × (In x l → ⊥)
unmentioned l = (most l, λ i. let z = below (most l) l i in omega arith)

-- A node of which it mentions no unknown.
pub unmentioned_node : (l : List ℕ) → (k : ℕ) × ((j : ℕ) → In (slot k j) l → ⊥)
unfolding slot
unmentioned_node l = (most l, λ j i. let z = below (most l * 8 + j) l i in omega arith)

module _ (s d : List ℕ) (n top c : ℕ) where
  pub unknown_making : Working s d n top 2 (c ∷ []) → Making s n 0 0 first_run 0
  unknown_making W = plain_making s d n top 2 W.ghost W.stands W.room (omega arith) 0 (omega arith)

  module _ (s₁ : List ℕ) (A : Making s n 0 0 first_run 0) (N : Made s s₁ n 0 0 first_run 0) where
    -- For a piece that stands, and an unknown that it does not mention.
    module _ (G : Ghost) (St : Stands s d n top G) (x : ℕ) (new : In x G.mentioned → ⊥) where
      I₁ : Introduced s s₁ d n top (suc n) top G (fresh x) (λ y. y ≡ x) x n
      I₁ = introduced_unknown s s₁ d n top G St A N x new

      abbrev G₁ : Ghost
      G₁ = next s s₁ d n top (suc n) top G (fresh x) (λ y. y ≡ x) I₁.advanced

      S₁ : Stands s₁ d (suc n) top G₁
      S₁ = next_stands s s₁ d n top (suc n) top G (fresh x) (λ y. y ≡ x) I₁.advanced St.few

      new_cell : Cell s₁ d (suc n) G₁ n (unknown x)
      new_cell = placed_cell s s₁ d n top (suc n) top G (fresh x) (λ y. y ≡ x) I₁.advanced x n I₁.placed

      module _ (s₂ : List ℕ) (K : Built s₁ s₂ (suc n) top (top + 1) 1 power (n ∷ [])) where
        S₂ : Stands s₂ d (suc (suc n)) (top + 1) G₁
        S₂ = built_stands s₁ s₂ d (suc n) top (top + 1) 1 power (n ∷ []) K G₁ S₁

        its_power : Cell s₂ d (suc (suc n)) G₁ (suc n) (power_of (unknown x))
        its_power = built_cell s₁ s₂ d (suc n) top (top + 1) 1 power (n ∷ []) K G₁ S₁ (cons (unknown x) nil) (one_cell s₁ d (suc n) G₁ n (unknown x) new_cell)

        module _ (a : Term) (C : Cell s d n G c a) where
          old : Cell s₂ d (suc (suc n)) G₁ c a
          old =
              built_old s₁ s₂ d (suc n) top (top + 1) 1 power (n ∷ []) K G₁ S₁ c a
              (next_cell s s₁ d n top (suc n) top G (fresh x) (λ y. y ≡ x) I₁.advanced c a C)

          sides : Sides s₂ d (suc (suc n)) G₁ (c ∷ []) (suc n) 0 (pair a (power_of (unknown x)) end)
          sides = one_side s₂ d (suc (suc n)) G₁ c (suc n) a (power_of (unknown x)) old its_power

          module _ (s₃ : List ℕ) (m : ℕ) where
            goes_c : Equated s₂ s₃ d (suc (suc n)) (c ∷ []) (suc n) 0 0 → Introduced s s₃ d n top (suc (suc n)) (top + 1) G (power_items x m a) (λ y. y ≡ x) x n
            goes_c E =
                let I₃ = introduced_equal s₂ s₃ d (suc (suc n)) (c ∷ []) (suc n) 0 (top + 1) G₁ S₂ (pair a (power_of (unknown x)) end) sides m (λ y. y ≡ x) E x n I₁.placed in
                let I₂ = introduced_before s₂ s₃ d (suc (suc n)) (top + 1) (suc (suc n)) (top + 1) G₁ (equation m a (power_of (unknown x))) (λ y. y ≡ x) I₃.advanced
                s₁ (suc n) top (K.builds d) S₁ x n I₃.placed in
                introduce_then s s₁ d n top (suc n) top G (fresh x) (λ y. y ≡ x) I₁.advanced (equation m a (power_of (unknown x))) s₃ (suc (suc n)) (top + 1) x n I₂

            stops_c : (number : ℕ) → (number ≡ 0 → ⊥) → Equated s₂ s₃ d (suc (suc n)) (c ∷ []) (suc n) 0 number → Stops G.before G.items (power_items x m a) number m
            stops_c number ne E =
                stop_then s s₁ d n top (suc n) top G (fresh x) (λ y. y ≡ x) I₁.advanced (equation m a (power_of (unknown x))) number m
                (E.stops ne (top + 1) G₁ S₂ (pair a (power_of (unknown x)) end) sides m)

    -- For the piece that the caller has.
    module _ (W : Working s d n top 2 (c ∷ [])) where
      y : ℕ
      y = (unmentioned W.ghost.mentioned).0

      y_new : In y W.ghost.mentioned → ⊥
      unfolding y
      y_new = (unmentioned W.ghost.mentioned).1

      room₁ : Room s₁ (suc n) top 1
      room₁ = unknown_uses s s₁ n top A N 1 W.room

      power_asks : Building s₁ (suc n) top 1 (n ∷ [])
      power_asks =
          building s₁ d (suc n) top 1 (G₁ W.ghost W.stands y y_new) (S₁ W.ghost W.stands y y_new) room₁ (n ∷ []) (cons (unknown y) nil)
          (one_cell s₁ d (suc n) (G₁ W.ghost W.stands y y_new) n (unknown y) (new_cell W.ghost W.stands y y_new))

      pub power_requires : Building s₁ (n + 1) top 1 (n ∷ [])
      power_requires = subst (λ z. Building s₁ z top 1 (n ∷ [])) (let z : suc n ≡ n + 1 = omega arith in z) power_asks

      module _ (s₂ : List ℕ) (K : Built s₁ s₂ (n + 1) top (top + 1) 1 power (n ∷ [])) where
        K' : Built s₁ s₂ (suc n) top (top + 1) 1 power (n ∷ [])
        K' = subst (λ z. Built s₁ s₂ z top (top + 1) 1 power (n ∷ [])) (let z : n + 1 ≡ suc n = omega arith in z) K

        comparing : Comparing s₂ d (suc (suc n)) (c ∷ []) (suc n) 0
        comparing =
            one_comparing s₂ d (suc (suc n)) c (suc n) (top + 1) (G₁ W.ghost W.stands y y_new) (S₂ W.ghost W.stands y y_new s₂ K')
            (let z = cells_older s d n W.ghost (c ∷ []) W.terms W.cells c (inl refl) in omega arith) (omega arith)

        pub equal_requires : Comparing s₂ d (n + 2) (c ∷ []) (n + 1) 0
        equal_requires =
            subst (λ z. Comparing s₂ d z (c ∷ []) (n + 1) 0) (let z : suc (suc n) ≡ n + 2 = omega arith in z)
            (subst (λ z. Comparing s₂ d (suc (suc n)) (c ∷ []) z 0) (let z : suc n ≡ n + 1 = omega arith in z) comparing)

        module _ (s₃ : List ℕ) (b : ℕ) (E : Equated s₂ s₃ d (n + 2) (c ∷ []) (n + 1) 0 b) where
          E' : Equated s₂ s₃ d (suc (suc n)) (c ∷ []) (suc n) 0 b
          E' =
              subst (λ z. Equated s₂ s₃ d z (c ∷ []) (suc n) 0 b) (let z : n + 2 ≡ suc (suc n) = omega arith in z)
              (subst (λ z. Equated s₂ s₃ d (n + 2) (c ∷ []) z 0 b) (let z : n + 1 ≡ suc n = omega arith in z) E)

          uses_c : Uses s s₃ n top (suc (suc n)) (top + 1) 2
          uses_c z R =
              equal_room s₂ s₃ d (suc (suc n)) (c ∷ []) (suc n) 0 (top + 1) z E'
              (uses_on s s₁ s₂ n (suc n) (suc (suc n)) top top (top + 1) 1 1 (unknown_uses s s₁ n top A N) K'.uses z R)

          pub powered : Powered s s₃ d n top c b
          powered =
              let e : suc (suc n) ≡ n + 2 = omega arith in
              record {
                low = E'.low ∙ (K'.builds d).grows.low ∙ (made_grows s s₁ d n 0 0 first_run 0 A N).low;
                uses = subst (λ z. Uses s s₃ n top z (top + 1) 2) e uses_c;
                goes = λ q G St x new m a C.
                    subst (λ z. Introduced s s₃ d n top z (top + 1) G (power_items x m a) (λ u. u ≡ x) x n) e
                    (goes_c G St x new s₂ K' a C s₃ m (subst (Equated s₂ s₃ d (suc (suc n)) (c ∷ []) (suc n) 0) q E'));
                stops = λ q G St x new m a C. stops_c G St x new s₂ K' a C s₃ m b q E';
              }
