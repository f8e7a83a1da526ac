-- Apply: a new unknown for the result, the power of the pairs of argument and result, and the equation with the function.
use mathlib.Core.Path.{◌≡◌, sym, subst, ◌∙◌}
use mathlib.Core.List.{List, [], ◌∷◌}
use Prim.Native.Nat.{ℕ, suc, ◌+◌}
use native.Mathlib.Omega.{arith}
use Rattle.types_rules.specs.Equations.{In, end, pair}
use Rattle.types_rules.specs.Former.{power, product}
use Rattle.types_rules.specs.Types.{Term, unknown, nil, cons}
use Rattle.checker_rules.specs.Conditions.{equation}
use Rattle.checker_rules.specs.Items.{Items, ◌⨾◌, fresh}
use Rattle.checker_rules.specs.Unknowns.{slot, power_of, pair_of}
use Rattle.types_cells.specs.Layout.{first_run}
use Rattle.types_cells.specs.Calls.{Making, Made}
use Rattle.types_cells.specs.Settled.{lower}
use Rattle.types_solver.proofs.Extending.{made_grows}
use Rattle.checker_pieces.specs.Piece.{Stops}
use Rattle.checker_pieces.specs.Building.{Building, Built, Cells, Introduced, Working}
use Rattle.checker_pieces.specs.Stage.{Ghost, Stands, Comparing, Room, Cell, Unvisited, Sides, Equated, Ruled, SlotOf, Uses}
use Rattle.checker_pieces.proofs.Components.{room_still}
use Rattle.checker_pieces.proofs.PowerLaws.{unmentioned}
use Rattle.checker_pieces.proofs.Stages.{plain_making, building, one_cell, two_cells, built_stands, built_old, built_cell, introduced_before, introduced_equal, introduced_wider, next, next_stands, next_cell, placed_cell, introduced_unknown, introduce_then, unknown_uses, stop_then, room_less, one_side, one_comparing}
use Rattle.checker_kinds.specs.Equations.{Combined, apply_items}
use Rattle.checker_kinds.proofs.Concluding.{own_slot}
use Rattle.checker_kinds.proofs.Operands.{operands}

module _ (s d : List ℕ) (n top x y : ℕ) (A : Working s d n top 4 (x ∷ y ∷ [])) where
  -- The caller's piece, and an unknown that it does not mention.
  abbrev G₀ : Ghost
  G₀ = A.ghost

  abbrev S₀ : Stands s d n top G₀
  S₀ = A.stands

  abbrev O : (a : Term) × (b : Term) × Cell s d n G₀ x a × Cell s d n G₀ y b
  O = operands s d n G₀ x y A.terms A.cells

  abbrev z₀ : ℕ
  z₀ = (unmentioned G₀.mentioned).0

  abbrev new₀ : In z₀ G₀.mentioned → ⊥
  new₀ = (unmentioned G₀.mentioned).1

  pub apply_making : Making s n 0 0 first_run 0
  apply_making = plain_making s d n top 4 G₀ S₀ A.room (omega arith) 0 (omega arith)

  -- The result's unknown z: cell n.
  module _ (s₁ : List ℕ) (N : Made s s₁ n 0 0 first_run 0) where
    room₁ : Room s₁ (suc n) top 3
    room₁ = unknown_uses s s₁ n top apply_making N 3 A.room

    module _ (G : Ghost) (S : Stands s d n top G) (z : ℕ) (new : In z G.mentioned → ⊥) where
      I₁ : Introduced s s₁ d n top (suc n) top G (fresh z) (λ u. u ≡ z) z n
      I₁ = introduced_unknown s s₁ d n top G S apply_making N z new

      abbrev G₁ : Ghost
      G₁ = next s s₁ d n top (suc n) top G (fresh z) (λ u. u ≡ z) I₁.advanced

      S₁ : Stands s₁ d (suc n) top G₁
      S₁ = next_stands s s₁ d n top (suc n) top G (fresh z) (λ u. u ≡ z) I₁.advanced S.few

      old₁ : (c : ℕ) (a : Term) → Cell s d n G c a → Cell s₁ d (suc n) G₁ c a
      old₁ = next_cell s s₁ d n top (suc n) top G (fresh z) (λ u. u ≡ z) I₁.advanced

      result₁ : Cell s₁ d (suc n) G₁ n (unknown z)
      result₁ = placed_cell s s₁ d n top (suc n) top G (fresh z) (λ u. u ≡ z) I₁.advanced z n I₁.placed

      -- the argument and the result
      both₁ : (b : Term) → Cell s d n G y b → Cells s₁ d (suc n) G₁ (y ∷ n ∷ []) (cons b (cons (unknown z) nil))
      both₁ b M = two_cells s₁ d (suc n) G₁ y n b (unknown z) (old₁ y b M) result₁

    building₁ : Building s₁ (suc n) top 2 (y ∷ n ∷ [])
    building₁ =
        building s₁ d (suc n) top 2 (G₁ G₀ S₀ z₀ new₀) (S₁ G₀ S₀ z₀ new₀) (room_less s₁ (suc n) top 2 3 (omega arith) room₁) (y ∷ n ∷ [])
        (cons O.1 (cons (unknown z₀) nil)) (both₁ G₀ S₀ z₀ new₀ O.1 O.3)

    pub pair_building : (m : ℕ) → m ≡ suc n → Building s₁ m top 2 (y ∷ n ∷ [])
    pair_building m e = subst (λ u. Building s₁ u top 2 (y ∷ n ∷ [])) (sym e) building₁

    -- The pairs: cell n + 1.
    module _ (s₂ : List ℕ) (m₁ top₂ : ℕ) (D₂ : Built s₁ s₂ m₁ top top₂ 2 product (y ∷ n ∷ [])) (e₁ : m₁ ≡ suc n) where
      abbrev B₂ : Built s₁ s₂ (suc n) top top₂ 2 product (y ∷ n ∷ [])
      B₂ = subst (λ u. Built s₁ s₂ u top top₂ 2 product (y ∷ n ∷ [])) e₁ D₂

      abbrev n₂ : ℕ
      n₂ = suc (suc n)

      module _ (G : Ghost) (S : Stands s d n top G) (z : ℕ) (new : In z G.mentioned → ⊥) where
        S₂ : Stands s₂ d n₂ top₂ (G₁ G S z new)
        S₂ = built_stands s₁ s₂ d (suc n) top top₂ 2 product (y ∷ n ∷ []) B₂ (G₁ G S z new) (S₁ G S z new)

        pair₂ : (b : Term) → Cell s d n G y b → Cells s₂ d n₂ (G₁ G S z new) (suc n ∷ []) (cons (pair_of b (unknown z)) nil)
        pair₂ b M =
            one_cell s₂ d n₂ (G₁ G S z new) (suc n) (pair_of b (unknown z))
            (built_cell s₁ s₂ d (suc n) top top₂ 2 product (y ∷ n ∷ []) B₂ (G₁ G S z new) (S₁ G S z new) (cons b (cons (unknown z) nil)) (both₁ G S z new b M))

      building₂ : Building s₂ n₂ top₂ 1 (suc n ∷ [])
      building₂ = building s₂ d n₂ top₂ 1 (G₁ G₀ S₀ z₀ new₀) (S₂ G₀ S₀ z₀ new₀) (B₂.uses 1 room₁) (suc n ∷ []) (cons (pair_of O.1 (unknown z₀)) nil) (pair₂ G₀ S₀ z₀ new₀ O.1 O.3)

      pub power_building : (m c : ℕ) → m ≡ n₂ → c ≡ suc n → Building s₂ m top₂ 1 (c ∷ [])
      power_building m c e q = subst (λ u. Building s₂ u top₂ 1 (c ∷ [])) (sym e) (subst (λ u. Building s₂ n₂ top₂ 1 (u ∷ [])) (sym q) building₂)

      -- Their power: cell n + 2.
      module _ (s₃ : List ℕ) (m₂ c₂ top₃ : ℕ) (D₃ : Built s₂ s₃ m₂ top₂ top₃ 1 power (c₂ ∷ [])) (e₂ : m₂ ≡ n₂) (q₂ : c₂ ≡ suc n) where
        abbrev B₃ : Built s₂ s₃ n₂ top₂ top₃ 1 power (suc n ∷ [])
        B₃ = subst (λ u. Built s₂ s₃ n₂ top₂ top₃ 1 power (u ∷ [])) q₂ (subst (λ u. Built s₂ s₃ u top₂ top₃ 1 power (c₂ ∷ [])) e₂ D₃)

        abbrev n₃ : ℕ
        n₃ = suc (suc (suc n))

        module _ (G : Ghost) (S : Stands s d n top G) (z : ℕ) (new : In z G.mentioned → ⊥) where
          S₃ : Stands s₃ d n₃ top₃ (G₁ G S z new)
          S₃ = built_stands s₂ s₃ d n₂ top₂ top₃ 1 power (suc n ∷ []) B₃ (G₁ G S z new) (S₂ G S z new)

          power₃ : (b : Term) → Cell s d n G y b → Cell s₃ d n₃ (G₁ G S z new) n₂ (power_of (pair_of b (unknown z)))
          power₃ b M = built_cell s₂ s₃ d n₂ top₂ top₃ 1 power (suc n ∷ []) B₃ (G₁ G S z new) (S₂ G S z new) (cons (pair_of b (unknown z)) nil) (pair₂ G S z new b M)

          function₃ : (a : Term) → Cell s d n G x a → Cell s₃ d n₃ (G₁ G S z new) x a
          function₃ a K =
              built_old s₂ s₃ d n₂ top₂ top₃ 1 power (suc n ∷ []) B₃ (G₁ G S z new) (S₂ G S z new) x a
              (built_old s₁ s₂ d (suc n) top top₂ 2 product (y ∷ n ∷ []) B₂ (G₁ G S z new) (S₁ G S z new) x a (old₁ G S z new x a K))

        asks₃ : Comparing s₃ d n₃ (x ∷ []) n₂ 0
        asks₃ = one_comparing s₃ d n₃ x n₂ top₃ (G₁ G₀ S₀ z₀ new₀) (S₃ G₀ S₀ z₀ new₀) (let l = O.2.made in omega arith) (omega arith)

        pub apply_asks : (m c : ℕ) → m ≡ n₃ → c ≡ n₂ → Comparing s₃ d m (x ∷ []) c 0
        apply_asks m c e q = subst (λ u. Comparing s₃ d u (x ∷ []) c 0) (sym e) (subst (λ u. Comparing s₃ d n₃ (x ∷ []) u 0) (sym q) asks₃)

        -- The equation.
        module _ (s₄ : List ℕ) (m₃ c₃ number : ℕ) (D₄ : Equated s₃ s₄ d m₃ (x ∷ []) c₃ 0 number) (e₃ : m₃ ≡ n₃) (q₃ : c₃ ≡ n₂) where
          abbrev E : Equated s₃ s₄ d n₃ (x ∷ []) n₂ 0 number
          E = subst (λ u. Equated s₃ s₄ d n₃ (x ∷ []) u 0 number) q₃ (subst (λ u. Equated s₃ s₄ d u (x ∷ []) c₃ 0 number) e₃ D₄)

          low_s : lower s₄ ≡ lower s
          low_s = E.low ∙ (B₃.builds d).grows.low ∙ (B₂.builds d).grows.low ∙ (made_grows s s₁ d n 0 0 first_run 0 apply_making N).low

          apply_uses : Uses s s₄ n top n₃ top₃ 4
          apply_uses u R =
              room_still s₃ s₄ n₃ top₃ u E.still (B₃.uses u (B₂.uses (1 + u) (unknown_uses s s₁ n top apply_making N (2 + (1 + u)) (subst (Room s n top) (omega arith) R))))

          module _ (G : Ghost) (S : Stands s d n top G) (z : ℕ) (new : In z G.mentioned → ⊥) (k : ℕ) (p q : Term) (K : Cell s d n G x p) (M : Cell s d n G y q) where
            abbrev own : Items
            own = equation k p (power_of (pair_of q (unknown z)))

            sides : Sides s₃ d n₃ (G₁ G S z new) (x ∷ []) n₂ 0 (pair p (power_of (pair_of q (unknown z))) end)
            sides = one_side s₃ d n₃ (G₁ G S z new) x n₂ p (power_of (pair_of q (unknown z))) (function₃ G S z new p K) (power₃ G S z new q M)

            applied : number ≡ 0 → Introduced s s₄ d n top n₃ top₃ G (fresh z ⨾ own) (λ u. u ≡ z) z n
            applied e =
                let Q = G₁ G S z new in
                let J₃ = introduced_equal s₃ s₄ d n₃ (x ∷ []) n₂ 0 top₃ Q (S₃ G S z new) (pair p (power_of (pair_of q (unknown z))) end) sides k (λ u. u ≡ z)
                (subst (Equated s₃ s₄ d n₃ (x ∷ []) n₂ 0) e E) z n (I₁ G S z new).placed in
                let J₂ = introduced_before s₃ s₄ d n₃ top₃ n₃ top₃ Q own (λ u. u ≡ z) J₃.advanced s₂ n₂ top₂ (B₃.builds d) (S₂ G S z new) z n J₃.placed in
                let J₁ = introduced_before s₂ s₄ d n₂ top₂ n₃ top₃ Q own (λ u. u ≡ z) J₂.advanced s₁ (suc n) top (B₂.builds d) (S₁ G S z new) z n J₂.placed in
                introduce_then s s₁ d n top (suc n) top G (fresh z) (λ u. u ≡ z) (I₁ G S z new).advanced own s₄ n₃ top₃ z n J₁

            refused : (number ≡ 0 → ⊥) → Stops G.before G.items (fresh z ⨾ own) number k
            refused e =
                stop_then s s₁ d n top (suc n) top G (fresh z) (λ u. u ≡ z) (I₁ G S z new).advanced own number k
                (E.stops e top₃ (G₁ G S z new) (S₃ G S z new) (pair p (power_of (pair_of q (unknown z))) end) sides k)

          ruled₄ : (G : Ghost) → Stands s d n top G → (k : ℕ) → Unvisited k G → (p q : Term) → Cell s d n G x p → Cell s d n G y q → Ruled s s₄ d n top k number n n₃ top₃ G (apply_items k p q)
          ruled₄ G S k new p q K M = record {
            stops = λ e. refused G S (slot k 0) (new 0 (omega arith)) k p q K M e;
            goes = λ e. (I e).advanced;
            typed = λ e. (I e).placed;
          }
            where
              I : number ≡ 0 → Introduced s s₄ d n top n₃ top₃ G (apply_items k p q) (SlotOf k) (slot k 0) n
              I e =
                  let J = applied G S (slot k 0) (new 0 (omega arith)) k p q K M e in
                  introduced_wider s s₄ d n top n₃ top₃ G (apply_items k p q) (λ u. u ≡ slot k 0) J.advanced (SlotOf k) (own_slot k 0 (omega arith)) (slot k 0) n J.placed

          told₄ : Combined s s₄ d n top x y number n n₃ top₃ 4 apply_items
          told₄ = record { low = low_s; wide = omega arith; uses = λ u. apply_uses; ruled = ruled₄ }

          pub apply_told : (n' top' : ℕ) → n' ≡ n₃ → top' ≡ top₃ → Combined s s₄ d n top x y number n n' top' 4 apply_items
          apply_told n' top' en et =
              subst (λ m. Combined s s₄ d n top x y number n m top' 4 apply_items) (sym en) (subst (λ m. Combined s s₄ d n top x y number n n₃ m 4 apply_items) (sym et) told₄)
