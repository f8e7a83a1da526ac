-- The rule of Set: a new unknown, its members have its type, and the type is the power of it.
use mathlib.Core.Path.{◌≡◌, refl, sym, subst, ◌∙◌}
use mathlib.Core.List.{List, [], ◌∷◌}
use Prim.Native.Nat.{ℕ, suc, ◌+◌, ◌*◌, ◌≤◌, ◌<◌}
use native.Mathlib.Omega.{arith}
use lib.ListN.{length, take}
use Rattle.reader_rules.specs.Tree.{Exprs}
use Rattle.types_rules.specs.Equations.{In}
use Rattle.types_rules.specs.Former.{power}
use Rattle.types_rules.specs.Types.{nil, cons}
use Rattle.checker_rules.proofs.Slots.{slots_apart}
use Rattle.checker_rules.specs.Conditions.{typed, types_of, members, are_members}
use Rattle.checker_rules.specs.Items.{fresh, ◌⨾◌}
use Rattle.checker_rules.specs.Unknowns.{slot, unknown_at, power_of}
use Rattle.types_cells.specs.Layout.{max_pending, first_run}
use Rattle.types_cells.specs.Store.{load, run}
use Rattle.types_cells.specs.Calls.{Making, Made}
use Rattle.types_solver.proofs.Extending.{made_grows}
use Rattle.checker_pieces.specs.Stage.{Ghost, Stands, Room, Cell, Unvisited, Advanced, SlotOf, Uses, Comparing, Equated}
use Rattle.checker_pieces.specs.Building.{Building, Built, Introduced}
use Rattle.checker_pieces.specs.Rows.{Members}
use Rattle.checker_pieces.proofs.PowerLaws.{unmentioned_node}
use Rattle.checker_pieces.proofs.RowLaws.{members_of_lem, sides_comparing, sides_members}
use Rattle.checker_pieces.proofs.Stages.{next, next_stands, next_cell, next_cells, next_unvisited, wider_mine, placed_cell, built_cell, one_cell, building, plain_making, introduced_unknown, introduce_then, unknown_uses, rule_goes, rule_stops, stop_then}
use Rattle.checker_pieces.proofs.Walks.{stops_left}
use Rattle.checker_kinds.specs.Formers.{OperandCells, Operating, DerivedList, set_items}
use Rattle.checker_kinds.proofs.Concluding.{own_slot, concluded}

module _ (s d : List ℕ) (n top : ℕ) (ps : List ℕ) (m : ℕ) (P : (m ≤ length ps) × Operating s d n top 2 (take m ps)) where
  abbrev l : List ℕ
  l = take m ps

  pub set_unknown : Making s n 0 0 first_run 0
  set_unknown = plain_making s d n top 2 P.1.ghost P.1.stands P.1.room (omega arith) 0 (omega arith)

  module _ (s₁ : List ℕ) (N : Made s s₁ n 0 0 first_run 0) where
    -- The unknown, in any piece that stands.
    module _ (G : Ghost) (St : Stands s d n top G) (k : ℕ) (new : In (slot k 1) G.mentioned → ⊥) where
      abbrev x : ℕ
      x = slot k 1

      I : Introduced s s₁ d n top (suc n) top G (fresh x) (λ y. y ≡ x) x n
      I = introduced_unknown s s₁ d n top G St set_unknown N x new

      A : Advanced s s₁ d n top (suc n) top G (fresh x) (SlotOf k)
      A = wider_mine s s₁ d n top (suc n) top G (fresh x) (λ y. y ≡ x) I.advanced (SlotOf k) (own_slot k 1 (omega arith))

      abbrev G₁ : Ghost
      G₁ = next s s₁ d n top (suc n) top G (fresh x) (SlotOf k) A

      St₁ : Stands s₁ d (suc n) top G₁
      St₁ = next_stands s s₁ d n top (suc n) top G (fresh x) (SlotOf k) A St.few

      own₁ : Cell s₁ d (suc n) G₁ n (unknown_at k 1)
      unfolding A
      own₁ = placed_cell s s₁ d n top (suc n) top G (fresh x) (SlotOf k) A x n I.placed

      cells₁ : (xs : Exprs) → OperandCells s d n G l xs → OperandCells s₁ d (suc n) G₁ l xs
      cells₁ xs K = next_cells s s₁ d n top (suc n) top G (fresh x) (SlotOf k) A l (types_of xs) K

      free₁ : (In (slot k 0) G.mentioned → ⊥) → In (slot k 0) A.mentioned → ⊥
      unfolding A
      free₁ f = next_unvisited s s₁ d n top (suc n) top G (fresh x) (λ y. y ≡ x) I.advanced (slot k 0) f (λ q. let z = (slots_apart k 0 k 1 (omega arith) (omega arith) q).1 in omega arith)

    -- For the piece that the caller has.
    u : (k : ℕ) × ((j : ℕ) → In (slot k j) P.1.ghost.mentioned → ⊥)
    u = unmentioned_node P.1.ghost.mentioned

    asked : Comparing s₁ d (suc n) l n 0
    asked =
        let W = P.1 in
        sides_comparing s₁ d (suc n) l n 0 top (record { ghost = G₁ W.ghost W.stands u.0 (u.1 1); stands = St₁ W.ghost W.stands u.0 (u.1 1) }) (members u.0 W.exprs)
        (sides_members s₁ d (suc n) (G₁ W.ghost W.stands u.0 (u.1 1)) u.0 l n W.exprs (own₁ W.ghost W.stands u.0 (u.1 1))
        (cells₁ W.ghost W.stands u.0 (u.1 1) W.exprs W.cells)) (omega arith)

    pub set_members : (m ≤ length ps) × Comparing s₁ d (n + 1) (run ps 0 m) n 0
    unfolding run
    set_members = (P.0, subst (λ z. Comparing s₁ d z l n 0) (let z : suc n ≡ n + 1 = omega arith in z) asked)

    module _ (s₂ : List ℕ) (b : ℕ) (E₀ : Equated s₁ s₂ d (n + 1) (run ps 0 m) n 0 b) where
      M : Members s₁ s₂ d (suc n) n l b
      unfolding run
      M = members_of_lem s₁ s₂ d (suc n) n l b (subst (λ z. Equated s₁ s₂ d z l n 0 b) (let z : n + 1 ≡ suc n = omega arith in z) E₀)

      pub set_refused : (b ≡ 0 → ⊥) → DerivedList s s₂ d n top l b n n top 2 set_items
      set_refused e = record {
        low = M.low ∙ (made_grows s s₁ d n 0 0 first_run 0 set_unknown N).low;
        wide = omega arith;
        uses = λ z. absurd (e z);
        ruled = λ G St k free xs K.
            let new = free 1 (omega arith) in
            rule_stops s s₂ d n top k b n n top G (set_items k xs) e
            (stop_then s s₁ d n top (suc n) top G (fresh (slot k 1)) (SlotOf k) (A G St k new) (are_members k xs ⨾ typed k (power_of (unknown_at k 1))) b k
            (stops_left G.before (G.items ⨾ fresh (slot k 1)) (are_members k xs) (typed k (power_of (unknown_at k 1))) b k
            (M.stops e top (G₁ G St k new) (St₁ G St k new) k (own₁ G St k new) xs (cells₁ G St k new xs K))));
      }

      module _ (e : b ≡ 0) where
        -- The members, in any piece that stands.
        module _ (G : Ghost) (St : Stands s d n top G) (k : ℕ) (new : In (slot k 1) G.mentioned → ⊥) (xs : Exprs) (K : OperandCells s d n G l xs) where
          B₀ : Advanced s₁ s₂ d (suc n) top (suc n) top (G₁ G St k new) (are_members k xs) (λ y. ⊥)
          B₀ = M.goes e top (G₁ G St k new) (St₁ G St k new) k (own₁ G St k new) xs (cells₁ G St k new xs K)

          B : Advanced s₁ s₂ d (suc n) top (suc n) top (G₁ G St k new) (are_members k xs) (SlotOf k)
          B = wider_mine s₁ s₂ d (suc n) top (suc n) top (G₁ G St k new) (are_members k xs) (λ y. ⊥) B₀ (SlotOf k) (λ y f. absurd f)

          abbrev G₂ : Ghost
          G₂ = next s₁ s₂ d (suc n) top (suc n) top (G₁ G St k new) (are_members k xs) (SlotOf k) B

          St₂ : Stands s₂ d (suc n) top G₂
          St₂ = next_stands s₁ s₂ d (suc n) top (suc n) top (G₁ G St k new) (are_members k xs) (SlotOf k) B St.few

          own₂ : Cell s₂ d (suc n) G₂ n (unknown_at k 1)
          own₂ = next_cell s₁ s₂ d (suc n) top (suc n) top (G₁ G St k new) (are_members k xs) (SlotOf k) B n (unknown_at k 1) (own₁ G St k new)

          free₂ : (In (slot k 0) G.mentioned → ⊥) → In (slot k 0) B.mentioned → ⊥
          unfolding B
          free₂ f = next_unvisited s₁ s₂ d (suc n) top (suc n) top (G₁ G St k new) (are_members k xs) (λ y. ⊥) B₀ (slot k 0) (free₁ G St k new f) (λ q. q)

        uses₂ : Uses s s₂ n top (suc n) top 1
        uses₂ y R =
            let Q = unknown_uses s s₁ n top set_unknown N y R in
            record { cells = Q.cells; words = Q.words; fit = subst (λ w. load w (suc n) + 2 * y < max_pending) (sym M.still) Q.fit }

        power_asked : Building s₂ (suc n) top 1 (n ∷ [])
        power_asked =
            let W = P.1 in
            building s₂ d (suc n) top 1 (G₂ W.ghost W.stands u.0 (u.1 1) W.exprs W.cells) (St₂ W.ghost W.stands u.0 (u.1 1) W.exprs W.cells) (uses₂ 1 W.room) (n ∷ [])
            (cons (unknown_at u.0 1) nil)
            (one_cell s₂ d (suc n) (G₂ W.ghost W.stands u.0 (u.1 1) W.exprs W.cells) n (unknown_at u.0 1) (own₂ W.ghost W.stands u.0 (u.1 1) W.exprs W.cells))

        pub set_power : Building s₂ (n + 1) top 1 (n ∷ [])
        set_power = subst (λ z. Building s₂ z top 1 (n ∷ [])) (let z : suc n ≡ n + 1 = omega arith in z) power_asked

        module _ (s₃ : List ℕ) (K₀ : Built s₂ s₃ (n + 1) top (top + 1) 1 power (n ∷ [])) where
          K : Built s₂ s₃ (suc n) top (top + 1) 1 power (n ∷ [])
          K = subst (λ z. Built s₂ s₃ z top (top + 1) 1 power (n ∷ [])) (let z : n + 1 ≡ suc n = omega arith in z) K₀

          module _ (G : Ghost) (St : Stands s d n top G) (k : ℕ) (free : Unvisited k G) (xs : Exprs) (C : OperandCells s d n G l xs) where
            abbrev new : In (slot k 1) G.mentioned → ⊥
            new = free 1 (omega arith)

            passed : Introduced s s₃ d n top (suc (suc n)) (top + 1) G (set_items k xs) (SlotOf k) (slot k 0) (suc n)
            passed =
                let type = power_of (unknown_at k 1) in
                let cell = built_cell s₂ s₃ d (suc n) top (top + 1) 1 power (n ∷ []) K (G₂ G St k new xs C) (St₂ G St k new xs C) (cons (unknown_at k 1) nil)
                (one_cell s₂ d (suc n) (G₂ G St k new xs C) n (unknown_at k 1) (own₂ G St k new xs C)) in
                introduce_then s s₁ d n top (suc n) top G (fresh (slot k 1)) (SlotOf k) (A G St k new) (are_members k xs ⨾ typed k type) s₃ (suc (suc n)) (top + 1) (slot k 0) (suc n)
                (introduce_then s₁ s₂ d (suc n) top (suc n) top (G₁ G St k new) (are_members k xs) (SlotOf k) (B G St k new xs C) (typed k type) s₃ (suc (suc n)) (top + 1) (slot k 0) (suc n)
                (concluded s₂ s₃ d (suc n) (suc (suc n)) top (top + 1) (K.builds d) K.above (G₂ G St k new xs C) (St₂ G St k new xs C) (suc n) type cell k
                (free₂ G St k new xs C (free 0 (omega arith)))))

          core : DerivedList s s₃ d n top l 0 (suc n) (suc (suc n)) (top + 1) 2 set_items
          core = record {
            low = (K.builds d).grows.low ∙ M.low ∙ (made_grows s s₁ d n 0 0 first_run 0 set_unknown N).low;
            wide = omega arith;
            uses = λ z y R. K.uses y (uses₂ (1 + y) (subst (Room s n top) (let q : 2 + y ≡ 1 + (1 + y) = omega arith in q) R));
            ruled = λ G St k free xs C. rule_goes s s₃ d n top k 0 (suc n) (suc (suc n)) (top + 1) G (set_items k xs) refl (passed G St k free xs C);
          }

          pub set_ruled : DerivedList s s₃ d n top l 0 (n + 1) (n + 2) (top + 1) 2 set_items
          set_ruled =
              subst (λ z. DerivedList s s₃ d n top l 0 z (n + 2) (top + 1) 2 set_items) (let z : suc n ≡ n + 1 = omega arith in z)
              (subst (λ z. DerivedList s s₃ d n top l 0 (suc n) z (top + 1) 2 set_items) (let z : suc (suc n) ≡ n + 2 = omega arith in z) core)
