-- The rule of Power: its operand is a power, of an unknown, and the type is the power of the power of that.
use mathlib.Core.Path.{◌≡◌, refl, subst, ◌∙◌}
use mathlib.Core.List.{List, [], ◌∷◌}
use Prim.Native.Nat.{ℕ, suc, ◌+◌}
use native.Mathlib.Omega.{arith}
use Rattle.types_rules.specs.Equations.{In, InP}
use Rattle.types_rules.specs.Former.{power}
use Rattle.types_rules.specs.Types.{Term, Terms, unknown, nil, cons}
use Rattle.checker_rules.proofs.Slots.{slots_apart}
use Rattle.checker_rules.specs.Conditions.{typed}
use Rattle.checker_rules.specs.Unknowns.{slot, unknown_at, power_of}
use Rattle.types_solver.specs.Growth.{Builds}
use Rattle.types_solver.proofs.Extending.{builds_on}
use Rattle.checker_pieces.specs.Stage.{Ghost, Stands, Room, Cell, Unvisited, Advanced, SlotOf, Uses}
use Rattle.checker_pieces.specs.Building.{Building, Built, Cells, Introduced, Working, Powered, power_items}
use Rattle.checker_pieces.proofs.Stages.{next, next_stands, next_unvisited, wider_mine, room_less, placed_cell, built_stands, built_cell, one_cell, building, introduce_then, rule_goes, rule_stops}
use Rattle.checker_pieces.proofs.PowerLaws.{unmentioned}
use Rattle.checker_pieces.proofs.Walks.{stops_left}
use Rattle.checker_kinds.specs.Formers.{Derived, power_rule_items}
use Rattle.checker_kinds.proofs.Concluding.{own_slot, concluded}

one_term : (s d : List ℕ) (n : ℕ) (G : Ghost) (c : ℕ) (ts : Terms) → Cells s d n G (c ∷ []) ts → (a : Term) × Cell s d n G c a
unfolding Cells
one_term s d n G c nil K = absurd K
one_term s d n G c (cons a ts) K = (a, K.0)

module _ (s d : List ℕ) (n top c : ℕ) (W : Working s d n top 4 (c ∷ [])) where
  pub power_asks : Working s d n top 2 (c ∷ [])
  power_asks = record { ghost = W.ghost; stands = W.stands; terms = W.terms; cells = W.cells; room = room_less s n top 2 4 (omega arith) W.room }

  module _ (s₁ : List ℕ) (b : ℕ) (P : Powered s s₁ d n top c b) where
    abbrev N : ℕ
    N = n + 2

    abbrev T : ℕ
    T = top + 1

    pub power_refused : (b ≡ 0 → ⊥) → Derived s s₁ d n top c b c n top 4 power_rule_items
    power_refused e = record {
      low = P.low;
      wide = omega arith;
      uses = λ z. absurd (e z);
      ruled = λ G St k W' a C.
          rule_stops s s₁ d n top k b c n top G (power_rule_items k a) e
          (stops_left G.before G.items (power_items (slot k 1) k a) (typed k (power_of (power_of (unknown_at k 1)))) b k (P.stops e G St (slot k 1) (W' 1 (omega arith)) k a C));
    }

    module _ (e : b ≡ 0) where
      -- for the piece that the caller has
      y : (x : ℕ) × (In x W.ghost.mentioned → ⊥)
      y = unmentioned W.ghost.mentioned

      t₀ : (a : Term) × Cell s d n W.ghost c a
      t₀ = one_term s d n W.ghost c W.terms W.cells

      I₀ : Introduced s s₁ d n top N T W.ghost (power_items y.0 0 t₀.0) (λ z. z ≡ y.0) y.0 n
      I₀ = P.goes e W.ghost W.stands y.0 y.1 0 t₀.0 t₀.1

      abbrev H : Ghost
      H = next s s₁ d n top N T W.ghost (power_items y.0 0 t₀.0) (λ z. z ≡ y.0) I₀.advanced

      first : Stands s₁ d N T H
      first = next_stands s s₁ d n top N T W.ghost (power_items y.0 0 t₀.0) (λ z. z ≡ y.0) I₀.advanced W.stands.few

      room₁ : Room s₁ N T 2
      room₁ = P.uses 2 W.room

      its_cell : Cells s₁ d N H (n ∷ []) (cons (unknown y.0) nil)
      its_cell =
          one_cell s₁ d N H n (unknown y.0) (placed_cell s s₁ d n top N T W.ghost (power_items y.0 0 t₀.0) (λ z. z ≡ y.0) I₀.advanced y.0 n I₀.placed)

      pub power_first : Building s₁ (n + 2) (top + 1) 1 (n ∷ [])
      power_first = building s₁ d N T 1 H first (room_less s₁ N T 1 2 (omega arith) room₁) (n ∷ []) (cons (unknown y.0) nil) its_cell

      module _ (s₂ : List ℕ) (K₁ : Built s₁ s₂ (n + 2) (top + 1) (top + 1 + 1) 1 power (n ∷ [])) where
        second : Building s₂ (suc N) (T + 1) 1 (N ∷ [])
        second =
            building s₂ d (suc N) (T + 1) 1 H (built_stands s₁ s₂ d N T (T + 1) 1 power (n ∷ []) K₁ H first) (K₁.uses 1 room₁) (N ∷ []) (cons (power_of (unknown y.0)) nil)
            (one_cell s₂ d (suc N) H N (power_of (unknown y.0)) (built_cell s₁ s₂ d N T (T + 1) 1 power (n ∷ []) K₁ H first (cons (unknown y.0) nil) its_cell))

        pub power_second : Building s₂ (n + 3) (top + 2) 1 (N ∷ [])
        power_second =
            subst (λ z. Building s₂ z (top + 2) 1 (N ∷ [])) (let z : suc N ≡ n + 3 = omega arith in z)
            (subst (λ z. Building s₂ (suc N) z 1 (N ∷ [])) (let z : T + 1 ≡ top + 2 = omega arith in z) second)

        module _ (s₃ : List ℕ) (K : Built s₂ s₃ (n + 3) (top + 2) (top + 2 + 1) 1 power (N ∷ [])) where
          K₂ : Built s₂ s₃ (suc N) (T + 1) (top + 3) 1 power (N ∷ [])
          K₂ =
              subst (λ z. Built s₂ s₃ z (T + 1) (top + 3) 1 power (N ∷ [])) (let z : n + 3 ≡ suc N = omega arith in z)
              (subst (λ z. Built s₂ s₃ (n + 3) z (top + 3) 1 power (N ∷ [])) (let z : top + 2 ≡ T + 1 = omega arith in z)
              (subst (λ z. Built s₂ s₃ (n + 3) (top + 2) z 1 power (N ∷ [])) (let z : top + 2 + 1 ≡ top + 3 = omega arith in z) K))

          B₁₃ : Builds s₁ s₃ d N (suc (suc N))
          B₁₃ = builds_on s₁ s₂ s₃ d N (suc N) (suc (suc N)) (K₁.builds d) (K₂.builds d)

          -- the power of the power, in any piece that stands there
          twice : (G : Ghost) → Stands s₁ d N T G → (a : Term) → Cell s₁ d N G n a → Cell s₃ d (suc (suc N)) G (suc N) (power_of (power_of a))
          twice G St a C =
              built_cell s₂ s₃ d (suc N) (T + 1) (top + 3) 1 power (N ∷ []) K₂ G (built_stands s₁ s₂ d N T (T + 1) 1 power (n ∷ []) K₁ G St) (cons (power_of a) nil)
              (one_cell s₂ d (suc N) G N (power_of a) (built_cell s₁ s₂ d N T (T + 1) 1 power (n ∷ []) K₁ G St (cons a nil) (one_cell s₁ d N G n a C)))

          module _ (G : Ghost) (St : Stands s d n top G) (k : ℕ) (free : Unvisited k G) (a : Term) (C : Cell s d n G c a) where
            abbrev x : ℕ
            x = slot k 1

            I : Introduced s s₁ d n top N T G (power_items x k a) (λ z. z ≡ x) x n
            I = P.goes e G St x (free 1 (omega arith)) k a C

            A : Advanced s s₁ d n top N T G (power_items x k a) (SlotOf k)
            A = wider_mine s s₁ d n top N T G (power_items x k a) (λ z. z ≡ x) I.advanced (SlotOf k) (own_slot k 1 (omega arith))

            abbrev G₁ : Ghost
            G₁ = next s s₁ d n top N T G (power_items x k a) (SlotOf k) A

            type_free : In (slot k 0) A.mentioned → ⊥
            unfolding A
            type_free = next_unvisited s s₁ d n top N T G (power_items x k a) (λ z. z ≡ x) I.advanced (slot k 0) (free 0 (omega arith))
                (λ q. let z = (slots_apart k 0 k 1 (omega arith) (omega arith) q).1 in omega arith)

            placed_n : InP x n A.cells
            unfolding A
            placed_n = I.placed

            passed : Introduced s s₃ d n top (suc (suc N)) (top + 3) G (power_rule_items k a) (SlotOf k) (slot k 0) (suc N)
            passed =
                let St₁ = next_stands s s₁ d n top N T G (power_items x k a) (SlotOf k) A St.few in
                let C₁ = placed_cell s s₁ d n top N T G (power_items x k a) (SlotOf k) A x n placed_n in
                introduce_then s s₁ d n top N T G (power_items x k a) (SlotOf k) A (typed k (power_of (power_of (unknown_at k 1)))) s₃ (suc (suc N)) (top + 3) (slot k 0) (suc N)
                (concluded s₁ s₃ d N (suc (suc N)) T (top + 3) B₁₃ K₂.above G₁ St₁ (suc N) (power_of (power_of (unknown_at k 1))) (twice G₁ St₁ (unknown_at k 1) C₁) k type_free)

          uses₃ : Uses s s₃ n top (suc (suc N)) (top + 3) 4
          uses₃ z R = K₂.uses z (K₁.uses (1 + z) (P.uses (1 + (1 + z)) (subst (Room s n top) (let q : 4 + z ≡ 2 + (1 + (1 + z)) = omega arith in q) R)))

          core : Derived s s₃ d n top c 0 (suc N) (suc (suc N)) (top + 3) 4 power_rule_items
          core = record {
            low = B₁₃.grows.low ∙ P.low;
            wide = omega arith;
            uses = λ z. uses₃;
            ruled = λ G St k free a C. rule_goes s s₃ d n top k 0 (suc N) (suc (suc N)) (top + 3) G (power_rule_items k a) refl (passed G St k free a C);
          }

          pub power_ruled : Derived s s₃ d n top c 0 (n + 3) (n + 4) (top + 3) 4 power_rule_items
          power_ruled =
              subst (λ z. Derived s s₃ d n top c 0 z (n + 4) (top + 3) 4 power_rule_items) (let z : suc N ≡ n + 3 = omega arith in z)
              (subst (λ z. Derived s s₃ d n top c 0 (suc N) z (top + 3) 4 power_rule_items) (let z : suc (suc N) ≡ n + 4 = omega arith in z) core)
