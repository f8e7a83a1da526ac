-- The rule of Product: its operands are powers, and the type is the power of the product of what they are powers of.
use mathlib.Core.Path.{◌≡◌, refl, sym, ap, ap₂, subst, ◌∙◌}
use mathlib.Core.List.{List, [], ◌∷◌, ◌++◌}
use Prim.Native.Nat.{ℕ, zero, suc, ◌+◌, ◌≤◌, ◌<◌}
use native.Mathlib.Omega.{arith}
use lib.ListN.{length, take, set, length-set}
use lib.Seq.{take-suc, length-take-le, take-set-le, get_or-set_same}
use Rattle.reader_rules.specs.Tree.{Exprs, exprs_length}
use Rattle.types_rules.specs.Equations.{In}
use Rattle.types_rules.specs.Former.{power, product}
use Rattle.types_rules.specs.Types.{nil, cons}
use Rattle.checker_rules.proofs.Slots.{slots_apart}
use Rattle.checker_rules.specs.Conditions.{typed, are_powers}
use Rattle.checker_rules.specs.Items.{Items, ◌⨾◌}
use Rattle.checker_rules.specs.Unknowns.{slot, unknown_at, row, power_of, product_of}
use Rattle.types_cells.specs.Store.{run}
use Rattle.checker_pieces.specs.Stage.{Ghost, Stands, Room, Cell, Unvisited, Advanced, SlotOf, Uses}
use Rattle.checker_pieces.specs.Building.{Building, Built, Cells, Introduced}
use Rattle.checker_pieces.specs.Rows.{Among, Powering, PowersOf, Powers}
use Rattle.types_solver.specs.Growth.{Builds}
use Rattle.types_solver.proofs.Extending.{builds_on}
use Rattle.checker_pieces.proofs.PowerLaws.{unmentioned_node}
use Rattle.checker_pieces.proofs.RowLaws.{cells_count}
use Rattle.checker_pieces.proofs.Stages.{next, next_stands, next_unvisited, wider_mine, placed_cell, built_stands, built_cell, one_cell, building, room_less, introduce_then, rule_goes, rule_stops}
use Rattle.checker_pieces.proofs.Walks.{stops_left}
use Rattle.checker_kinds.specs.Formers.{up_from, OperandCells, Operating, DerivedList, product_items}
use Rattle.checker_kinds.proofs.Concluding.{concluded}

-- COUNTING UP: one more.
up_last : (f j : ℕ) → up_from f (suc j) ≡ up_from f j ++ ((f + j) ∷ [])
unfolding up_from
up_last f zero = ap (λ z. z ∷ []) (let z : f ≡ f + 0 = omega arith in z)
up_last f (suc j) = ap (λ z. f ∷ z) (up_last (suc f) j ∙ ap (λ z. up_from (suc f) j ++ (z ∷ [])) (let z : suc f + j ≡ f + suc j = omega arith in z))

pub none_filled : (w : List ℕ) (f : ℕ) → take 0 w ≡ up_from f 0
unfolding up_from
none_filled w f = refl

fill_length : (w : List ℕ) (j v : ℕ) → length (set w j v) ≡ length w
fill_length w j v = simp length-set (omega arith)

pub fill_step : (w : List ℕ) (f j : ℕ) → take j w ≡ up_from f j → j < length w → take (j + 1) (set w j (f + j)) ≡ up_from f (j + 1)
fill_step w f j e l =
    let q : j + 1 ≡ suc j = omega arith in
    let v = f + j in
    ap (λ z. take z (set w j v)) q
    ∙ take-suc (set w j v) j 0 (let k = fill_length w j v in omega arith)
    ∙ ap₂ (λ (a : List ℕ) (b : ℕ). a ++ (b ∷ [])) (take-set-le j w j v (omega arith) ∙ e) (get_or-set_same w j v 0 l)
    ∙ sym (up_last f j)
    ∙ ap (up_from f) (sym q)

-- The unknowns j, j + 1, .. of node k, in cells that follow each other.
row_cells : (s d : List ℕ) (n : ℕ) (G : Ghost) (k c j q : ℕ) → ((i : ℕ) → i < q → Cell s d n G (c + i) (unknown_at k (j + i))) → Cells s d n G (up_from c q) (row k j q)
unfolding Cells up_from row
row_cells s d n G k c j zero f = tt
row_cells s d n G k c j (suc q) f = (at 0 c j (omega arith) (omega arith) (omega arith), row_cells s d n G k (suc c) (suc j) q (λ i b. at (suc i) (suc c + i) (suc j + i) (omega arith) (omega arith) (omega arith)))
  where
    at : (i c' j' : ℕ) → i < suc q → c + i ≡ c' → j + i ≡ j' → Cell s d n G c' (unknown_at k j')
    at i c' j' b e g = subst (λ z. Cell s d n G c' (unknown_at k z)) g (subst (λ z. Cell s d n G z (unknown_at k (j + i))) e (f i b))

module _ (s d : List ℕ) (n top : ℕ) (ps : List ℕ) (m : ℕ) (P : (m ≤ 6) × (m ≤ length ps) × Operating s d n top 17 (take m ps)) where
  abbrev l : List ℕ
  l = take m ps

  abbrev W : Operating s d n top 17 (take m ps)
  W = P.2

  pub product_asks : (m ≤ length ps) × Powering s d n top (run ps 0 m) m
  unfolding run
  product_asks = (
    P.1,
    record {
      ghost = W.ghost;
      stands = W.stands;
      exprs = W.exprs;
      cells = W.cells;
      few = let z = P.0 in omega arith;
      room = room_less s n top (m + m) 17 (let z = P.0 in omega arith) W.room;
    },
  )

  module _ (s₁ : List ℕ) (b : ℕ) (Q₀ : Powers s s₁ d n top (run ps 0 m) m b) where
    abbrev N : ℕ
    N = n + m + m

    abbrev T : ℕ
    T = top + m

    Q : Powers s s₁ d n top l m b
    unfolding run
    Q = Q₀

    few : m < 8
    few = let z = P.0 in omega arith

    pub product_refused : (b ≡ 0 → ⊥) → DerivedList s s₁ d n top l b n n top 17 product_items
    product_refused e = record {
      low = Q.low;
      wide = omega arith;
      uses = λ z. absurd (e z);
      ruled = λ G St k free xs K.
          rule_stops s s₁ d n top k b n n top G (product_items k xs) e
          (stops_left G.before G.items (are_powers k xs 1) (typed k (power_of (product_of (row k 1 (exprs_length xs))))) b k (Q.stops e G St k free xs K));
    }

    module _ (e : b ≡ 0) where
      -- The operands, in any piece that stands.
      module _ (G : Ghost) (St : Stands s d n top G) (k : ℕ) (new : Unvisited k G) (xs : Exprs) (K : OperandCells s d n G l xs) where
        R : PowersOf s s₁ d n top N T G k m xs
        R = Q.goes e G St k new xs K

        A : Advanced s s₁ d n top N T G (are_powers k xs 1) (SlotOf k)
        A = wider_mine s s₁ d n top N T G (are_powers k xs 1) (Among k m) R.advanced (SlotOf k) (λ z f. (f.0, (let q = f.2 in let y = few in omega arith), f.3))

        abbrev G₁ : Ghost
        G₁ = next s s₁ d n top N T G (are_powers k xs 1) (SlotOf k) A

        St₁ : Stands s₁ d N T G₁
        St₁ = next_stands s s₁ d n top N T G (are_powers k xs 1) (SlotOf k) A St.few

        unknowns₁ : Cells s₁ d N G₁ (up_from n m) (row k 1 m)
        unfolding A
        unknowns₁ =
            row_cells s₁ d N G₁ k n 1 m (λ i b.
            subst (λ z. Cell s₁ d N G₁ (n + i) (unknown_at k z)) (let z : suc i ≡ 1 + i = omega arith in z)
            (placed_cell s s₁ d n top N T G (are_powers k xs 1) (SlotOf k) A (slot k (suc i)) (n + i) (R.placed i b)))

        free₁ : (In (slot k 0) G.mentioned → ⊥) → In (slot k 0) A.mentioned → ⊥
        unfolding A
        free₁ f = next_unvisited s s₁ d n top N T G (are_powers k xs 1) (Among k m) R.advanced (slot k 0) f
            (λ q. let h = q.2 in let g = few in let z = (slots_apart k 0 k q.0 (omega arith) (omega arith) q.3).1 in let y = q.1 in omega arith)

      -- For the piece that the caller has.
      u : (k : ℕ) × ((j : ℕ) → In (slot k j) W.ghost.mentioned → ⊥)
      u = unmentioned_node W.ghost.mentioned

      own_new : Unvisited u.0 W.ghost
      own_new j c = u.1 j

      room₁ : Room s₁ N T 5
      room₁ = Q.uses 5 (room_less s n top (m + m + 5) 17 (let z = P.0 in omega arith) W.room)

      abbrev H : Ghost
      H = G₁ W.ghost W.stands u.0 own_new W.exprs W.cells

      first : Stands s₁ d N T H
      first = St₁ W.ghost W.stands u.0 own_new W.exprs W.cells

      those : Cells s₁ d N H (up_from n m) (row u.0 1 m)
      those = unknowns₁ W.ghost W.stands u.0 own_new W.exprs W.cells

      module _ (w : List ℕ) (ew : take m w ≡ up_from n m) where
        pub product_ask : m ≤ length w → (m ≤ 6) × (m ≤ length w) × Building s₁ N T 4 (take m w)
        product_ask h = (P.0, h, subst (Building s₁ N T 4) (sym ew) (building s₁ d N T 4 H first (room_less s₁ N T 4 5 (omega arith) room₁) (up_from n m) (row u.0 1 m) those))

        module _ (s₂ : List ℕ) (K₀ : Built s₁ s₂ N T (T + m) 4 product (take m w)) where
          K₁ : Built s₁ s₂ N T (T + m) 4 product (up_from n m)
          K₁ = subst (Built s₁ s₂ N T (T + m) 4 product) ew K₀

          second : Building s₂ (suc N) (T + m) 1 (N ∷ [])
          second =
              building s₂ d (suc N) (T + m) 1 H (built_stands s₁ s₂ d N T (T + m) 4 product (up_from n m) K₁ H first) (K₁.uses 1 room₁) (N ∷ [])
              (cons (product_of (row u.0 1 m)) nil)
              (one_cell s₂ d (suc N) H N (product_of (row u.0 1 m)) (built_cell s₁ s₂ d N T (T + m) 4 product (up_from n m) K₁ H first (row u.0 1 m) those))

          pub product_power : Building s₂ (N + 1) (T + m) 1 (N ∷ [])
          product_power = subst (λ z. Building s₂ z (T + m) 1 (N ∷ [])) (let z : suc N ≡ N + 1 = omega arith in z) second

          module _ (s₃ : List ℕ) (K₃ : Built s₂ s₃ (N + 1) (T + m) (T + m + 1) 1 power (N ∷ [])) where
            K₂ : Built s₂ s₃ (suc N) (T + m) (T + m + 1) 1 power (N ∷ [])
            K₂ = subst (λ z. Built s₂ s₃ z (T + m) (T + m + 1) 1 power (N ∷ [])) (let z : N + 1 ≡ suc N = omega arith in z) K₃

            B : Builds s₁ s₃ d N (suc (suc N))
            B = builds_on s₁ s₂ s₃ d N (suc N) (suc (suc N)) (K₁.builds d) (K₂.builds d)

            module _ (G : Ghost) (St : Stands s d n top G) (k : ℕ) (free : Unvisited k G) (xs : Exprs) (C : OperandCells s d n G l xs) where
              type_cell : Cell s₃ d (suc (suc N)) (G₁ G St k free xs C) (suc N) (power_of (product_of (row k 1 m)))
              type_cell =
                  let G' = G₁ G St k free xs C in
                  let S₁ = St₁ G St k free xs C in
                  built_cell s₂ s₃ d (suc N) (T + m) (T + m + 1) 1 power (N ∷ []) K₂ G' (built_stands s₁ s₂ d N T (T + m) 4 product (up_from n m) K₁ G' S₁) (cons (product_of (row k 1 m)) nil)
                  (one_cell s₂ d (suc N) G' N (product_of (row k 1 m)) (built_cell s₁ s₂ d N T (T + m) 4 product (up_from n m) K₁ G' S₁ (row k 1 m) (unknowns₁ G St k free xs C)))

              abbrev own : ℕ → Items
              own q = are_powers k xs 1 ⨾ typed k (power_of (product_of (row k 1 q)))

              passed_m : Introduced s s₃ d n top (suc (suc N)) (T + m + 1) G (own m) (SlotOf k) (slot k 0) (suc N)
              passed_m =
                  introduce_then s s₁ d n top N T G (are_powers k xs 1) (SlotOf k) (A G St k free xs C) (typed k (power_of (product_of (row k 1 m)))) s₃ (suc (suc N)) (T + m + 1) (slot k 0) (suc N)
                  (concluded s₁ s₃ d N (suc (suc N)) T (T + m + 1) B K₂.above (G₁ G St k free xs C) (St₁ G St k free xs C) (suc N) (power_of (product_of (row k 1 m))) type_cell k
                  (free₁ G St k free xs C (free 0 (omega arith))))

              passed : Introduced s s₃ d n top (suc (suc N)) (T + m + 1) G (product_items k xs) (SlotOf k) (slot k 0) (suc N)
              passed =
                  subst (λ z. Introduced s s₃ d n top (suc (suc N)) (T + m + 1) G (own z) (SlotOf k) (slot k 0) (suc N)) (sym (length-take-le m ps P.1) ∙ cells_count s d n G l xs C) passed_m

            uses₃ : Uses s s₃ n top (suc (suc N)) (T + m + 1) 17
            uses₃ z R = K₂.uses z (K₁.uses (1 + z) (Q.uses (4 + (1 + z)) (room_less s n top (m + m + (4 + (1 + z))) (17 + z) (let y = P.0 in omega arith) R)))

            core : DerivedList s s₃ d n top l 0 (suc N) (suc (suc N)) (T + m + 1) 17 product_items
            core = record {
              low = B.grows.low ∙ Q.low;
              wide = omega arith;
              uses = λ z. uses₃;
              ruled = λ G St k free xs C. rule_goes s s₃ d n top k 0 (suc N) (suc (suc N)) (T + m + 1) G (product_items k xs) refl (passed G St k free xs C);
            }

            pub product_ruled : DerivedList s s₃ d n top l 0 (N + 1) (N + 2) (T + m + 1) 17 product_items
            product_ruled =
                subst (λ z. DerivedList s s₃ d n top l 0 z (N + 2) (T + m + 1) 17 product_items) (let z : suc N ≡ N + 1 = omega arith in z)
                (subst (λ z. DerivedList s s₃ d n top l 0 (suc N) z (T + m + 1) 17 product_items) (let z : suc (suc N) ≡ N + 2 = omega arith in z) core)
