-- The powers of a row of cells, made one by one; operands that are powers: a row of unknowns, a row of their powers, the equations.
use mathlib.Core.Path.{◌≡◌, sym, subst, ◌∙◌}
use mathlib.Core.List.{List, [], ◌∷◌}
use mathlib.Core.Logic.{⊎_elim}
use Prim.Native.Nat.{ℕ, suc, ◌+◌, ◌≤◌, ◌<◌}
use native.Mathlib.Omega.{arith}
use native.Mathlib.Nat.{eq-or-lt_of_le}
use lib.ListN.{length}
use Rattle.reader_rules.specs.Tree.{Exprs}
use Rattle.types_rules.specs.Equations.{InP}
use Rattle.types_rules.specs.Former.{power}
use Rattle.types_rules.specs.Types.{Term, nil, cons}
use Rattle.checker_rules.specs.Conditions.{are_powers, fresh_row, powers, types_of}
use Rattle.checker_rules.specs.Items.{Items, ◌⨾◌, equations}
use Rattle.checker_rules.specs.Unknowns.{slot, unknown_at, power_of}
use Rattle.types_cells.specs.Store.{run}
use Rattle.types_cells.proofs.Words.{run_length}
use Rattle.types_solver.proofs.Extending.{builds_on, builds_refl}
use Rattle.checker_pieces.specs.Piece.{Stops}
use Rattle.checker_pieces.specs.Stage.{Ghost, Stands, Cell, Unvisited, Advanced, Comparing, Sides, Equated, Uses}
use Rattle.checker_pieces.specs.Building.{Building, Built, Cells}
use Rattle.checker_pieces.specs.Rows.{RowAsked, Among, RowOf, RowMade, PowersAsked, PowersMade, Powering, PowersOf, Powers}
use Rattle.checker_pieces.proofs.PowerLaws.{unmentioned_node}
use Rattle.checker_pieces.proofs.RowLaws.{cells_count, sides_powers, sides_comparing}
use Rattle.checker_pieces.proofs.Stages.{next, next_stands, next_cells, placed_cell, cell_built, cells_built, stands_built, built_old, built_cell, one_cell, room_less, uses_on, equal_room, equal_advanced, built_before, advance_then, stop_then}

-- NONE YET.
powers_none : (s : List ℕ) (n top first m : ℕ) → PowersAsked s n top first m → PowersMade s s n top first 0 n top
powers_none s n top first m A = record {
  builds = λ d. builds_refl s d n;
  above = A.above;
  uses = λ y R. room_less s n top y (0 + y) (omega arith) R;
  powers = λ d G St u U i b. absurd (omega arith);
}

pub powers_start : (s : List ℕ) (n top first m : ℕ) → PowersAsked s n top first m → PowersMade s s n top first 0 (n + 0) (top + 0)
powers_start s n top first m A =
    subst (λ z. PowersMade s s n top first 0 z (top + 0)) (let z : n ≡ n + 0 = omega arith in z)
    (subst (λ z. PowersMade s s n top first 0 n z) (let z : top ≡ top + 0 = omega arith in z) (powers_none s n top first m A))

-- ONE MORE.
module _ (s : List ℕ) (n top first m : ℕ) (A : PowersAsked s n top first m) (t : List ℕ) (j : ℕ) (l : j < m) (I : PowersMade s t n top first j (n + j) (top + j)) where
  pub powers_ask : Building t (n + j) (top + j) 1 ((first + j) ∷ [])
  powers_ask = record {
    P₀ = A.P₀;
    L = A.L;
    solved = (I.builds []).grows.solved A.P₀ A.L A.solved;
    above = I.above;
    room = I.uses 1 (room_less s n top (j + 1) m (omega arith) A.room);
    older = λ c i. ⊎_elim (λ e. let z = A.made in omega arith) absurd i;
  }

  module _ (u : List ℕ) (K : Built t u (n + j) (top + j) (top + j + 1) 1 power ((first + j) ∷ [])) where
    module _ (d : List ℕ) (G : Ghost) (St : Stands s d n top G) (v : ℕ → Term) (U : (i : ℕ) → i < suc j → Cell s d n G (first + i) (v i)) where
      before : Stands t d (n + j) (top + j) G
      before = stands_built s t d n (n + j) top (I.builds d) G St (top + j) I.above

      last : Cell u d (suc (n + j)) G (n + j) (power_of (v j))
      last =
          built_cell t u d (n + j) (top + j) (top + j + 1) 1 power ((first + j) ∷ []) K G before (cons (v j) nil)
          (one_cell t d (n + j) G (first + j) (v j) (cell_built s t d n (n + j) top (I.builds d) G St (first + j) (v j) (U j (omega arith))))

      all : (i : ℕ) → i < suc j → Cell u d (suc (n + j)) G (n + i) (power_of (v i))
      all i b = ⊎_elim
          (λ e. subst (λ z. Cell u d (suc (n + j)) G (n + z) (power_of (v z))) (sym e) last)
          (λ q. built_old t u d (n + j) (top + j) (top + j + 1) 1 power ((first + j) ∷ []) K G before (n + i) (power_of (v i)) (I.powers d G St v (λ k h. U k (omega arith)) i q))
          (eq-or-lt_of_le (let z : i ≤ j = omega arith in z))

    one_more : PowersMade s u n top first (suc j) (suc (n + j)) (top + j + 1)
    one_more = record {
      builds = λ d. builds_on s t u d n (n + j) (suc (n + j)) (I.builds d) (K.builds d);
      above = K.above;
      uses = λ y R. uses_on s t u n (n + j) (suc (n + j)) top (top + j) (top + j + 1) j 1 I.uses K.uses y (room_less s n top (j + 1 + y) (suc j + y) (omega arith) R);
      powers = λ d G St v U. all d G St v U;
    }

    pub powers_next : PowersMade s u n top first (j + 1) (n + (j + 1)) (top + (j + 1))
    powers_next =
        subst (λ z. PowersMade s u n top first z (n + (j + 1)) (top + (j + 1))) (let z : suc j ≡ j + 1 = omega arith in z)
        (subst (λ z. PowersMade s u n top first (suc j) z (top + (j + 1))) (let z : suc (n + j) ≡ n + (j + 1) = omega arith in z)
        (subst (λ z. PowersMade s u n top first (suc j) (suc (n + j)) z) (let z : top + j + 1 ≡ top + (j + 1) = omega arith in z) one_more))

-- OPERANDS THAT ARE POWERS.
pub rows_length_lem : (l : List ℕ) (m : ℕ) → m ≤ length l → length (run l 0 m) ≡ m
rows_length_lem l m q = run_length l 0 m (omega arith)

module _ (s d : List ℕ) (n top : ℕ) (l : List ℕ) (m : ℕ) (el : length l ≡ m) (W : Powering s d n top l m) where
  pub row_asked : RowAsked s n m
  row_asked =
      let R = W.room in
      let u = R.cells in
      let v = R.fit in
      record { P₀ = W.ghost.equations; L = W.stands.piece.L; solved = W.stands.piece.solved; room = omega arith; fit = omega arith }

  module _ (s₁ : List ℕ) (M : RowMade s s₁ n m) where
    row_uses : Uses s s₁ n top (n + m) top m
    row_uses y R =
        let e = M.fit in
        let u = R.cells in
        let v = R.words in
        let w = R.fit in
        record { cells = omega arith; words = omega arith; fit = omega arith }

    -- The unknowns, in any piece that stands.
    module _ (G : Ghost) (St : Stands s d n top G) (k : ℕ) (new : Unvisited k G) where
      abbrev A₁ : RowOf s s₁ d n top (n + m) m k G
      A₁ = M.row d top k G St new W.few

      abbrev G₁ : Ghost
      G₁ = next s s₁ d n top (n + m) top G (fresh_row k 1 m) (Among k m) A₁.advanced

      St₁ : Stands s₁ d (n + m) top G₁
      St₁ = next_stands s s₁ d n top (n + m) top G (fresh_row k 1 m) (Among k m) A₁.advanced St.few

      unknowns₁ : (i : ℕ) → i < m → Cell s₁ d (n + m) G₁ (n + i) (unknown_at k (1 + i))
      unknowns₁ i b =
          subst (λ z. Cell s₁ d (n + m) G₁ (n + i) (unknown_at k z)) (let z : suc i ≡ 1 + i = omega arith in z)
          (placed_cell s s₁ d n top (n + m) top G (fresh_row k 1 m) (Among k m) A₁.advanced (slot k (suc i)) (n + i) (A₁.placed i b))

      cells₁ : (xs : Exprs) → Cells s d n G l (types_of xs) → Cells s₁ d (n + m) G₁ l (types_of xs)
      cells₁ xs K = next_cells s s₁ d n top (n + m) top G (fresh_row k 1 m) (Among k m) A₁.advanced l (types_of xs) K

    -- A node for the piece that the caller has.
    own : (k : ℕ) × Unvisited k W.ghost
    own = let u = unmentioned_node W.ghost.mentioned in (u.0, λ j b. u.1 j)

    pub powers_asked : PowersAsked s₁ (n + m) top n m
    powers_asked = record {
      P₀ = W.ghost.equations;
      L = W.stands.piece.L;
      solved = M.solved W.ghost.equations W.stands.piece.L W.stands.piece.solved;
      above = (A₁ W.ghost W.stands own.0 own.1).advanced.above;
      room = row_uses m W.room;
      made = omega arith;
    }

    module _ (s₂ : List ℕ) (N : PowersMade s₁ s₂ (n + m) top n m (n + m + m) (top + m)) where
      module _ (G : Ghost) (St : Stands s d n top G) (k : ℕ) (new : Unvisited k G) where
        St₂ : Stands s₂ d (n + m + m) (top + m) (G₁ G St k new)
        St₂ = stands_built s₁ s₂ d (n + m) (n + m + m) top (N.builds d) (G₁ G St k new) (St₁ G St k new) (top + m) N.above

        sides : (xs : Exprs) → Cells s d n G l (types_of xs) → Sides s₂ d (n + m + m) (G₁ G St k new) l (n + m) 1 (powers k xs 1)
        sides xs K =
            let e = cells_count s d n G l xs K in
            sides_powers s₂ d (n + m + m) (G₁ G St k new) k l (n + m) 1 xs
            (λ i b. N.powers d (G₁ G St k new) (St₁ G St k new) (λ i. unknown_at k (1 + i)) (unknowns₁ G St k new) i (omega arith))
            (cells_built s₁ s₂ d (n + m) (n + m + m) top (N.builds d) (G₁ G St k new) (St₁ G St k new) l (types_of xs) (cells₁ G St k new xs K))

      pub sides_asked : Comparing s₂ d (n + m + m) l (n + m) 1
      sides_asked =
          sides_comparing s₂ d (n + m + m) l (n + m) 1 (top + m)
          (record { ghost = G₁ W.ghost W.stands own.0 own.1; stands = St₂ W.ghost W.stands own.0 own.1 }) (powers own.0 W.exprs 1)
          (sides W.ghost W.stands own.0 own.1 W.exprs W.cells) (omega arith)

      module _ (s₃ : List ℕ) (number : ℕ) (E : Equated s₂ s₃ d (n + m + m) l (n + m) 1 number) where
        uses₃ : Uses s s₃ n top (n + m + m) (top + m) (m + m)
        uses₃ y R =
            equal_room s₂ s₃ d (n + m + m) l (n + m) 1 (top + m) y E
            (uses_on s s₁ s₂ n (n + m) (n + m + m) top top (top + m) m m row_uses N.uses y R)

        module _ (G : Ghost) (St : Stands s d n top G) (k : ℕ) (new : Unvisited k G) (xs : Exprs) (K : Cells s d n G l (types_of xs)) where
          abbrev es : Items
          es = equations k (powers k xs 1)

          stopped : (number ≡ 0 → ⊥) → Stops G.before G.items (are_powers k xs 1) number k
          unfolding are_powers
          stopped ne =
              subst (λ z. Stops G.before G.items (fresh_row k 1 z ⨾ es) number k) (sym el ∙ cells_count s d n G l xs K)
              (stop_then s s₁ d n top (n + m) top G (fresh_row k 1 m) (Among k m) (A₁ G St k new).advanced es number k
              (E.stops ne (top + m) (G₁ G St k new) (St₂ G St k new) (powers k xs 1) (sides G St k new xs K) k))

          A₃ : number ≡ 0 → Advanced s₁ s₃ d (n + m) top (n + m + m) (top + m) (G₁ G St k new) es (Among k m)
          A₃ e =
              built_before s₂ s₃ d (n + m + m) (top + m) (n + m + m) (top + m) (G₁ G St k new) es (Among k m)
              (equal_advanced s₂ s₃ d (n + m + m) l (n + m) 1 (top + m) (G₁ G St k new) (St₂ G St k new) (powers k xs 1) (sides G St k new xs K) k (Among k m)
              (subst (Equated s₂ s₃ d (n + m + m) l (n + m) 1) e E)) s₁ (n + m) top (N.builds d) (St₁ G St k new)

          abbrev Gone : ℕ → Type 0
          Gone z = (A : Advanced s s₃ d n top (n + m + m) (top + m) G (fresh_row k 1 z ⨾ es) (Among k m)) × ((i : ℕ) → i < m → InP (slot k (suc i)) (n + i) A.cells)

          gone : number ≡ 0 → PowersOf s s₃ d n top (n + m + m) (top + m) G k m xs
          unfolding are_powers advance_then built_before equal_advanced A₃
          gone e =
              let X = subst Gone (sym el ∙ cells_count s d n G l xs K)
              (advance_then s s₁ d n top (n + m) top G (fresh_row k 1 m) (Among k m) (A₁ G St k new).advanced es s₃ (n + m + m) (top + m) (A₃ e), (A₁ G St k new).placed) in
              record { advanced = X.0; placed = X.1 }

        pub are_powers_lem : Powers s s₃ d n top l m number
        are_powers_lem = record {
          low = E.low ∙ (N.builds d).grows.low ∙ M.low;
          uses = uses₃;
          goes = λ e G St k new xs K. gone G St k new xs K e;
          stops = λ e G St k new xs K. stopped G St k new xs K e;
        }
