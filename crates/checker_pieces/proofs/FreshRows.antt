-- A row of new unknowns, made one by one.
use mathlib.Core.Path.{◌≡◌, refl, sym, ap, subst, ◌∙◌}
use mathlib.Core.List.{List, [], ◌∷◌}
use mathlib.Core.Logic.{◌↔◌, inl, inr, ⊎_elim}
use Prim.Native.Nat.{ℕ, zero, suc, ◌+◌, ◌≤◌, ◌<◌}
use native.Mathlib.Omega.{arith}
use native.Mathlib.Nat.{eq-or-lt_of_le}
use Rattle.types_rules.specs.Equations.{In, Pairs, pair}
use Rattle.checker_rules.specs.Unknowns.{Valuation, slot}
use Rattle.checker_rules.specs.Items.{Items, ◌⨾◌, fresh, Meets, MeetsIn, Agree, Typings, And, Passes}
use Rattle.checker_rules.specs.Conditions.{fresh_row}
use Rattle.types_cells.specs.Layout.{first_run}
use Rattle.types_cells.specs.Store.{frozen, load, run, Solved}
use Rattle.types_cells.specs.Calls.{Making, Made}
use Rattle.types_cells.proofs.Growing.{made_above, made_load}
use Rattle.types_solver.proofs.Extending.{made_grows}
use Rattle.checker_pieces.specs.Piece.{Later}
use Rattle.checker_pieces.specs.Stage.{Ghost, Stands, Unvisited, Advanced}
use Rattle.checker_pieces.proofs.Walks.{Alike, piece_alike, meets_alike, later_on, later_refl}
use Rattle.checker_pieces.proofs.Growing.{unknown, unknown_later}
use Rattle.checker_pieces.specs.Rows.{RowAsked, Among, RowOf, RowMade}

-- The items of a row ask nothing.
pub meets_row : (k j p : ℕ) (τ : Valuation) → Meets (fresh_row k j p) τ
unfolding fresh_row MeetsIn
meets_row k j zero τ = tt
meets_row k j (suc p) τ = (tt, meets_row k (suc j) p τ)

pub passes_row : (k j p : ℕ) (P : Typings) → Passes (fresh_row k j p) P
unfolding fresh_row Passes
passes_row k j zero P = tt
passes_row k j (suc p) P = (tt, passes_row k (suc j) p _)

-- One unknown more at the row's end.
agree_row : (k j p : ℕ) (σ τ : Valuation) → Agree (fresh_row k j p ⨾ fresh (slot k (j + p))) σ τ ↔ Agree (fresh_row k j (suc p)) σ τ
unfolding fresh_row Agree
agree_row k j zero σ τ =
    let e : j + 0 ≡ j = omega arith in
    let At : ℕ → Type 0 = λ (x : ℕ). σ (slot k x) ≡ τ (slot k x) in
    (λ h. (subst At e h.1, tt), λ h. (tt, subst At (sym e) h.0))
agree_row k j (suc p) σ τ =
    let e : j + suc p ≡ suc j + p = omega arith in
    let At : ℕ → Type 0 = λ (x : ℕ). σ (slot k x) ≡ τ (slot k x) in
    let q = agree_row k (suc j) p σ τ in
    (λ h. (h.0.0, q.0 (h.0.1, subst At e h.1)), λ h. let z = q.1 h.1 in ((h.0, z.0), subst At (sym e) z.1))

row_more : (t : Items) (k j p : ℕ) → Alike ((t ⨾ fresh_row k j p) ⨾ fresh (slot k (j + p))) (t ⨾ fresh_row k j (suc p))
unfolding MeetsIn Agree Passes
row_more t k j p = (
  λ τ. (λ h. (h.0.0, meets_row k j (suc p) τ), λ h. ((h.0, meets_row k j p τ), tt)),
  λ σ τ. let q = agree_row k j p σ τ in (λ h. (h.0.0, q.0 (h.0.1, h.1)), λ h. let z = q.1 h.1 in ((h.0, z.0), z.1)),
  λ H q. (q.0.0, passes_row k j (suc p) (And (MeetsIn H) t)),
)

none_yet : (t : Items) (k j : ℕ) → Alike t (t ⨾ fresh_row k j 0)
unfolding fresh_row MeetsIn Agree Passes
none_yet t k j = (λ τ. (λ h. (h, tt), λ h. h.0), λ σ τ. (λ h. (h, tt), λ h. h.0), λ H p. (p, tt))

pub alike_later : (s s' d : List ℕ) (n n' : ℕ) (P P' : Pairs ℕ) (H t t' u : Items) (ρ ρ' : Pairs ℕ) → Alike t' u → Later s s' d n n' P P' H t t' ρ ρ' → Later s s' d n n' P P' H t u ρ ρ'
alike_later s s' d n n' P P' H t t' u ρ ρ' e A = record { solutions = A.solutions; items = λ τ m. A.items τ ((meets_alike H t' u e τ).1 m); unknowns = A.unknowns }

module _ (s₀ : List ℕ) (n p : ℕ) (B : RowAsked s₀ n p) where
  pub row_start : RowMade s₀ s₀ n 0
  row_start =
      let z : n ≡ n + 0 = omega arith in
      let y : load (frozen s₀) n ≡ load (frozen s₀) n + 0 = omega arith in
      record {
        low = refl;
        solved = λ P₀ L S. subst (λ (m : ℕ). Solved s₀ m P₀ L) z S;
        fit = ap (load (frozen s₀)) (sym z) ∙ y;
        row = λ d top k G S U l.
            subst (λ (m : ℕ). RowOf s₀ s₀ d n top m 0 k G) z
            (record {
              advanced = record {
                equations = G.equations;
                mentioned = G.mentioned;
                cells = G.cells;
                wide = omega arith;
                goes = passes_row k 1 0 (MeetsIn (G.before ⨾ G.items));
                piece = piece_alike s₀ d n G.equations G.before G.items (G.items ⨾ fresh_row k 1 0) G.known G.mentioned G.cells (none_yet G.items k 1) S.piece;
                above = S.above;
                later =
                    alike_later s₀ s₀ d n n G.equations G.equations G.before G.items G.items (G.items ⨾ fresh_row k 1 0) G.cells G.cells (none_yet G.items k 1)
                    (later_refl s₀ d n G.equations G.before G.items G.cells);
                wider = λ x i. i;
                new = λ x i. inl i;
              };
              placed = λ i h. absurd (omega arith);
            });
      }

  module _ (s : List ℕ) (j : ℕ) (l : j < p) (I : RowMade s₀ s n j) where
    pub row_ask : Making s (n + j) 0 0 first_run 0
    unfolding run
    row_ask = record {
      P₀ = B.P₀;
      L = B.L;
      solved = I.solved B.P₀ B.L B.solved;
      few = let z = B.room in omega arith;
      tags = omega arith;
      plain = λ e. refl;
      powers = λ e. refl;
      products = λ e. refl;
      one = λ e. absurd (omega arith);
      low = omega arith;
      room = omega arith;
      named_low = λ e. absurd (omega arith);
      named = λ e. absurd (omega arith);
      older = λ k i. absurd i;
      fit = let z = B.fit in let y = I.fit in omega arith;
    }

    module _ (s' : List ℕ) (N : Made s s' (n + j) 0 0 first_run 0) where
      module _ (d : List ℕ) (top k : ℕ) (G : Ghost) (S : Stands s₀ d n top G) (U : Unvisited k G) (few : suc j < 8) where
        abbrev R : RowOf s₀ s d n top (n + j) j k G
        R = I.row d top k G S U (omega arith)

        abbrev A : Advanced s₀ s d n top (n + j) top G (fresh_row k 1 j) (Among k j)
        A = R.advanced

        abbrev x : ℕ
        x = slot k (1 + j)

        new : In x A.mentioned → ⊥
        unfolding slot
        new i = ⊎_elim (λ q. U (1 + j) (omega arith) q) (λ q. let a = q.2 in let b = q.3 in omega arith) (A.new x i)

        row_on : RowOf s₀ s' d n top (suc (n + j)) (suc j) k G
        row_on =
            let t = G.items ⨾ fresh_row k 1 j in
            let e = row_more G.items k 1 j in
            record {
              advanced = record {
                equations = A.equations;
                mentioned = x ∷ A.mentioned;
                cells = pair x (n + j) A.cells;
                wide = omega arith;
                goes = passes_row k 1 (suc j) (MeetsIn (G.before ⨾ G.items));
                piece =
                    piece_alike s' d (suc (n + j)) A.equations G.before (t ⨾ fresh x) (G.items ⨾ fresh_row k 1 (suc j)) G.known (x ∷ A.mentioned) (pair x (n + j) A.cells) e
                    (unknown s s' d (n + j) row_ask N A.equations G.before t G.known A.mentioned A.cells A.piece x new);
                above = made_above s s' (n + j) 0 0 first_run 0 row_ask N top A.above (let z = A.above.low in omega arith) (λ z. absurd (omega arith));
                later =
                    alike_later s₀ s' d n (suc (n + j)) G.equations A.equations G.before G.items (t ⨾ fresh x) (G.items ⨾ fresh_row k 1 (suc j)) G.cells (pair x (n + j) A.cells) e
                    (later_on s₀ s s' d n (n + j) (suc (n + j)) G.equations A.equations A.equations G.before G.items t (t ⨾ fresh x) G.cells A.cells (pair x (n + j) A.cells)
                    A.later (unknown_later s s' d (n + j) row_ask N A.equations G.before t G.known A.mentioned A.cells A.piece x new));
                wider = λ y i. inr (A.wider y i);
                new = λ y i. ⊎_elim (λ q. inr (1 + j, omega arith, omega arith, q)) (λ q. ⊎_elim inl (λ z. inr (z.0, z.1, let b = z.2 in omega arith, z.3)) (A.new y q)) i;
              };
              placed = λ i h.
                  ⊎_elim
                  (λ q. let a : suc i ≡ 1 + j = omega arith in inl (ap (slot k) a, ap (λ (z : ℕ). n + z) q))
                  (λ q. inr (R.placed i q))
                  (eq-or-lt_of_le (let y : i ≤ j = omega arith in y));
            }

      pub row_next : RowMade s₀ s' n (j + 1)
      row_next =
          let z : suc (n + j) ≡ n + (j + 1) = omega arith in
          let w : suc j ≡ j + 1 = omega arith in
          let grows = made_grows s s' [] (n + j) 0 0 first_run 0 row_ask N in
          let a = made_load s s' (n + j) 0 0 first_run 0 row_ask N in
          let b = I.fit in
          let c : load (frozen s') (suc (n + j)) ≡ load (frozen s₀) n + (j + 1) = omega arith in
          record {
            low = grows.low ∙ I.low;
            solved = λ P₀ L S. subst (λ (m : ℕ). Solved s' m P₀ L) z (N.grown P₀ L (I.solved P₀ L S));
            fit = ap (load (frozen s')) (sym z) ∙ c;
            row = λ d top k G S U l.
                subst (λ (m : ℕ). RowOf s₀ s' d n top (n + (j + 1)) m k G) w
                (subst (λ (m : ℕ). RowOf s₀ s' d n top m (suc j) k G) z (row_on d top k G S U (omega arith)));
          }
