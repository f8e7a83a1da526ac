-- Select: what its function promises, from the test for finite types and the look at the cell.
use mathlib.Core.Path.{◌≡◌, refl, sym, ap, subst, ◌∙◌}
use mathlib.Core.Bool.{Bool}
use mathlib.Core.List.{List, [], ◌∷◌}
use mathlib.Core.Option.{some}
use Prim.Native.Nat.{ℕ, suc, ◌+◌, ◌-◌, ◌≤◌, ◌<◌}
use native.Mathlib.Omega.{arith}
use Rattle.types_rules.specs.Component.{component_type}
use Rattle.types_rules.specs.Types.{Ty, Term}
use Rattle.checker_rules.specs.Unknowns.{slot}
use Rattle.types_cells.specs.Layout.{settled_from}
use Rattle.types_cells.specs.Store.{frozen}
use Rattle.types_cells.specs.Calls.{Above}
use Rattle.types_cells.specs.Settled.{heap, Readable, Entering, Entered}
use Rattle.types_solver.specs.Sizes.{Read, TestedFinite}
use Rattle.types_solver.specs.Answers.{SolutionOf, Looking, Looked}
use Rattle.checker_pieces.specs.Piece.{Solution, Piece, Later}
use Rattle.checker_pieces.specs.Stage.{Ghost, Stands, Cell, Unvisited, SlotOf, Room}
use Rattle.checker_pieces.specs.Building.{Introduced, Working}
use Rattle.checker_pieces.proofs.Components.{cell_moved, introduced_moved, introduced_selected, selected_stops, room_still, room_settled}
use Rattle.checker_pieces.proofs.ClosingLaws.{tested, tested_later, finite_after}
use Rattle.checker_pieces.proofs.Growing.{settled, settled_later}
use Rattle.checker_pieces.proofs.Stages.{plain_making, room_less, rule_goes, rule_stops}
use Rattle.checker_kinds.specs.Equations.{select_items}
use Rattle.checker_kinds.specs.Formers.{Derived}
use Rattle.checker_kinds.proofs.Operands.{operand}

abbrev as_one : (s d : List ℕ) (n : ℕ) (G : Ghost) (σ : ℕ → Ty) → Solution s d n G.equations σ → SolutionOf s d n G.equations
as_one s d n G σ S = record { σ = σ; fits = S.fits; sat = S.sat; obeys = S.obeys }

pub select_reads : (s d : List ℕ) (n top x w : ℕ) → Working s d n top w (x ∷ []) → Read s n
select_reads s d n top x w A = let Q = A.stands.piece in record { L = Q.L; held = Q.solved.held }

module _ (s u d : List ℕ) (n top x : ℕ) (b : Bool) (T : TestedFinite s u n b) (A : Working s d n top 1 (x ∷ [])) where
  made : x < n
  made = (operand s d n A.ghost x A.terms A.cells).1.made

  -- The piece after the test.
  module _ (G : Ghost) (S : Stands s d n top G) where
    abbrev Q : Piece u d n G.equations G.before G.items G.known G.mentioned G.cells
    Q = tested s u d n b T G.equations G.before G.items G.known G.mentioned G.cells S.piece

    abbrev F : Later s u d n n G.equations G.equations G.before G.items G.items G.cells G.cells
    F = tested_later s u d n b T G.equations G.before G.items G.known G.mentioned G.cells S.piece

    still_above : Above (frozen u) n top
    still_above = subst (λ w. Above w n top) (sym T.still) S.above

    abbrev S₁ : Stands u d n top G
    S₁ = record { piece = Q; above = still_above; few = S.few }

    cell₁ : (a : Term) → Cell s d n G x a → Cell u d n G x a
    cell₁ = cell_moved s u d n n (omega arith) G F x

  abbrev G₀ : Ghost
  G₀ = A.ghost

  abbrev Q₀ : Piece u d n G₀.equations G₀.before G₀.items G₀.known G₀.mentioned G₀.cells
  Q₀ = Q G₀ A.stands

  pub looking : Looking u d x
  looking = record { n = n; L = Q₀.L; held = Q₀.solved.held; pinned = Q₀.pinned; made = made; few = A.stands.few }

  room₁ : Room u n top 1
  room₁ = room_still s u n top 1 T.still A.room

  module _ (id v : ℕ) (K : Looked u d x id v) where
    pub select_absent : v ≡ 0 → Derived s u d n top x 35 x n top 1 (select_items id)
    select_absent e = record {
      low = T.same.low;
      wide = omega arith;
      uses = λ z. absurd (omega arith);
      ruled = λ G S k new a C.
          let W = K.absent e n G.equations (Q G S).L (Q G S).solved (Q G S).pinned (made) (finite_after s u d n b T G.equations G.before G.items G.known G.mentioned G.cells S.piece) in
          rule_stops s u d n top k 35 x n top G (select_items id k a) (λ z. omega arith)
          (selected_stops u d n top G (S₁ G S) k new x id a (cell₁ G S a C) W.solution.σ (record { fits = W.solution.fits; sat = W.solution.sat; obeys = W.solution.obeys }) W.lacks);
    }

    -- the component has a cell
    module _ (c : ℕ) (e : v ≡ suc c) (l : v < settled_from) where
      one_cell : (G : Ghost) → Stands s d n top G → (k : ℕ) → Unvisited k G → (a : Term) → Cell s d n G x a → Introduced s u d n top n top G (select_items id k a) (SlotOf k) (slot k 0) c
      one_cell G S k new a C =
          introduced_moved s u d n n (omega arith) G (F G S) u top top n top (select_items id k a) (SlotOf k) (slot k 0) c
          (introduced_selected u d n top G (S₁ G S) k new x id a (cell₁ G S a C) c (K.below c e l n (Q G S).L (Q G S).solved.held (made))
          (λ σ Z. K.found c e l n G.equations (Q G S).L (Q G S).solved (made) (as_one u d n G σ Z)))

      pub select_cell : Derived s u d n top x 0 c n top 1 (select_items id)
      select_cell = record {
        low = T.same.low;
        wide = omega arith;
        uses = λ z y R. room_less u n top y (1 + y) (omega arith) (room_still s u n top (1 + y) T.still R);
        ruled = λ G S k new a C. rule_goes s u d n top k 0 c n top G (select_items id k a) refl (one_cell G S k new a C);
      }

    -- it has type words: they enter
    module _ (l : settled_from ≤ v) where
      pub entering : Entering u d n (v - settled_from)
      entering = record {
        making = plain_making u d n top 1 G₀ (S₁ G₀ A.stands) room₁ (omega arith) 0 (omega arith);
        pinned = Q₀.pinned;
        few = A.stands.few;
        readable = K.place l n Q₀.L Q₀.solved.held Q₀.pinned (made);
      }

      module _ (w : List ℕ) (E : Entered u w d n (v - settled_from)) where
        module _ (G : Ghost) (S : Stands s d n top G) where
          g : Readable (heap u d) (v - settled_from)
          g = K.place l n (Q G S).L (Q G S).solved.held (Q G S).pinned (made)

          abbrev F₂ : Later u w d n (suc n) G.equations G.equations G.before G.items G.items G.cells G.cells
          F₂ = settled_later u w d n (v - settled_from) entering E g.type g.reads G.equations G.before G.items G.known G.mentioned G.cells (Q G S)

          S₂ : Stands w d (suc n) top G
          S₂ = record {
            piece = settled u w d n (v - settled_from) entering E g.type g.reads G.equations G.before G.items G.known G.mentioned G.cells (Q G S);
            above = E.above top (still_above G S);
            few = S.few;
          }

          component : (σ : ℕ → Ty) → Solution w d (suc n) G.equations σ → component_type id (σ x) ≡ some (σ n)
          component σ Z =
              let f = K.settled l n G.equations (Q G S).L (Q G S).solved (Q G S).pinned (made) (as_one u d n G σ (F₂.solutions σ Z)) in
              f.is ∙ ap some (sym (E.type f.type f.reads σ Z.obeys))

          new_cell : (k : ℕ) → Unvisited k G → (a : Term) → Cell s d n G x a → Introduced s w d n top (suc n) top G (select_items id k a) (SlotOf k) (slot k 0) n
          new_cell k new a C =
              introduced_moved s u d n n (omega arith) G (F G S) w top top (suc n) top (select_items id k a) (SlotOf k) (slot k 0) n
              (introduced_moved u w d n (suc n) (omega arith) G F₂ w top top (suc n) top (select_items id k a) (SlotOf k) (slot k 0) n
              (introduced_selected w d (suc n) top G S₂ k new x id a (cell_moved u w d n (suc n) (omega arith) G F₂ x a (cell₁ G S a C)) n (omega arith) component))

        all_settled : Derived s w d n top x 0 n (suc n) top 1 (select_items id)
        all_settled = record {
          low = E.low ∙ T.same.low;
          wide = omega arith;
          uses = λ z y R. room_settled u w n top y E.fit (room_still s u n top (1 + y) T.still R);
          ruled = λ G S k new a C. rule_goes s w d n top k 0 n (suc n) top G (select_items id k a) refl (new_cell G S k new a C);
        }

        pub select_settled : (n' : ℕ) → n' ≡ suc n → Derived s w d n top x 0 n n' top 1 (select_items id)
        select_settled n' e = subst (λ z. Derived s w d n top x 0 n z top 1 (select_items id)) (sym e) all_settled
