-- The two sides of a relation and the relation itself, as one closed piece between pieces.
use mathlib.Core.Path.{◌≡◌, ◌∙◌}
use mathlib.Core.Bool.{true, false}
use mathlib.Core.List.{List, [], ◌∷◌, ◌++◌}
use Prim.Native.Nat.{ℕ, ◌+◌, ◌*◌, ◌-◌, ◌≤◌, ◌<◌}
use native.Mathlib.Omega.{arith}
use lib.ListN.{length, length-append}
use Rattle.reader_rules.specs.Limited.{LimitedExpr}
use Rattle.reader_rules.specs.Tree.{Expr, expr_node}
use Rattle.reader_rules.specs.TreeNumbers.{expr_numbers}
use Rattle.types_rules.specs.Types.{Term, cons, nil}
use Rattle.checker_rules.specs.Conditions.{type_of}
use Rattle.checker_rules.specs.Dictionary.{Dictionary}
use Rattle.checker_rules.specs.Items.{Items, skip, ◌⨾◌, piece, Refuses, MeetsIn}
use Rattle.checker_rules.specs.Rules.{expr_items}
use Rattle.checker_rules.specs.Scopes.{Scope}
use Rattle.checker_rules.specs.Unknowns.{slot}
use Rattle.checker_pieces.specs.Piece.{Steady}
use Rattle.checker_pieces.specs.Stage.{Ghost, Stands, Advanced, Cell, Room, SlotOf, node_cells}
use Rattle.checker_pieces.specs.Building.{Introduced, Working}
use Rattle.checker_pieces.specs.Closed.{Closing, Closed}
use Rattle.checker_pieces.proofs.Stages.{next, next_stands, next_cell, placed_cell, wider_mine, advance_then, stop_then, two_cells, room_less}
use Rattle.checker_pieces.proofs.Walks.{stops_left}
use Rattle.checker_kinds.specs.Equations.{Related, Passed}
use Rattle.checker_lookup.specs.Scoped.{Scoped}
use Rattle.checker_includes.specs.Storing.{Stored}
use Rattle.checker_contracts.specs.Expressions.{ExprAsk, ExprDone}
use Rattle.checker_contracts.specs.Predicates.{Walking}
use Rattle.checker_contracts.specs.Room.{Inside}
use Rattle.checker_contracts.specs.Visits.{Owned, Fresh, idle, Spared, Went}
use Rattle.checker_contracts.proofs.Nodes.{once_left, once_right, fresh_left, fresh_after, owned_left, owned_right, owned_in, last_in}
use Rattle.checker_contracts.proofs.Rooms.{begin_inside, inside_part, inside_next}
use Rattle.checker_contracts.proofs.Scopes.{scoped_stored, scoped_later, scoped_spared, stored_on, spared_on}
use Rattle.checker_contracts.proofs.Opening.{opened, piece_refused, piece_walked, piece_several}
use Rattle.types_cells.specs.Layout.{first_run, pool_size}

pub record Sides (s d w : List ℕ) (rows at free : ℕ) (a b : Expr) : Type 0 where
  pub height : ℕ
  pub texts : ℕ
  pub left : LimitedExpr height texts a
  pub right : LimitedExpr height texts b
  pub walking : Walking s d w rows at free height (expr_numbers a ++ expr_numbers b)
  pub enough : length (expr_numbers a ++ expr_numbers b) ≤ walking.bound

-- The items of the relation's node k are `own k`, of the types of its sides.
module _ (s d w : List ℕ) (rows at free : ℕ) (a b : Expr) (Q : Sides s d w rows at free a b) (k : ℕ) (own : ℕ → Term → Term → Items) where
  abbrev na : List ℕ
  na = expr_numbers a

  abbrev nb : List ℕ
  nb = expr_numbers b

  abbrev K : Walking s d w rows at free Q.height (na ++ nb)
  K = Q.walking

  abbrev pub relation_of : Scope → Items
  relation_of Γ = expr_items a Γ ⨾ (expr_items b Γ ⨾ own k (type_of a) (type_of b))

  inside_both : Inside s w rows 0 first_run at free Q.height (length na + length nb)
  inside_both =
      let e = Q.enough in
      let z = length-append na nb in
      begin_inside s w rows at free Q.height K.bound (length na + length nb) K.room (omega arith)

  low_pool : at < pool_size
  low_pool = let z = K.room.pool in omega arith

  pub left_ask : ExprAsk s d w rows 0 first_run at free a
  left_ask = record {
    height = Q.height;
    texts = Q.texts;
    limited = Q.left;
    visiting = record {
      ghost = idle K.before K.known;
      stands = opened s d K.before K.known K.steady K.size K.few;
      scope = K.scope;
      dictionary = K.dictionary;
      scoped = K.scoped;
      fresh = fresh_left na nb K.known K.fresh;
      once = once_left na nb K.once;
      size = K.size;
      clean = K.clean;
      room = inside_part s w rows 0 first_run at free Q.height Q.height (length na) (length na + length nb) inside_both (omega arith) (omega arith);
    };
  }

  -- THE LEFT SIDE WAS VISITED.
  module _ (s₁ w₁ : List ℕ) (number place cell n top at₁ : ℕ) (A : ExprDone s s₁ d w w₁ rows 0 first_run at free a number place cell n top at₁) where
    pub left_refused : (number ≡ 0 → ⊥) → (H : Items) (U : List ℕ) → Steady H U → (Γ : Scope) (D : Dictionary) → Scoped s d w rows (idle H U) Γ D → Fresh (na ++ nb) U →
        Refuses (piece k (relation_of Γ)) (MeetsIn H) number place
    left_refused e H U S Γ D C F =
        piece_refused H k (relation_of Γ) number place
        (stops_left H skip (expr_items a Γ) (expr_items b Γ ⨾ own k (type_of a) (type_of b)) number place
        (A.stops e (idle H U) (opened s d H U S K.size K.few) Γ D C (fresh_left na nb U F)))

    module _ (fine : number ≡ 0) where
      -- any items before
      module _ (H : Items) (U : List ℕ) (S : Steady H U) (Γ : Scope) (D : Dictionary) (C : Scoped s d w rows (idle H U) Γ D) (F : Fresh (na ++ nb) U) where
        first : Introduced s s₁ d 0 first_run n top (idle H U) (expr_items a Γ) (Owned na) (slot (expr_node a) 0) cell
        first = A.goes fine (idle H U) (opened s d H U S K.size K.few) Γ D C (fresh_left na nb U F)

        abbrev ghost₁ : Ghost
        ghost₁ = next s s₁ d 0 first_run n top (idle H U) (expr_items a Γ) (Owned na) first.advanced

        stands₁ : Stands s₁ d n top ghost₁
        stands₁ = next_stands s s₁ d 0 first_run n top (idle H U) (expr_items a Γ) (Owned na) first.advanced K.few

        scoped₁ : Scoped s₁ d w₁ rows ghost₁ Γ D
        scoped₁ =
            scoped_spared s₁ d w w₁ rows free ghost₁ Γ D A.spared
            (scoped_later s₁ d w rows Γ D (idle H U) ghost₁ first.advanced.wider first.advanced.later.items
            (scoped_stored s s₁ d at at₁ K.size K.clean K.room.some low_pool (A.areas fine).stored w rows (idle H U) Γ D C))

        fresh₁ : Fresh nb first.advanced.mentioned
        fresh₁ = fresh_after na nb U first.advanced.mentioned K.once F first.advanced.new

      inside₁ : Inside s₁ w₁ rows n top at₁ free Q.height (length nb)
      inside₁ =
          inside_next s s₁ w w₁ rows 0 first_run n top at at₁ free Q.height (length na) (length nb) inside_both (A.areas fine).uses (A.areas fine).stored.more (A.areas fine).short
          A.spared.size

      pub right_ask : ExprAsk s₁ d w₁ rows n top at₁ free b
      right_ask = record {
        height = Q.height;
        texts = Q.texts;
        limited = Q.right;
        visiting = record {
          ghost = ghost₁ K.before K.known K.steady K.scope K.dictionary K.scoped K.fresh;
          stands = stands₁ K.before K.known K.steady K.scope K.dictionary K.scoped K.fresh;
          scope = K.scope;
          dictionary = K.dictionary;
          scoped = scoped₁ K.before K.known K.steady K.scope K.dictionary K.scoped K.fresh;
          fresh = fresh₁ K.before K.known K.steady K.scope K.dictionary K.scoped K.fresh;
          once = once_right na nb K.once;
          size = (A.areas fine).stored.size ∙ K.size;
          clean = (A.areas fine).stored.after;
          room = inside₁;
        };
      }

      -- THE RIGHT SIDE WAS VISITED.
      module _ (s₂ w₂ : List ℕ) (number₂ place₂ cell₂ n₂ top₂ at₂ : ℕ) (B : ExprDone s₁ s₂ d w₁ w₂ rows n top at₁ free b number₂ place₂ cell₂ n₂ top₂ at₂) where
        pub right_refused : (number₂ ≡ 0 → ⊥) → (H : Items) (U : List ℕ) → Steady H U → (Γ : Scope) (D : Dictionary) → Scoped s d w rows (idle H U) Γ D → Fresh (na ++ nb) U →
            Refuses (piece k (relation_of Γ)) (MeetsIn H) number₂ place₂
        right_refused e H U S Γ D C F =
            piece_refused H k (relation_of Γ) number₂ place₂
            (stop_then s s₁ d 0 first_run n top (idle H U) (expr_items a Γ) (Owned na) (first H U S Γ D C F).advanced (expr_items b Γ ⨾ own k (type_of a) (type_of b)) number₂ place₂
            (stops_left H (skip ⨾ expr_items a Γ) (expr_items b Γ) (own k (type_of a) (type_of b)) number₂ place₂
            (B.stops e (ghost₁ H U S Γ D C F) (stands₁ H U S Γ D C F) Γ D (scoped₁ H U S Γ D C F) (fresh₁ H U S Γ D C F))))

        pub sides_spared : Spared w w₂ rows free
        sides_spared = spared_on w w₁ w₂ rows free A.spared B.spared

        module _ (fine₂ : number₂ ≡ 0) where
          pub sides_stored : Stored s s₂ at at₂
          sides_stored = stored_on s s₁ s₂ at at₁ at₂ (A.areas fine).stored (B.areas fine₂).stored

          -- the words of both sides end in the pool
          pub sides_low : at₂ < pool_size
          sides_low =
              let x = (A.areas fine).short in
              let y = (B.areas fine₂).short in
              let z = K.room.pool in
              let e = Q.enough in
              let l = length-append na nb in
              omega arith

          module _ (H : Items) (U : List ℕ) (S : Steady H U) (Γ : Scope) (D : Dictionary) (C : Scoped s d w rows (idle H U) Γ D) (F : Fresh (na ++ nb) U) where
            abbrev G₁ : Ghost
            G₁ = ghost₁ H U S Γ D C F

            second : Introduced s₁ s₂ d n top n₂ top₂ G₁ (expr_items b Γ) (Owned nb) (slot (expr_node b) 0) cell₂
            second = B.goes fine₂ G₁ (stands₁ H U S Γ D C F) Γ D (scoped₁ H U S Γ D C F) (fresh₁ H U S Γ D C F)

            abbrev ghost₂ : Ghost
            ghost₂ = next s₁ s₂ d n top n₂ top₂ G₁ (expr_items b Γ) (Owned nb) second.advanced

            stands₂ : Stands s₂ d n₂ top₂ ghost₂
            stands₂ = next_stands s₁ s₂ d n top n₂ top₂ G₁ (expr_items b Γ) (Owned nb) second.advanced K.few

            left_cell : Cell s₂ d n₂ ghost₂ cell (type_of a)
            left_cell =
                next_cell s₁ s₂ d n top n₂ top₂ G₁ (expr_items b Γ) (Owned nb) second.advanced cell (type_of a)
                (placed_cell s s₁ d 0 first_run n top (idle H U) (expr_items a Γ) (Owned na) (first H U S Γ D C F).advanced (slot (expr_node a) 0) cell (first H U S Γ D C F).placed)

            right_cell : Cell s₂ d n₂ ghost₂ cell₂ (type_of b)
            right_cell = placed_cell s₁ s₂ d n top n₂ top₂ G₁ (expr_items b Γ) (Owned nb) second.advanced (slot (expr_node b) 0) cell₂ second.placed

          -- One cell more.
          room : Room s₂ n₂ top₂ 1
          room =
              let I = inside_next s₁ s₂ w₁ w₂ rows n top n₂ top₂ at₁ at₂ free Q.height (length nb) 0
              (inside_part s₁ w₁ rows n top at₁ free Q.height Q.height (length nb + 0) (length nb) inside₁ (omega arith) (omega arith))
              (B.areas fine₂).uses (B.areas fine₂).stored.more (B.areas fine₂).short B.spared.size in
              room_less s₂ n₂ top₂ 1 (node_cells * (24 - I.visited) + node_cells) (omega arith) I.store

          pub sides_ask : Working s₂ d n₂ top₂ 1 (cell ∷ cell₂ ∷ [])
          sides_ask =
              let G = ghost₂ K.before K.known K.steady K.scope K.dictionary K.scoped K.fresh in
              record {
                ghost = G;
                stands = stands₂ K.before K.known K.steady K.scope K.dictionary K.scoped K.fresh;
                terms = cons (type_of a) (cons (type_of b) nil);
                cells =
                    two_cells s₂ d n₂ G cell cell₂ (type_of a) (type_of b)
                    (left_cell K.before K.known K.steady K.scope K.dictionary K.scoped K.fresh)
                    (right_cell K.before K.known K.steady K.scope K.dictionary K.scoped K.fresh);
                room = room;
              }

          -- THE RELATION.
          module _ (s₃ : List ℕ) (number₃ n₃ : ℕ) (R : Related s₂ s₃ d n₂ top₂ cell cell₂ number₃ n₃ own) where
            pub own_refused : (number₃ ≡ 0 → ⊥) → (H : Items) (U : List ℕ) → Steady H U → (Γ : Scope) (D : Dictionary) → Scoped s d w rows (idle H U) Γ D → Fresh (na ++ nb) U →
                Refuses (piece k (relation_of Γ)) (MeetsIn H) number₃ k
            own_refused e H U S Γ D C F =
                piece_refused H k (relation_of Γ) number₃ k
                (stop_then s s₁ d 0 first_run n top (idle H U) (expr_items a Γ) (Owned na) (first H U S Γ D C F).advanced (expr_items b Γ ⨾ own k (type_of a) (type_of b)) number₃ k
                (stop_then s₁ s₂ d n top n₂ top₂ (ghost₁ H U S Γ D C F) (expr_items b Γ) (Owned nb) (second H U S Γ D C F).advanced (own k (type_of a) (type_of b)) number₃ k
                (R.stops e (ghost₂ H U S Γ D C F) (stands₂ H U S Γ D C F) k (type_of a) (type_of b) (left_cell H U S Γ D C F) (right_cell H U S Γ D C F))))

            module _ (fine₃ : number₃ ≡ 0) where
              module _ (H : Items) (U : List ℕ) (S : Steady H U) (Γ : Scope) (D : Dictionary) (C : Scoped s d w rows (idle H U) Γ D) (F : Fresh (na ++ nb) U) where
                third : Passed s₂ s₃ d n₂ top₂ n₃ k (ghost₂ H U S Γ D C F) (own k (type_of a) (type_of b))
                third =
                    R.goes fine₃ (ghost₂ H U S Γ D C F) (stands₂ H U S Γ D C F) k (type_of a) (type_of b) (left_cell H U S Γ D C F) (right_cell H U S Γ D C F)

                abbrev N : List ℕ
                N = (na ++ nb) ++ (k ∷ [])

                whole : Advanced s s₃ d 0 first_run n₃ third.top' (idle H U) (relation_of Γ) (Owned N)
                whole =
                    advance_then s s₁ d 0 first_run n top (idle H U) (expr_items a Γ) (Owned N)
                    (wider_mine s s₁ d 0 first_run n top (idle H U) (expr_items a Γ) (Owned na) (first H U S Γ D C F).advanced (Owned N) (λ x o. owned_left (na ++ nb) (k ∷ []) x (owned_left na nb x o)))
                    (expr_items b Γ ⨾ own k (type_of a) (type_of b)) s₃ n₃ third.top'
                    (advance_then s₁ s₂ d n top n₂ top₂ (ghost₁ H U S Γ D C F) (expr_items b Γ) (Owned N)
                    (wider_mine s₁ s₂ d n top n₂ top₂ (ghost₁ H U S Γ D C F) (expr_items b Γ) (Owned nb) (second H U S Γ D C F).advanced (Owned N)
                    (λ x o. owned_left (na ++ nb) (k ∷ []) x (owned_right na nb x o)))
                    (own k (type_of a) (type_of b)) s₃ n₃ third.top'
                    (wider_mine s₂ s₃ d n₂ top₂ n₃ third.top' (ghost₂ H U S Γ D C F) (own k (type_of a) (type_of b)) (SlotOf k) third.advanced (Owned N) (owned_in k N (last_in (na ++ nb) k))))

                -- THE PIECE IS CLOSED.
                pub relation_went : (s₄ : List ℕ) → Closed s₃ s₄ d n₃ true → Went H (piece k (relation_of Γ)) U N
                relation_went s₄ Z = record { unknowns = whole.mentioned; walked = piece_walked s s₃ s₄ d n₃ third.top' H U k (relation_of Γ) (Owned N) whole K.few Z }

                pub relation_several : (s₄ : List ℕ) → Closed s₃ s₄ d n₃ false → Refuses (piece k (relation_of Γ)) (MeetsIn H) 34 k
                relation_several s₄ Z = piece_several s s₃ s₄ d n₃ third.top' H U k (relation_of Γ) (Owned N) whole K.few Z

              pub close_ask : Closing s₃ d n₃
              close_ask =
                  let P = third K.before K.known K.steady K.scope K.dictionary K.scoped K.fresh in
                  let G = ghost₂ K.before K.known K.steady K.scope K.dictionary K.scoped K.fresh in
                  record {
                    top = P.top';
                    ready = record {
                      ghost = next s₂ s₃ d n₂ top₂ n₃ P.top' G (own k (type_of a) (type_of b)) (SlotOf k) P.advanced;
                      stands = next_stands s₂ s₃ d n₂ top₂ n₃ P.top' G (own k (type_of a) (type_of b)) (SlotOf k) P.advanced K.few;
                    };
                  }
