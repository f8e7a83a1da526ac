-- Expressions with no, one or two operands: what is asked of their operands and of their rules, and what follows.
use mathlib.Core.Path.{◌≡◌, subst}
use mathlib.Core.List.{List, [], ◌∷◌, ◌++◌}
use Prim.Native.Nat.{ℕ, ◌+◌, ◌-◌, ◌≤◌, ◌*◌}
use native.Mathlib.Omega.{arith}
use lib.ListN.{length}
use Rattle.reader_rules.specs.Tree.{Expr, expr_node}
use Rattle.reader_rules.specs.TreeNumbers.{expr_numbers}
use Rattle.types_rules.specs.Types.{Term, nil, cons}
use Rattle.checker_rules.specs.Conditions.{type_of}
use Rattle.checker_rules.specs.Items.{Items, ◌⨾◌}
use Rattle.checker_rules.specs.Rules.{expr_items}
use Rattle.checker_rules.specs.Scopes.{Scope}
use Rattle.checker_rules.specs.Unknowns.{slot}
use Rattle.checker_pieces.specs.Stage.{Room, Cell, node_cells}
use Rattle.checker_pieces.specs.Building.{Building, Working}
use Rattle.checker_pieces.proofs.Stages.{building, no_cells, one_cell, two_cells}
use Rattle.checker_kinds.specs.Equations.{Combined}
use Rattle.checker_kinds.specs.Formers.{Derived}
use Rattle.checker_contracts.specs.Expressions.{Visiting, ExprAsk, ExprDone}
use Rattle.checker_contracts.specs.Parts.{nothing, Part, Ending}
use Rattle.checker_contracts.specs.Shapes.{Alone, Over, Joining}
use Rattle.checker_contracts.proofs.Rooms.{inside_room}
use Rattle.checker_contracts.proofs.Visiting.{visiting_part, visiting_low}
use Rattle.checker_contracts.proofs.Parts.{part_then, part_stops, part_next, part_leaves}
use Rattle.checker_contracts.proofs.Operands.{expr_part, expr_part_beside, expr_ending, expr_done, derived_ending, combined_ending}
use Rattle.types_cells.specs.Layout.{pool_size}

-- The rule of a node has room for 80 cells.
pub node_room : (s d w : List ℕ) (rows n top at free h k r : ℕ) → Visiting s d w rows n top at free h (k ∷ []) → r ≤ 2 * node_cells → Room s n top r
node_room s d w rows n top at free h k r K p = inside_room s w rows n top at free h 0 r K.room p

-- NO OPERAND.
module _ (s d w : List ℕ) (rows n top at free : ℕ) (e : Expr) (k : ℕ) (own : Scope → Items) (S : Alone e k own) (K : ExprAsk s d w rows n top at free e) where
  unfoldable pub alone_visiting : Visiting s d w rows n top at free K.height (k ∷ [])
  alone_visiting = subst (Visiting s d w rows n top at free K.height) S.numbers K.visiting

  pub alone_building : (r : ℕ) → r ≤ 2 * node_cells → Building s n top r []
  alone_building r p =
      let L = alone_visiting in
      building s d n top r L.ghost L.stands (node_room s d w rows n top at free K.height k r L p) [] nil (no_cells s d n L.ghost)

  pub alone_low : at ≤ pool_size
  alone_low = let l = visiting_low s d w rows n top at free K.height (k ∷ []) alone_visiting in omega arith

  pub alone_done : (s' w' : List ℕ) (number place cell n' top' at' : ℕ) → Ending s s' d w w' rows n top at free own (k ∷ []) nothing (slot k 0) number place cell n' top' at' →
      ExprDone s s' d w w' rows n top at free e number place cell n' top' at'
  alone_done s' w' number place cell n' top' at' E = expr_done s s' d w w' rows n top at free e k own (k ∷ []) number place cell n' top' at' S.items S.numbers S.node E

-- ONE OPERAND.
module _ (s d w : List ℕ) (rows n top at free : ℕ) (e a : Expr) (k : ℕ) (own : ℕ → Term → Items) (S : Over e a k (own k)) (K : ExprAsk s d w rows n top at free e) where
  abbrev l : List ℕ
  l = expr_numbers a

  unfoldable pub over_visiting : Visiting s d w rows n top at free K.height (l ++ (k ∷ []))
  over_visiting = subst (Visiting s d w rows n top at free K.height) S.numbers K.visiting

  pub over_ask : ExprAsk s d w rows n top at free a
  over_ask = let L = S.limited K.height K.texts K.limited in record {
    height = K.height - 1;
    texts = K.texts;
    limited = L.1;
    visiting = visiting_part s d w rows n top at free K.height (K.height - 1) l (k ∷ []) over_visiting (omega arith);
  }

  module _ (s₁ w₁ : List ℕ) (number place x n₁ top₁ at₁ : ℕ) (E : ExprDone s s₁ d w w₁ rows n top at free a number place x n₁ top₁ at₁) where
    pub over_stops : (number ≡ 0 → ⊥) → (cell : ℕ) → ExprDone s s₁ d w w₁ rows n top at free e number place cell n₁ top₁ at₁
    over_stops ne cell =
        expr_done s s₁ d w w₁ rows n top at free e k (λ Γ. expr_items a Γ ⨾ own k (type_of a)) (l ++ (k ∷ [])) number place cell n₁ top₁ at₁ S.items S.numbers S.node
        (part_stops s s₁ d w w₁ rows n top at free (expr_items a) (λ Γ. own k (type_of a)) l (k ∷ []) nothing (slot (expr_node a) 0) (slot k 0) number place x cell n₁ top₁ at₁ ne
        (expr_ending s s₁ d w w₁ rows n top at free a number place x n₁ top₁ at₁ E nothing))

    module _ (z : number ≡ 0) where
      abbrev P : Part s s₁ d w w₁ rows n top n₁ top₁ at at₁ free (expr_items a) l nothing (λ Γ D G. Cell s₁ d n₁ G x (type_of a))
      P = expr_part s s₁ d w w₁ rows n top at free a number place x n₁ top₁ at₁ E z

      abbrev L : Visiting s₁ d w₁ rows n₁ top₁ at₁ free K.height (k ∷ [])
      L = part_next s s₁ d w w₁ rows n top n₁ top₁ at at₁ free K.height (expr_items a) l (k ∷ []) nothing (λ Γ D G. Cell s₁ d n₁ G x (type_of a)) over_visiting P tt

      C : Cell s₁ d n₁ L.ghost x (type_of a)
      C = part_leaves s s₁ d w w₁ rows n top n₁ top₁ at at₁ free K.height (expr_items a) l (k ∷ []) nothing (λ Γ D G. Cell s₁ d n₁ G x (type_of a)) over_visiting P tt

      pub over_working : (r : ℕ) → r ≤ 2 * node_cells → Working s₁ d n₁ top₁ r (x ∷ [])
      over_working r p = record {
        ghost = L.ghost;
        stands = L.stands;
        terms = cons (type_of a) nil;
        cells = one_cell s₁ d n₁ L.ghost x (type_of a) C;
        room = node_room s₁ d w₁ rows n₁ top₁ at₁ free K.height k r L p;
      }

      pub over_done : (s₂ : List ℕ) (answer cell n₂ top₂ used : ℕ) → used ≤ node_cells → length s₂ ≡ length s₁ → Derived s₁ s₂ d n₁ top₁ x answer cell n₂ top₂ used own →
          ExprDone s s₂ d w w₁ rows n top at free e answer k cell n₂ top₂ at₁
      over_done s₂ answer cell n₂ top₂ used few size R =
          let K' = over_visiting in
          let q = visiting_low s d w rows n top at free K.height (l ++ (k ∷ [])) K' in
          let q₁ = visiting_low s₁ d w₁ rows n₁ top₁ at₁ free K.height (k ∷ []) L in
          expr_done s s₂ d w w₁ rows n top at free e k (λ Γ. expr_items a Γ ⨾ own k (type_of a)) (l ++ (k ∷ [])) answer k cell n₂ top₂ at₁ S.items S.numbers S.node
          (part_then s s₁ s₂ d w w₁ w₁ rows n top n₁ top₁ at at₁ free (expr_items a) (λ Γ. own k (type_of a)) l (k ∷ []) nothing (λ Γ D G. Cell s₁ d n₁ G x (type_of a)) (slot k 0) answer k cell n₂ top₂ at₁
          K'.size K'.clean K'.room.some q K'.once P
          (derived_ending s₁ s₂ d w₁ rows n₁ top₁ at₁ free k answer cell n₂ top₂ used size (omega arith) L.clean few x own R (type_of a)))

-- TWO OPERANDS.
module _ (s d w : List ℕ) (rows n top at free : ℕ) (e a b : Expr) (k : ℕ) (own : ℕ → Term → Term → Items) (S : Joining e a b k (own k)) (K : ExprAsk s d w rows n top at free e) where
  abbrev l₁ : List ℕ
  l₁ = expr_numbers a

  abbrev l₂ : List ℕ
  l₂ = expr_numbers b

  abbrev rest : List ℕ
  rest = l₂ ++ (k ∷ [])

  abbrev rest_items : Scope → Items
  rest_items Γ = expr_items b Γ ⨾ own k (type_of a) (type_of b)

  unfoldable pub joining_visiting : Visiting s d w rows n top at free K.height (l₁ ++ rest)
  joining_visiting = subst (Visiting s d w rows n top at free K.height) S.numbers K.visiting

  pub joining_ask : ExprAsk s d w rows n top at free a
  joining_ask = let M = S.limited K.height K.texts K.limited in record {
    height = K.height - 1;
    texts = K.texts;
    limited = M.1;
    visiting = visiting_part s d w rows n top at free K.height (K.height - 1) l₁ rest joining_visiting (omega arith);
  }

  -- the first
  module _ (s₁ w₁ : List ℕ) (number₁ place₁ x n₁ top₁ at₁ : ℕ) (E₁ : ExprDone s s₁ d w w₁ rows n top at free a number₁ place₁ x n₁ top₁ at₁) where
    pub joining_stops : (number₁ ≡ 0 → ⊥) → (cell : ℕ) → ExprDone s s₁ d w w₁ rows n top at free e number₁ place₁ cell n₁ top₁ at₁
    joining_stops ne cell =
        expr_done s s₁ d w w₁ rows n top at free e k (λ Γ. expr_items a Γ ⨾ rest_items Γ) (l₁ ++ rest) number₁ place₁ cell n₁ top₁ at₁ S.items S.numbers S.node
        (part_stops s s₁ d w w₁ rows n top at free (expr_items a) rest_items l₁ rest nothing (slot (expr_node a) 0) (slot k 0) number₁ place₁ x cell n₁ top₁ at₁ ne
        (expr_ending s s₁ d w w₁ rows n top at free a number₁ place₁ x n₁ top₁ at₁ E₁ nothing))

    module _ (z₁ : number₁ ≡ 0) where
      abbrev First : Part s s₁ d w w₁ rows n top n₁ top₁ at at₁ free (expr_items a) l₁ nothing (λ Γ D G. Cell s₁ d n₁ G x (type_of a))
      First = expr_part s s₁ d w w₁ rows n top at free a number₁ place₁ x n₁ top₁ at₁ E₁ z₁

      abbrev M₁ : Visiting s₁ d w₁ rows n₁ top₁ at₁ free K.height rest
      M₁ = part_next s s₁ d w w₁ rows n top n₁ top₁ at at₁ free K.height (expr_items a) l₁ rest nothing (λ Γ D G. Cell s₁ d n₁ G x (type_of a)) joining_visiting First tt

      C₁ : Cell s₁ d n₁ M₁.ghost x (type_of a)
      C₁ = part_leaves s s₁ d w w₁ rows n top n₁ top₁ at at₁ free K.height (expr_items a) l₁ rest nothing (λ Γ D G. Cell s₁ d n₁ G x (type_of a)) joining_visiting First tt

      pub joining_then_ask : ExprAsk s₁ d w₁ rows n₁ top₁ at₁ free b
      joining_then_ask = let M = S.limited K.height K.texts K.limited in record {
        height = K.height - 1;
        texts = K.texts;
        limited = M.2;
        visiting = visiting_part s₁ d w₁ rows n₁ top₁ at₁ free K.height (K.height - 1) l₂ (k ∷ []) M₁ (omega arith);
      }

      -- after the first, with what follows
      joining_from : (s₂ w₂ : List ℕ) (number place cell n₂ top₂ at₂ : ℕ) →
          Ending s₁ s₂ d w₁ w₂ rows n₁ top₁ at₁ free rest_items rest (λ Γ D G. Cell s₁ d n₁ G x (type_of a)) (slot k 0) number place cell n₂ top₂ at₂ →
          ExprDone s s₂ d w w₂ rows n top at free e number place cell n₂ top₂ at₂
      joining_from s₂ w₂ number place cell n₂ top₂ at₂ E =
          let K' = joining_visiting in
          let q = visiting_low s d w rows n top at free K.height (l₁ ++ rest) K' in
          expr_done s s₂ d w w₂ rows n top at free e k (λ Γ. expr_items a Γ ⨾ rest_items Γ) (l₁ ++ rest) number place cell n₂ top₂ at₂ S.items S.numbers S.node
          (part_then s s₁ s₂ d w w₁ w₂ rows n top n₁ top₁ at at₁ free (expr_items a) rest_items l₁ rest nothing (λ Γ D G. Cell s₁ d n₁ G x (type_of a)) (slot k 0) number place cell n₂ top₂ at₂
          K'.size K'.clean K'.room.some q K'.once First E)

      -- the second
      module _ (s₂ w₂ : List ℕ) (number₂ place₂ y n₂ top₂ at₂ : ℕ) (E₂ : ExprDone s₁ s₂ d w₁ w₂ rows n₁ top₁ at₁ free b number₂ place₂ y n₂ top₂ at₂) where
        pub joining_then_stops : (number₂ ≡ 0 → ⊥) → (cell : ℕ) → ExprDone s s₂ d w w₂ rows n top at free e number₂ place₂ cell n₂ top₂ at₂
        joining_then_stops ne cell =
            joining_from s₂ w₂ number₂ place₂ cell n₂ top₂ at₂
            (part_stops s₁ s₂ d w₁ w₂ rows n₁ top₁ at₁ free (expr_items b) (λ Γ. own k (type_of a) (type_of b)) l₂ (k ∷ []) (λ Γ D G. Cell s₁ d n₁ G x (type_of a)) (slot (expr_node b) 0) (slot k 0) number₂ place₂ y cell n₂ top₂ at₂ ne
            (expr_ending s₁ s₂ d w₁ w₂ rows n₁ top₁ at₁ free b number₂ place₂ y n₂ top₂ at₂ E₂ (λ Γ D G. Cell s₁ d n₁ G x (type_of a))))

        module _ (z₂ : number₂ ≡ 0) where
          abbrev Second : Part s₁ s₂ d w₁ w₂ rows n₁ top₁ n₂ top₂ at₁ at₂ free (expr_items b) l₂ (λ Γ D G. Cell s₁ d n₁ G x (type_of a)) (λ Γ D G. Cell s₂ d n₂ G x (type_of a) × Cell s₂ d n₂ G y (type_of b))
          Second = expr_part_beside s₁ s₂ d w₁ w₂ rows n₁ top₁ at₁ free b number₂ place₂ y n₂ top₂ at₂ E₂ z₂ x (type_of a)

          abbrev M₂ : Visiting s₂ d w₂ rows n₂ top₂ at₂ free K.height (k ∷ [])
          M₂ = part_next s₁ s₂ d w₁ w₂ rows n₁ top₁ n₂ top₂ at₁ at₂ free K.height (expr_items b) l₂ (k ∷ []) (λ Γ D G. Cell s₁ d n₁ G x (type_of a)) (λ Γ D G. Cell s₂ d n₂ G x (type_of a) × Cell s₂ d n₂ G y (type_of b)) M₁ Second C₁

          C₂ : Cell s₂ d n₂ M₂.ghost x (type_of a) × Cell s₂ d n₂ M₂.ghost y (type_of b)
          C₂ = part_leaves s₁ s₂ d w₁ w₂ rows n₁ top₁ n₂ top₂ at₁ at₂ free K.height (expr_items b) l₂ (k ∷ []) (λ Γ D G. Cell s₁ d n₁ G x (type_of a)) (λ Γ D G. Cell s₂ d n₂ G x (type_of a) × Cell s₂ d n₂ G y (type_of b)) M₁ Second C₁

          pub joining_working : (r : ℕ) → r ≤ 2 * node_cells → Working s₂ d n₂ top₂ r (x ∷ y ∷ [])
          joining_working r p = record {
            ghost = M₂.ghost;
            stands = M₂.stands;
            terms = cons (type_of a) (cons (type_of b) nil);
            cells = two_cells s₂ d n₂ M₂.ghost x y (type_of a) (type_of b) C₂.0 C₂.1;
            room = node_room s₂ d w₂ rows n₂ top₂ at₂ free K.height k r M₂ p;
          }

          pub joining_done : (s₃ : List ℕ) (answer cell n₃ top₃ used : ℕ) → used ≤ node_cells → length s₃ ≡ length s₂ → Combined s₂ s₃ d n₂ top₂ x y answer cell n₃ top₃ used own →
              ExprDone s s₃ d w w₂ rows n top at free e answer k cell n₃ top₃ at₂
          joining_done s₃ answer cell n₃ top₃ used few size R =
              let q₁ = visiting_low s₁ d w₁ rows n₁ top₁ at₁ free K.height rest M₁ in
              let q₂ = visiting_low s₂ d w₂ rows n₂ top₂ at₂ free K.height (k ∷ []) M₂ in
              joining_from s₃ w₂ answer k cell n₃ top₃ at₂
              (part_then s₁ s₂ s₃ d w₁ w₂ w₂ rows n₁ top₁ n₂ top₂ at₁ at₂ free (expr_items b) (λ Γ. own k (type_of a) (type_of b)) l₂ (k ∷ []) (λ Γ D G. Cell s₁ d n₁ G x (type_of a))
              (λ Γ D G. Cell s₂ d n₂ G x (type_of a) × Cell s₂ d n₂ G y (type_of b)) (slot k 0) answer k cell n₃ top₃ at₂
              M₁.size M₁.clean M₁.room.some q₁ M₁.once Second
              (combined_ending s₂ s₃ d w₂ rows n₂ top₂ at₂ free k answer cell n₃ top₃ used size (omega arith) M₂.clean few x y own R (type_of a) (type_of b)))
