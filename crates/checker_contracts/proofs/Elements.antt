-- ELEMENT TYPES: the expression a of a closed piece is a power, of the unknown k of the node n that closes it; its type is stored in the pool. So the Decl's set, and each actual of
-- an Include.
use mathlib.Core.Path.{◌≡◌, refl, sym, subst, ◌∙◌}
use mathlib.Core.Bool.{Bool, true, false}
use mathlib.Core.List.{List, [], ◌∷◌}
use mathlib.Core.Logic.{◌⊎◌, inl, inr}
use Prim.Native.Nat.{ℕ, ◌+◌, ◌*◌, ◌≤◌, ◌<◌, ◌^◌, suc}
use native.Mathlib.Omega.{arith}
use lib.ListN.{length, get_or}
use Rattle.reader_rules.specs.Tree.{Expr, expr_node}
use Rattle.reader_rules.specs.TreeNumbers.{expr_numbers}
use Rattle.types_rules.specs.Equations.{In, InP}
use Rattle.types_rules.specs.Formed.{WellFormed}
use Rattle.types_rules.specs.Types.{Ty, cons, nil, under}
use Rattle.checker_rules.specs.Conditions.{type_of, is_power}
use Rattle.checker_rules.specs.Dictionary.{Dictionary}
use Rattle.checker_rules.specs.Items.{Items, skip, ◌⨾◌, piece, Passes, Refuses, MeetsIn}
use Rattle.checker_rules.specs.Rules.{expr_items}
use Rattle.checker_rules.specs.Scopes.{Scope}
use Rattle.checker_rules.specs.Unknowns.{slot, unknown_at}
use Rattle.reader_rules.proofs.Sized.{SizedExpr}
use Rattle.types_cells.specs.Layout.{first_run, area_size, pool_size}
use Rattle.types_cells.specs.Settled.{lower, heap, Reads}
use Rattle.types_instances.specs.Clean.{Clean}
use Rattle.types_instances.proofs.CleanLaws.{clean_lower}
use Rattle.types_instances.proofs.Moving.{lower_words}
use Rattle.checker_pieces.specs.Piece.{Steady, Walked, Settled}
use Rattle.checker_pieces.specs.Stage.{Ghost, Stands, SlotOf, Cell, Advanced, Room}
use Rattle.checker_pieces.specs.Building.{Introduced, Powered, Working}
use Rattle.checker_pieces.specs.Closed.{Closing, Closed, Shut, Sizing}
use Rattle.checker_pieces.proofs.ClosingLaws.{all_in_lem}
use Rattle.checker_pieces.proofs.Stages.{next, next_stands, placed_cell, next_unvisited, wider_mine, introduced_wider, introduce_then, stop_then, one_cell}
use Rattle.checker_pieces.proofs.Walks.{stops_left}
use Rattle.checker_lookup.specs.Scoped.{Scoped}
use Rattle.checker_includes.specs.Components.{StandsFor}
use Rattle.checker_includes.specs.Storing.{Stored, Scratch}
use Rattle.checker_contracts.specs.Room.{frames_at}
use Rattle.checker_contracts.specs.Visits.{Owned, Fresh, idle, Spared}
use Rattle.checker_contracts.specs.Expressions.{ExprDone}
use Rattle.checker_contracts.proofs.Nodes.{slots_same}
use Rattle.checker_contracts.proofs.Opening.{opened, piece_refused, whole, whole_stands, piece_walked, piece_several}
use Rattle.checker_contracts.proofs.Forming.{settled_formed}

-- What the closed piece comes to: its unknown has one type, which has Q, and a type that stands for it stands at the place p.
pub record Element (s d : List ℕ) (H c : Items) (U : List ℕ) (Mine : ℕ → Type 0) (n k p : ℕ) (Q : Ty → Type 0) : Type 0 where
  pub unknowns : List ℕ
  pub walked : Walked H c U unknowns Mine
  pub type : Ty
  pub settled : Settled (H ⨾ c) (unknown_at n k) type
  pub over : In (slot n k) unknowns
  pub shown : Ty
  pub reads : Reads (heap s d) p shown
  pub alike : StandsFor shown type
  pub sized : Q type

-- The unknowns of the expression, and the one of the node.
abbrev pub ElementOwned : Expr → ℕ → ℕ → ℕ → Type 0
ElementOwned a n k y = Owned (expr_numbers a) y ⊎ (y ≡ slot n k)

abbrev pub ElementNew : Expr → ℕ → ℕ → List ℕ → Type 0
ElementNew a n k U = Fresh (expr_numbers a) U × (In (slot n k) U → ⊥)

abbrev pub element_items : Expr → ℕ → ℕ → Scope → Items
element_items a n k Γ = expr_items a Γ ⨾ is_power n k a

module _ (s d w : List ℕ) (rows at free : ℕ) (a : Expr) (n k : ℕ) (big : length s ≡ area_size) (few : length d < 2 ^ 31) (apart : In n (expr_numbers a) → ⊥) (slots : k < 8)
    (s₁ w₁ : List ℕ) (number place cell c₁ top₁ at₁ : ℕ) (A : ExprDone s s₁ d w w₁ rows 0 first_run at free a number place cell c₁ top₁ at₁) where
  abbrev l : List ℕ
  l = expr_numbers a

  abbrev Mine : ℕ → Type 0
  Mine = ElementOwned a n k

  -- any items before
  module _ (Γ : Scope) (D : Dictionary) (H : Items) (U : List ℕ) (S : Steady H U) (C : Scoped s d w rows (idle H U) Γ D) (F : ElementNew a n k U) where
    abbrev own : Items
    own = expr_items a Γ

    -- the expression's finding
    pub element_stopped : (number ≡ 0 → ⊥) → Refuses (piece n (element_items a n k Γ)) (MeetsIn H) number place
    element_stopped e =
        piece_refused H n (element_items a n k Γ) number place
        (stops_left H skip own (is_power n k a) number place (A.stops e (idle H U) (opened s d H U S big few) Γ D C F.0))

    module _ (fine : number ≡ 0) where
      pub first : Introduced s s₁ d 0 first_run c₁ top₁ (idle H U) own (Owned l) (slot (expr_node a) 0) cell
      first = A.goes fine (idle H U) (opened s d H U S big few) Γ D C F.0

      abbrev G₁ : Ghost
      G₁ = next s s₁ d 0 first_run c₁ top₁ (idle H U) own (Owned l) first.advanced

      stands₁ : Stands s₁ d c₁ top₁ G₁
      stands₁ = next_stands s s₁ d 0 first_run c₁ top₁ (idle H U) own (Owned l) first.advanced few

      cell₁ : Cell s₁ d c₁ G₁ cell (type_of a)
      cell₁ = placed_cell s s₁ d 0 first_run c₁ top₁ (idle H U) own (Owned l) first.advanced (slot (expr_node a) 0) cell first.placed

      new₁ : In (slot n k) first.advanced.mentioned → ⊥
      new₁ =
          next_unvisited s s₁ d 0 first_run c₁ top₁ (idle H U) own (Owned l) first.advanced (slot n k) F.1
          (λ o. apart (subst (λ z. In z l) (slots_same o.0 n (slot n k) o.2 (k, slots, refl)) o.1))

      -- what is_power asks
      pub element_working : Room s₁ c₁ top₁ 2 → Working s₁ d c₁ top₁ 2 (cell ∷ [])
      element_working R = record { ghost = G₁; stands = stands₁; terms = cons (type_of a) nil; cells = one_cell s₁ d c₁ G₁ cell (type_of a) cell₁; room = R }

      module _ (s₂ : List ℕ) (number₂ : ℕ) (P : Powered s₁ s₂ d c₁ top₁ cell number₂) where
        -- 33, 39
        pub element_unequal : (number₂ ≡ 0 → ⊥) → Refuses (piece n (element_items a n k Γ)) (MeetsIn H) number₂ n
        element_unequal e =
            piece_refused H n (element_items a n k Γ) number₂ n
            (stop_then s s₁ d 0 first_run c₁ top₁ (idle H U) own (Owned l) first.advanced (is_power n k a) number₂ n (P.stops e G₁ stands₁ (slot n k) new₁ n (type_of a) cell₁))

        module _ (yes : number₂ ≡ 0) where
          pub both : Introduced s s₂ d 0 first_run (c₁ + 2) (top₁ + 1) (idle H U) (element_items a n k Γ) Mine (slot n k) c₁
          both =
              let Q = P.goes yes G₁ stands₁ (slot n k) new₁ n (type_of a) cell₁ in
              introduce_then s s₁ d 0 first_run c₁ top₁ (idle H U) own Mine (wider_mine s s₁ d 0 first_run c₁ top₁ (idle H U) own (Owned l) first.advanced Mine (λ y o. inl o)) (is_power n k a) s₂
              (c₁ + 2) (top₁ + 1) (slot n k) c₁
              (introduced_wider s₁ s₂ d c₁ top₁ (c₁ + 2) (top₁ + 1) G₁ (is_power n k a) (λ y. y ≡ slot n k) Q.advanced Mine (λ y o. inr o) (slot n k) c₁ Q.placed)

          -- what close asks
          pub element_closing : Closing s₂ d (c₁ + 2)
          element_closing = record {
            top = top₁ + 1;
            ready = record {
              ghost = next s s₂ d 0 first_run (c₁ + 2) (top₁ + 1) (idle H U) (element_items a n k Γ) Mine both.advanced;
              stands = next_stands s s₂ d 0 first_run (c₁ + 2) (top₁ + 1) (idle H U) (element_items a n k Γ) Mine both.advanced few;
            };
          }

          module _ (s₃ : List ℕ) where
            -- 34
            pub element_several : Closed s₂ s₃ d (c₁ + 2) false → Refuses (piece n (element_items a n k Γ)) (MeetsIn H) 34 n
            element_several Z = piece_several s s₂ s₃ d (c₁ + 2) (top₁ + 1) H U n (element_items a n k Γ) Mine both.advanced few Z

            module _ (Z : Closed s₂ s₃ d (c₁ + 2) true) where
              pub element_walked : Walked H (piece n (element_items a n k Γ)) U both.advanced.mentioned Mine
              element_walked = piece_walked s s₂ s₃ d (c₁ + 2) (top₁ + 1) H U n (element_items a n k Γ) Mine both.advanced few Z

              abbrev G₃ : Ghost
              G₃ = whole s s₂ s₃ d (c₁ + 2) (top₁ + 1) H U n (element_items a n k Γ) Mine both.advanced few

              pub shut : Shut s₃ d (c₁ + 2) G₃
              shut = Z.goes refl (top₁ + 1) G₃ (whole_stands s s₂ s₃ d (c₁ + 2) (top₁ + 1) H U n (element_items a n k Γ) Mine both.advanced few)

              -- what settled_size and store_type ask
              pub element_sizing : Sizing s₃ d (c₁ + 2) c₁
              element_sizing = record { ghost = G₃; shut = shut; made = omega arith }

              pub element_size : length s₃ ≡ area_size
              element_size =
                  (Z.stands (top₁ + 1) G₃ (whole_stands s s₂ s₃ d (c₁ + 2) (top₁ + 1) H U n (element_items a n k Γ) Mine both.advanced few)).piece.solved.held.size

              type_settled : Settled (H ⨾ piece n (element_items a n k Γ)) (unknown_at n k) (shut.type c₁)
              unfolding under
              type_settled τ m = shut.types n (slot n k) c₁ both.placed τ m

              over_mentioned : In (slot n k) both.advanced.mentioned
              over_mentioned = (all_in_lem (λ y z. In y both.advanced.mentioned × (z < c₁ + 2)) both.advanced.cells (slot n k) c₁ both.advanced.piece.tracked both.placed).0

  -- THE TYPE IS STORED at `at`.
  module _ (fine : number ≡ 0) (s₂ : List ℕ) (number₂ : ℕ) (P : Powered s₁ s₂ d c₁ top₁ cell number₂) (yes : number₂ ≡ 0) (s₃ : List ℕ) (Z : Closed s₂ s₃ d (c₁ + 2) true)
      (sized : SizedExpr a) (s₄ : List ℕ) (p : ℕ) (Q : Ty → Type 0) (measured : (G : Ghost) (S : Shut s₃ d (c₁ + 2) G) → Q (S.type c₁))
      (stands : (G : Ghost) (S : Shut s₃ d (c₁ + 2) G) → WellFormed (S.type c₁) → (h : Ty) × Reads (heap s₄ d) p h × StandsFor h (S.type c₁)) where
    pub element_done : (Γ : Scope) (D : Dictionary) (H : Items) (U : List ℕ) → Steady H U → Scoped s d w rows (idle H U) Γ D → ElementNew a n k U →
        Element s₄ d H (piece n (element_items a n k Γ)) U Mine n k p Q
    unfolding under
    element_done Γ D H U S C F =
        let W = element_walked Γ D H U S C F fine s₂ number₂ P yes s₃ Z in
        let K = shut Γ D H U S C F fine s₂ number₂ P yes s₃ Z in
        let t = type_settled Γ D H U S C F fine s₂ number₂ P yes s₃ Z in
        let τ = W.steady.some in
        let f : WellFormed (K.type c₁) =
        subst WellFormed (t τ.0 τ.1)
        (settled_formed s d w rows a (ElementNew a n k) Γ D n k (λ H' U' S' C' F'. (element_walked Γ D H' U' S' C' F' fine s₂ number₂ P yes s₃ Z).goes) sized H U C F τ.0 τ.1)
        in
        let q = stands (G₃ Γ D H U S C F fine s₂ number₂ P yes s₃ Z) K f in
        record {
          unknowns = (both Γ D H U S C F fine s₂ number₂ P yes).advanced.mentioned;
          walked = W;
          type = K.type c₁;
          settled = t;
          over = over_mentioned Γ D H U S C F fine s₂ number₂ P yes s₃ Z;
          shown = q.0;
          reads = q.1;
          alike = q.2;
          sized = measured (G₃ Γ D H U S C F fine s₂ number₂ P yes s₃ Z) K;
        }

  -- THE AREAS: the pool is as it was below `at`; the piece left it clean from at₁ on.
  module _ (fine : number ≡ 0) (s₂ : List ℕ) (number₂ : ℕ) (P : Powered s₁ s₂ d c₁ top₁ cell number₂) (s₃ : List ℕ) (o : Bool) (Z : Closed s₂ s₃ d (c₁ + 2) o) (same : length s₃ ≡ length s)
      (room : at < pool_size) where
    low₃ : lower s₃ ≡ lower s₁
    low₃ = Z.low ∙ P.low

    below₃ : (i : ℕ) → i < at → get_or s₃ i 0 ≡ get_or s i 0
    below₃ i q = lower_words s₁ s₃ low₃ i (omega arith) ∙ (A.areas fine).stored.before i q

    pub element_clean : Clean s₃ at₁
    element_clean = clean_lower s₁ s₃ at₁ (A.areas fine).stored.after low₃

    pub element_gap : Clean s at → (i : ℕ) → suc i ≡ at → get_or s₃ i 0 ≡ 0
    element_gap K i e = below₃ i (omega arith) ∙ K i (omega arith) (omega arith)

    pub element_stored : (s₄ : List ℕ) (end : ℕ) → Stored s₃ s₄ at end → Stored s s₄ at end
    element_stored s₄ end T = record { size = T.size ∙ same; before = λ i q. T.before i q ∙ below₃ i q; after = T.after; more = T.more }

  pub element_spared : (w₂ : List ℕ) → Scratch w₁ w₂ free → 2 * rows ≤ free → frames_at ≤ free → Spared w w₂ rows free
  element_spared w₂ T q low = record {
    size = T.size ∙ A.spared.size;
    scope = λ i h. T.before i (omega arith) ∙ A.spared.scope i h;
    index = λ i h r. T.before i (omega arith) ∙ A.spared.index i h r;
    frames = λ i h r. T.before i r ∙ A.spared.frames i h r;
  }
