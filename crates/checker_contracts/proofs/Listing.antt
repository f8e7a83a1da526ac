-- Expressions with a list of operands: Set, Tuple, Product, and Ref with its actuals.
use mathlib.Core.Path.{◌≡◌, refl, ap, subst, ◌∙◌}
use mathlib.Core.List.{List, [], ◌∷◌, ◌++◌}
use mathlib.Core.Logic.{inl}
use Prim.Native.Nat.{ℕ, ◌+◌, ◌-◌, ◌≤◌, ◌<◌, ◌*◌}
use native.Mathlib.Omega.{arith}
use lib.ListN.{length, take}
use Rattle.reader_rules.specs.Tree.{Expr, Exprs, exprs_length}
use Rattle.reader_rules.specs.TreeNumbers.{exprs_numbers}
use Rattle.checker_rules.specs.Conditions.{types_of}
use Rattle.checker_rules.specs.Items.{Items, ◌⨾◌}
use Rattle.checker_rules.specs.Rules.{exprs_items, reference_items}
use Rattle.checker_rules.specs.Scopes.{Scope, name_at}
use Rattle.checker_rules.specs.Unknowns.{slot}
use Rattle.types_cells.specs.Layout.{pool_size}
use Rattle.types_cells.specs.Store.{run}
use Rattle.checker_pieces.specs.Stage.{Ghost, node_cells}
use Rattle.checker_pieces.specs.Building.{Cells, Building}
use Rattle.checker_pieces.proofs.Stages.{building}
use Rattle.checker_kinds.specs.Formers.{Operating, DerivedList}
use Rattle.checker_lookup.specs.References.{Referring, ReferringWith, RefersWith}
use Rattle.checker_lookup.specs.Thetas.{ThetaAsked}
use Rattle.checker_contracts.specs.Expressions.{Visiting, ExprAsk, ExprDone, ExprsAsk, ExprsDone}
use Rattle.checker_contracts.specs.Parts.{nothing, Part, Ending}
use Rattle.checker_contracts.specs.Shapes.{Listing}
use Rattle.checker_contracts.proofs.Nodes.{unvisited}
use Rattle.checker_contracts.proofs.Visiting.{visiting_part, visiting_low}
use Rattle.checker_contracts.proofs.Parts.{part_then, part_stops, part_next, part_leaves}
use Rattle.checker_contracts.proofs.Operands.{exprs_part, exprs_ending, expr_done, listed_ending, refers_ending}
use Rattle.checker_contracts.proofs.Expressions.{node_room}
use Rattle.checker_contracts.proofs.Lists.{run_take}

-- A NAME MAY BE LOOKED UP at node k.
unfoldable pub node_referring : (s d w : List ℕ) (rows n top at free h k : ℕ) → Visiting s d w rows n top at free h (k ∷ []) → Referring s d w n top rows
node_referring s d w rows n top at free h k K =
    let a = K.room.stack in
    let b = K.room.wide in
    record {
      ghost = K.ghost;
      stands = K.stands;
      node = k;
      unvisited = unvisited (k ∷ []) K.ghost.mentioned K.fresh k (inl refl);
      scope = K.scope;
      dictionary = K.dictionary;
      scoped = K.scoped;
      table = omega arith;
      room = node_room s d w rows n top at free h k node_cells K (omega arith);
    }

-- Theta's rows have room in the work area.
pub node_theta : (s d w : List ℕ) (rows n top at free h k stroke : ℕ) → Visiting s d w rows n top at free h (k ∷ []) → stroke < 4 → ThetaAsked s d w n top rows free stroke
node_theta s d w rows n top at free h k stroke K p =
    let a = K.room.stack in
    let b = K.room.wide in
    let c = K.room.low in
    let f = K.room.frames in
    record { referring = node_referring s d w rows n top at free h k K; below = omega arith; above = omega arith; free = omega arith; stroke = p }

module _ (s d w : List ℕ) (rows n top at free : ℕ) (e : Expr) (xs : Exprs) (k : ℕ) (own : Scope → Items) (S : Listing e xs k own) (K : ExprAsk s d w rows n top at free e)
    (parts : List ℕ) (fit : exprs_length xs ≤ length parts) where
  abbrev l : List ℕ
  l = exprs_numbers xs

  unfoldable pub listing_visiting : Visiting s d w rows n top at free K.height (l ++ (k ∷ []))
  listing_visiting = subst (Visiting s d w rows n top at free K.height) S.numbers K.visiting

  pub listing_ask : ExprsAsk s d w rows n top at free xs parts 0
  listing_ask = record {
    height = K.height - 1;
    texts = K.texts;
    limited = (S.limited K.height K.texts K.limited).1;
    visiting = visiting_part s d w rows n top at free K.height (K.height - 1) l (k ∷ []) listing_visiting (omega arith);
    wide = omega arith;
  }

  module _ (s₁ w₁ parts₁ : List ℕ) (number place n₁ top₁ at₁ : ℕ) (E : ExprsDone s s₁ d w w₁ rows n top at free xs parts parts₁ 0 number place n₁ top₁ at₁) where
    pub listing_stops : (number ≡ 0 → ⊥) → (cell : ℕ) → ExprDone s s₁ d w w₁ rows n top at free e number place cell n₁ top₁ at₁
    listing_stops ne cell =
        expr_done s s₁ d w w₁ rows n top at free e k (λ Γ. exprs_items xs Γ ⨾ own Γ) (l ++ (k ∷ [])) number place cell n₁ top₁ at₁ S.items S.numbers S.node
        (part_stops s s₁ d w w₁ rows n top at free (exprs_items xs) own l (k ∷ []) nothing 0 (slot k 0) number place 0 cell n₁ top₁ at₁ ne
        (exprs_ending s s₁ d w w₁ rows n top at free xs parts parts₁ 0 number place n₁ top₁ at₁ E ne nothing 0 0))

    module _ (z : number ≡ 0) (m : ℕ) (count : exprs_length xs ≡ m) where
      abbrev P : Part s s₁ d w w₁ rows n top n₁ top₁ at at₁ free (exprs_items xs) l nothing (λ Γ D G. Cells s₁ d n₁ G (run parts₁ 0 (exprs_length xs)) (types_of xs))
      P = exprs_part s s₁ d w w₁ rows n top at free xs parts parts₁ 0 number place n₁ top₁ at₁ E z

      abbrev L : Visiting s₁ d w₁ rows n₁ top₁ at₁ free K.height (k ∷ [])
      L = part_next s s₁ d w w₁ rows n top n₁ top₁ at at₁ free K.height (exprs_items xs) l (k ∷ []) nothing (λ Γ D G. Cells s₁ d n₁ G (run parts₁ 0 (exprs_length xs)) (types_of xs)) listing_visiting P tt

      C : Cells s₁ d n₁ L.ghost (run parts₁ 0 (exprs_length xs)) (types_of xs)
      C = part_leaves s s₁ d w w₁ rows n top n₁ top₁ at at₁ free K.height (exprs_items xs) l (k ∷ []) nothing (λ Γ D G. Cells s₁ d n₁ G (run parts₁ 0 (exprs_length xs)) (types_of xs)) listing_visiting P tt

      taken : run parts₁ 0 (exprs_length xs) ≡ take m parts₁
      taken = run_take parts₁ (exprs_length xs) ∙ ap (λ q. take q parts₁) count

      pub listing_fit : m ≤ length parts₁
      listing_fit = let a = E.size in omega arith

      pub listing_operating : (r : ℕ) → r ≤ 2 * node_cells → Operating s₁ d n₁ top₁ r (take m parts₁)
      listing_operating r p = record {
        ghost = L.ghost;
        stands = L.stands;
        exprs = xs;
        cells = subst (λ v. Cells s₁ d n₁ L.ghost v (types_of xs)) taken C;
        room = node_room s₁ d w₁ rows n₁ top₁ at₁ free K.height k r L p;
      }

      pub listing_building : (r : ℕ) → r ≤ 2 * node_cells → Building s₁ n₁ top₁ r (take m parts₁)
      listing_building r p = let O = listing_operating r p in building s₁ d n₁ top₁ r O.ghost O.stands O.room (take m parts₁) (types_of O.exprs) O.cells

      listing_from : (s₂ : List ℕ) (answer cell n₂ top₂ : ℕ) →
          Ending s₁ s₂ d w₁ w₁ rows n₁ top₁ at₁ free own (k ∷ []) (λ Γ D G. Cells s₁ d n₁ G (run parts₁ 0 (exprs_length xs)) (types_of xs)) (slot k 0) answer k cell n₂ top₂ at₁ →
          ExprDone s s₂ d w w₁ rows n top at free e answer k cell n₂ top₂ at₁
      listing_from s₂ answer cell n₂ top₂ F =
          let K' = listing_visiting in
          let q = visiting_low s d w rows n top at free K.height (l ++ (k ∷ [])) K' in
          expr_done s s₂ d w w₁ rows n top at free e k (λ Γ. exprs_items xs Γ ⨾ own Γ) (l ++ (k ∷ [])) answer k cell n₂ top₂ at₁ S.items S.numbers S.node
          (part_then s s₁ s₂ d w w₁ w₁ rows n top n₁ top₁ at at₁ free (exprs_items xs) own l (k ∷ []) nothing (λ Γ D G. Cells s₁ d n₁ G (run parts₁ 0 (exprs_length xs)) (types_of xs)) (slot k 0) answer k cell n₂ top₂ at₁
          K'.size K'.clean K'.room.some q K'.once P F)

      low₁ : at₁ ≤ pool_size
      low₁ = let q = visiting_low s₁ d w₁ rows n₁ top₁ at₁ free K.height (k ∷ []) L in omega arith

      -- Set, Tuple, Product
      pub listing_done : (s₂ : List ℕ) (answer cell n₂ top₂ used : ℕ) (rule : ℕ → Exprs → Items) → ((Γ : Scope) → own Γ ≡ rule k xs) → used ≤ node_cells → length s₂ ≡ length s₁ →
          DerivedList s₁ s₂ d n₁ top₁ (take m parts₁) answer cell n₂ top₂ used rule → ExprDone s s₂ d w w₁ rows n top at free e answer k cell n₂ top₂ at₁
      listing_done s₂ answer cell n₂ top₂ used rule same few size R =
          let F = listed_ending s₁ s₂ d w₁ rows n₁ top₁ at₁ free k answer cell n₂ top₂ used size low₁ L.clean few (take m parts₁) rule R xs in
          listing_from s₂ answer cell n₂ top₂ record {
            spared = F.spared;
            areas = F.areas;
            goes = λ y G St Γ D Q f b. rw (same Γ) (F.goes y G St Γ D Q f (subst (λ v. Cells s₁ d n₁ G v (types_of xs)) taken b));
            stops = λ ne G St Γ D Q f b. rw (same Γ) (F.stops ne G St Γ D Q f (subst (λ v. Cells s₁ d n₁ G v (types_of xs)) taken b));
          }

      actuals : (G : Ghost) → Cells s₁ d n₁ G (run parts₁ 0 (exprs_length xs)) (types_of xs) → Cells s₁ d n₁ G (run parts₁ 0 m) (types_of xs)
      actuals G b = subst (λ q. Cells s₁ d n₁ G (run parts₁ 0 q) (types_of xs)) count b

      -- Ref
      pub listing_referring : ReferringWith s₁ d w₁ n₁ top₁ rows parts₁ m
      unfolding node_referring
      listing_referring = record { referring = node_referring s₁ d w₁ rows n₁ top₁ at₁ free K.height k L; expressions = xs; actuals = actuals L.ghost C; within = listing_fit }

      pub listing_refers : (s₂ : List ℕ) (id answer cell n₂ top₂ : ℕ) → ((Γ : Scope) → own Γ ≡ reference_items k xs (name_at id Γ)) → length s₂ ≡ length s₁ →
          RefersWith s₁ s₂ d w₁ n₁ top₁ rows id parts₁ m answer cell n₂ top₂ → ExprDone s s₂ d w w₁ rows n top at free e answer k cell n₂ top₂ at₁
      listing_refers s₂ id answer cell n₂ top₂ same size R =
          let F = refers_ending s₁ s₂ d w₁ rows n₁ top₁ at₁ free k answer cell n₂ top₂ node_cells size low₁ L.clean id parts₁ m R xs in
          listing_from s₂ answer cell n₂ top₂ record {
            spared = F.spared;
            areas = F.areas;
            goes = λ y G St Γ D Q f b. rw (same Γ) (F.goes y G St Γ D Q f (actuals G b));
            stops = λ ne G St Γ D Q f b. rw (same Γ) (F.stops ne G St Γ D Q f (actuals G b));
          }
