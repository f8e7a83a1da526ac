-- SchemaSet: its piece waits while the Include is visited; then its type is the power of the binding.
use mathlib.Core.Path.{◌≡◌, refl}
use mathlib.Core.List.{List, [], ◌∷◌, ◌++◌}
use mathlib.Core.Logic.{inl, inr}
use Prim.Native.Nat.{ℕ, suc, ◌+◌, ◌*◌, ◌-◌, ◌≤◌, ◌<◌, ◌^◌}
use native.Mathlib.Omega.{arith}
use lib.ListN.{length, length-append}
use Rattle.reader_rules.specs.Limited.{LimitedExpr}
use Rattle.reader_rules.specs.Tree.{schema_set, Include, include, from, expr_node, include_node}
use Rattle.reader_rules.specs.TreeNumbers.{expr_numbers, exprs_numbers, include_numbers}
use Rattle.types_rules.specs.Types.{Term}
use Rattle.types_rules.proofs.Terms.{each_map}
use Rattle.types_rules.specs.Equations.{In}
use Rattle.checker_rules.proofs.ItemLaws.{refuses_ext}
use Rattle.checker_rules.proofs.OwnUnknowns.{schema_agrees}
use Rattle.checker_rules.specs.Conditions.{typed, small_types}
use Rattle.checker_rules.specs.Dictionary.{Dictionary}
use Rattle.checker_rules.specs.Items.{Items, ◌⨾◌, Meets, MeetsIn, Agree, And, Passes, Refuses}
use Rattle.checker_rules.specs.Rules.{expr_items, include_items, schema_items}
use Rattle.checker_rules.specs.Scopes.{Scope, include_signature}
use Rattle.checker_rules.specs.Signatures.{Signature, binding_of}
use Rattle.checker_rules.specs.Unknowns.{Valuation, slot, power_of}
use Rattle.types_cells.specs.Layout.{first_run, frozen_size, area_size, pool_size, max_cells}
use Rattle.types_cells.specs.Settled.{lower}
use Rattle.types_solver.specs.Written.{Wrote}
use Rattle.checker_signatures.specs.Rows.{rows as rows_of}
use Rattle.checker_signatures.specs.Carried.{Carries}
use Rattle.checker_signatures.proofs.CarryLaws.{carries_other}
use Rattle.types_instances.specs.Moved.{saved, restored, SaveAsk, RestoreAsk}
use Rattle.checker_pieces.specs.Piece.{Stops}
use Rattle.checker_pieces.specs.Stage.{Ghost, Stands, Room, node_cells}
use Rattle.checker_pieces.specs.Building.{Introduced}
use Rattle.checker_pieces.proofs.Walks.{Alike, and_group, passes_group, meets_alike, piece_alike}
use Rattle.checker_pieces.proofs.Stages.{next, next_stands, rule_goes, room_less}
use Rattle.checker_lookup.specs.Scoped.{SettledAt, Scoped}
use Rattle.checker_lookup.specs.Bindings.{SchemaSetAsked, SchemaSetTyped}
use Rattle.checker_lookup.proofs.Standing.{settled_kept}
use Rattle.checker_includes.specs.Components.{Placed}
use Rattle.checker_contracts.specs.Visits.{Owned, Fresh, idle}
use Rattle.checker_contracts.specs.Expressions.{Visiting, Visited, ExprAsk, ExprDone}
use Rattle.checker_contracts.specs.Includes.{BringsAsk, BringsDone}
use Rattle.checker_contracts.specs.Parts.{Fact, nothing, Passing, Step, Ending}
use Rattle.checker_contracts.proofs.Nodes.{fresh_left}
use Rattle.checker_contracts.proofs.Scopes.{spared_refl, stored_on}
use Rattle.checker_contracts.proofs.Visiting.{visiting_low}
use Rattle.checker_contracts.proofs.Parts.{step_then, part_stops, rule_ending}
use Rattle.checker_contracts.proofs.Waiting.{save_asked, waiting, restore_asked, waiting_stops, waiting_step, taken_low, taken_uses}

-- ITEMS GROUPED OTHERWISE.
pub alike_inner : (t a b c : Items) → Alike (t ⨾ ((a ⨾ b) ⨾ c)) (t ⨾ (a ⨾ (b ⨾ c)))
unfolding MeetsIn Agree Passes
alike_inner t a b c = (
  λ τ. (λ h. (h.0, (h.1.0.0, (h.1.0.1, h.1.1))), λ h. (h.0, ((h.1.0, h.1.1.0), h.1.1.1))),
  λ τ τ'. (λ h. (h.0, (h.1.0.0, (h.1.0.1, h.1.1))), λ h. (h.0, ((h.1.0, h.1.1.0), h.1.1.1))),
  λ H p. (p.0, passes_group (And (MeetsIn H) t) a b c p.1),
)

pub introduced_group : (s s' d : List ℕ) (n top n' top' : ℕ) (G : Ghost) (a b c : Items) (M : ℕ → Type 0) (x e : ℕ) →
    Introduced s s' d n top n' top' G ((a ⨾ b) ⨾ c) M x e → Introduced s s' d n top n' top' G (a ⨾ (b ⨾ c)) M x e
introduced_group s s' d n top n' top' G a b c M x e I =
    let A = I.advanced in
    record {
      advanced = record {
        equations = A.equations;
        mentioned = A.mentioned;
        cells = A.cells;
        wide = A.wide;
        goes = passes_group (MeetsIn (G.before ⨾ G.items)) a b c A.goes;
        piece = piece_alike s' d n' A.equations G.before (G.items ⨾ ((a ⨾ b) ⨾ c)) (G.items ⨾ (a ⨾ (b ⨾ c))) G.known A.mentioned A.cells (alike_inner G.items a b c) A.piece;
        above = A.above;
        later = record {
          solutions = A.later.solutions;
          items = λ τ m. A.later.items τ ((meets_alike G.before (G.items ⨾ ((a ⨾ b) ⨾ c)) (G.items ⨾ (a ⨾ (b ⨾ c))) (alike_inner G.items a b c) τ).1 m);
          unknowns = A.later.unknowns;
        };
        wider = A.wider;
        new = A.new;
      };
      placed = I.placed;
    }

pub stops_group : (H t a b c : Items) (f m : ℕ) → Stops H t ((a ⨾ b) ⨾ c) f m → Stops H t (a ⨾ (b ⨾ c)) f m
unfolding Refuses Passes
stops_group H t a b c f m (inl (inl r)) = inl r
stops_group H t a b c f m (inl (inr r)) = inr (r.0, inl r.1)
stops_group H t a b c f m (inr r) = inr (r.0.0, inr (r.0.1, refuses_ext c (And (MeetsIn (H ⨾ t)) (a ⨾ b)) (And (And (MeetsIn (H ⨾ t)) a) b) f m (and_group (MeetsIn (H ⨾ t)) a b) r.1))

-- What tables hold is settled.
pub carries_settled : (s d : List ℕ) (H : Items) (U : List ℕ) (r : Signature) (rs : List (ℕ × ℕ)) → Carries (Placed s d H U) r rs → Carries (SettledAt s d (idle H U)) r rs
unfolding MeetsIn
carries_settled s d H U r rs C =
    carries_other (Placed s d H U) (SettledAt s d (idle H U)) (λ t p P. record { over = P.typed.over; type = P.typed.type; reads = P.typed.reads; means = λ τ m. P.typed.settled τ m.0 }) r rs C

carries_moved : (s s' d : List ℕ) (G G' : Ghost) → lower s' ≡ lower s → ((x : ℕ) → In x G.mentioned → In x G'.mentioned) →
    ((τ : Valuation) → Meets (G'.before ⨾ G'.items) τ → Meets (G.before ⨾ G.items) τ) → (r : Signature) (rs : List (ℕ × ℕ)) → Carries (SettledAt s d G) r rs → Carries (SettledAt s' d G') r rs
carries_moved s s' d G G' low wider says r rs C = carries_other (SettledAt s d G) (SettledAt s' d G') other r rs C
  where
    other : (t : Term) (p : ℕ) → SettledAt s d G t p → SettledAt s' d G' t p
    other t p T =
        let T' = settled_kept s s' d G low t p T in
        record { over = each_map (λ y. In y G.mentioned) (λ y. In y G'.mentioned) wider t T'.over; type = T'.type; reads = T'.reads; means = λ τ m. T'.means τ (says τ m) }

include_some : (i : Include) → 1 ≤ length (include_numbers i)
unfolding include_numbers
include_some (include n s k xs rs) = omega (arith, length-append (exprs_numbers xs) (n ∷ []))

module _ (s d w : List ℕ) (rows n top at free : ℕ) (k : ℕ) (i : Include) (K : ExprAsk s d w rows n top at free (schema_set k i)) where
  abbrev l : List ℕ
  l = include_numbers i

  abbrev inner : Scope → Items
  inner Γ = include_items i Γ ⨾ small_types (include_node i) (include_signature i Γ)

  abbrev own : Scope → Items
  own Γ = typed k (power_of (binding_of (include_signature i Γ)))

  unfoldable sset_visiting : Visiting s d w rows n top at free K.height (l ++ (k ∷ []))
  unfolding expr_numbers
  sset_visiting = K.visiting

  deep : 1 ≤ K.height
  unfolding LimitedExpr
  deep = K.limited.0

  done : (s' w' : List ℕ) (number place cell n' top' at' : ℕ) → Ending s s' d w w' rows n top at free (λ Γ. inner Γ ⨾ own Γ) (l ++ (k ∷ [])) nothing (slot k 0) number place cell n' top' at' →
      ExprDone s s' d w w' rows n top at free (schema_set k i) number place cell n' top' at'
  unfolding expr_items expr_numbers expr_node
  done s' w' number place cell n' top' at' E = record {
    spared = E.spared;
    areas = E.areas;
    goes = λ z G St Γ D C f.
        introduced_group s s' d n top n' top' G (include_items i Γ) (small_types (include_node i) (include_signature i Γ)) (own Γ) (Owned (l ++ (k ∷ []))) (slot k 0) cell (E.goes z G St Γ D C f tt);
    stops = λ ne G St Γ D C f. stops_group G.before G.items (include_items i Γ) (small_types (include_node i) (include_signature i Γ)) (own Γ) number place (E.stops ne G St Γ D C f tt);
  }

  pub sset_save_asked : SaveAsk s n top free
  sset_save_asked = save_asked s d w w rows n top at free K.height free l (k ∷ []) sset_visiting (omega arith) deep

  module _ (w₁ : List ℕ) (e : ℕ) (S : Wrote w w₁ free e (saved s n top)) where
    pub sset_include_ask : BringsAsk s d w₁ rows at e i
    unfolding LimitedExpr
    sset_include_ask = record {
      height = K.height - 1;
      texts = K.texts;
      limited = K.limited.1;
      walking = waiting s d w w₁ rows n top at free K.height e l (k ∷ []) sset_visiting (omega arith) deep S;
    }

    module _ (s₁ w₂ : List ℕ) (number place m at₁ : ℕ) (T : BringsDone s s₁ d w₁ w₂ rows at e i number place m at₁) where
      pub sset_include_stops : (number ≡ 0 → ⊥) → (cell n' top' at' : ℕ) → ExprDone s s₁ d w w₂ rows n top at free (schema_set k i) number place cell n' top' at'
      sset_include_stops ne cell n' top' at' =
          done s₁ w₂ number place cell n' top' at'
          (part_stops s s₁ d w w₂ rows n top at free inner own l (k ∷ []) nothing 0 (slot k 0) number place 0 cell n' top' at' ne
          (waiting_stops s d w w₁ rows n top at free K.height e l (k ∷ []) sset_visiting (omega arith) deep S w₂ T.done.still inner s₁ 0 number place 0 n' top' at' ne (λ H U Z Γ D C f. T.done.stops ne H U Z Γ D C tt f)))

      module _ (z : number ≡ 0) where
        pub sset_restore_asked : RestoreAsk w₂ n top free
        sset_restore_asked = restore_asked s d w w₁ rows n top at free K.height e l (k ∷ []) sset_visiting (omega arith) deep S w₂ T.done.still

        reach : at₁ < pool_size
        reach = let p = sset_visiting.room.pool in let q = (T.done.areas z).short in let r = (T.done.areas z).few in let h = deep in omega arith

        module _ (s₂ : List ℕ) (R : s₂ ≡ restored s₁ n top w₂ free) where
          abbrev After : Fact
          After Γ D G = Carries (SettledAt s₂ d G) (include_signature i Γ) (rows_of w₂ e m)

          low₂ : lower s₂ ≡ lower s₁
          low₂ = taken_low s d w w₁ rows n top at free K.height e l (k ∷ []) sset_visiting (omega arith) deep S w₂ T.done.still s₁ s₂ at₁ (T.done.areas z).stored R

          First : Step s s₂ d w w₂ rows n top n top at at₁ free inner l nothing After
          unfolding schema_items
          First =
              waiting_step s d w w₁ rows n top at free K.height e l (k ∷ []) sset_visiting (omega arith) deep S w₂ T.done.still s₁ s₂ at₁ (T.done.areas z).stored R inner
              (λ Γ. schema_agrees (from i) Γ) (λ Γ D G. Carries (SettledAt s₁ d G) (include_signature i Γ) (rows_of w₂ e m)) After reach
              (λ H U Z Γ D C f. let q = T.done.goes z H U Z Γ D C tt f in (q.unknowns, q.walked, carries_settled s₁ d (H ⨾ inner Γ) q.unknowns (include_signature i Γ) (rows_of w₂ e m) q.signature))
              (λ Γ D G G' wider says C. carries_moved s₁ s₂ d G G' low₂ wider says (include_signature i Γ) (rows_of w₂ e m) C)

          -- the piece that stands again
          module _ (G : Ghost) (St : Stands s d n top G) (Γ : Scope) (D : Dictionary) (C : Scoped s d w rows G Γ D) (f : Fresh (l ++ (k ∷ [])) G.mentioned) where
            abbrev Q : Passing s s₂ d n top n top G (inner Γ) l (After Γ D)
            Q = First.goes G St Γ D C (fresh_left l (k ∷ []) G.mentioned f) tt

          room₂ : (r : ℕ) → r ≤ 2 * node_cells → Room s₂ n top r
          room₂ r p =
              let a = sset_visiting.room in
              let b = a.enough in
              let c = a.few in
              let g = include_some i in
              taken_uses s d w w₁ rows n top at free K.height e l (k ∷ []) sset_visiting (omega arith) deep S w₂ T.done.still s₁ s₂ at₁ (T.done.areas z).stored R 0 r
              (room_less s n top (0 + r) (node_cells * (24 - a.visited) + node_cells) (omega (arith, length-append l (k ∷ []))) a.store)

          table : e + 2 * m ≤ length w₂
          table =
              let W = waiting s d w w₁ rows n top at free K.height e l (k ∷ []) sset_visiting (omega arith) deep S in
              let a = W.room.frames in
              let b = W.room.wide in
              let c = (T.done.areas z).few in
              let g = T.done.still.size in
              omega arith

          pub sset_asked : SchemaSetAsked s₂ d w₂ e m n top
          sset_asked =
              let L = sset_visiting in
              let q = Q L.ghost L.stands L.scope L.dictionary L.scoped L.fresh in
              let few = (T.done.areas z).few in
              record {
                binding = record {
                  ghost = next s s₂ d n top n top L.ghost (inner L.scope) (Owned l) q.advanced;
                  stands = next_stands s s₂ d n top n top L.ghost (inner L.scope) (Owned l) q.advanced L.stands.few;
                  signature = include_signature i L.scope;
                  carried = q.holds;
                  table = table;
                  room = room₂ (suc m) (omega arith);
                };
                room = room₂ (suc m + 1) (omega arith);
              }

          pub sset_done : (s₃ : List ℕ) (cell n₃ top₃ : ℕ) → length s₃ ≡ length s₂ → SchemaSetTyped s₂ s₃ d w₂ e m n top cell n₃ top₃ →
              ExprDone s s₃ d w w₂ rows n top at free (schema_set k i) 0 k cell n₃ top₃ at₁
          sset_done s₃ cell n₃ top₃ size Y =
              let L = sset_visiting in
              let few = (T.done.areas z).few in
              let F =
              rule_ending s₂ s₃ d w₂ w₂ rows n top n₃ top₃ at₁ free k 0 cell (suc m + 1) own After (spared_refl w₂ rows free) size Y.low (let q = reach in omega arith) First.stored.after (omega arith) (λ y. Y.uses)
              (λ G St Γ D C u b. rule_goes s₂ s₃ d n top k 0 cell n₃ top₃ G (own Γ) refl (Y.typed G St (include_signature i Γ) b k u)) in
              done s₃ w₂ 0 k cell n₃ top₃ at₁
              (step_then s s₂ s₃ d w w₂ w₂ rows n top n top at at₁ free inner own l (k ∷ []) nothing After (slot k 0) 0 k cell n₃ top₃ at₁
              L.size L.clean L.room.some (visiting_low s d w rows n top at free K.height (l ++ (k ∷ [])) L) L.once First F (λ y. visited F))
            where
              visited : Ending s₂ s₃ d w₂ w₂ rows n top at₁ free own (k ∷ []) After (slot k 0) 0 k cell n₃ top₃ at₁ → Visited s s₃ n top n₃ top₃ at at₁ (l ++ (k ∷ []))
              visited F =
                  let q = (T.done.areas z).short in
                  let r = (T.done.areas z).few in
                  let g = include_some i in
                  let X = F.areas refl in
                  record {
                    stored = stored_on s s₂ s₃ at at₁ at₁ First.stored X.stored;
                    short = omega (arith, length-append l (k ∷ []));
                    uses = λ v B.
                        X.uses v (taken_uses s d w w₁ rows n top at free K.height e l (k ∷ []) sset_visiting (omega arith) deep S w₂ T.done.still s₁ s₂ at₁ (T.done.areas z).stored R 0 (node_cells * length (k ∷ []) + v)
                        (room_less s n top (0 + (node_cells * length (k ∷ []) + v)) (node_cells * length (l ++ (k ∷ [])) + v) (omega (arith, length-append l (k ∷ []))) B));
                  }
