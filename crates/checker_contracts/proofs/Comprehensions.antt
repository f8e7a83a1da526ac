-- Comprehension: its piece waits while the Text is visited; the body is of the piece around it, in the scope that the Text makes (R15).
use mathlib.Core.Path.{◌≡◌, refl, subst}
use mathlib.Core.Bool.{false}
use mathlib.Core.List.{List, [], ◌∷◌, ◌++◌, append_assoc}
use Prim.Native.Nat.{ℕ, suc, ◌+◌, ◌*◌, ◌-◌, ◌≤◌, ◌<◌, ◌^◌}
use native.Mathlib.Omega.{arith}
use lib.ListN.{length, length-append}
use Rattle.reader_rules.specs.Limited.{LimitedExpr}
use Rattle.reader_rules.specs.Tree.{Expr, comprehension, Pred, truth, equal, member, at_most, not, connected, quantified, Text, text, expr_node}
use Rattle.reader_rules.specs.TreeNumbers.{expr_numbers, pred_numbers, text_numbers, lines_numbers}
use Rattle.types_rules.specs.Types.{nil, cons}
use Rattle.checker_rules.proofs.OwnUnknowns.{text_agrees}
use Rattle.checker_rules.specs.Conditions.{type_of}
use Rattle.checker_rules.specs.Dictionary.{Dictionary, blank}
use Rattle.checker_rules.specs.Items.{Items, ◌⨾◌}
use Rattle.checker_rules.specs.Rules.{expr_items, text_items}
use Rattle.checker_rules.specs.Scopes.{Scope, inside}
use Rattle.checker_rules.specs.Unknowns.{slot}
use Rattle.types_cells.specs.Layout.{first_run, frozen_size, area_size, pool_size, max_cells}
use Rattle.types_cells.specs.Settled.{lower}
use Rattle.types_solver.specs.Written.{Wrote}
use Rattle.checker_signatures.specs.Rows.{stack}
use Rattle.checker_signatures.proofs.ScopeLaws.{stacked_other}
use Rattle.types_instances.specs.Moved.{saved, restored, SaveAsk, RestoreAsk}
use Rattle.checker_pieces.specs.Stage.{Ghost, Cell, node_cells}
use Rattle.checker_pieces.specs.Building.{Building}
use Rattle.checker_pieces.proofs.Stages.{building, one_cell, placed_cell}
use Rattle.checker_kinds.specs.Formers.{Derived, comprehension_items}
use Rattle.checker_lookup.specs.Scoped.{SettledAt, Scoped}
use Rattle.checker_lookup.proofs.Standing.{settled_kept}
use Rattle.checker_contracts.specs.Visits.{Owned, Spared, globals_if}
use Rattle.checker_contracts.specs.Expressions.{Visiting, ExprAsk, ExprDone}
use Rattle.checker_contracts.specs.Texts.{TextAsk, TextDone}
use Rattle.checker_contracts.specs.Parts.{Fact, nothing, Part, Ending}
use Rattle.checker_contracts.proofs.Nodes.{fresh_left, once_left}
use Rattle.checker_contracts.proofs.Rooms.{inside_part, inside_rows}
use Rattle.checker_contracts.proofs.Scopes.{scoped_later, spared_less}
use Rattle.checker_contracts.proofs.Visiting.{visiting_low}
use Rattle.checker_contracts.proofs.Parts.{part_then, part_stops, part_next, part_leaves}
use Rattle.checker_contracts.proofs.Operands.{expr_done, derived_ending}
use Rattle.checker_contracts.proofs.Expressions.{node_room}
use Rattle.checker_contracts.proofs.Waiting.{save_asked, waiting, restore_asked, waiting_stops, waiting_step, taken_low, taken_uses}

-- A Text has two nodes at least.
pred_some : (p : Pred) → 1 ≤ length (pred_numbers p)
unfolding pred_numbers
pred_some (truth n) = omega arith
pred_some (equal n a b) = omega (arith, length-append (expr_numbers a ++ expr_numbers b) (n ∷ []))
pred_some (member n a b) = omega (arith, length-append (expr_numbers a ++ expr_numbers b) (n ∷ []))
pred_some (at_most n a b) = omega (arith, length-append (expr_numbers a ++ expr_numbers b) (n ∷ []))
pred_some (not n p) = omega (arith, length-append (pred_numbers p) (n ∷ []))
pred_some (connected n o p q) = omega (arith, length-append (pred_numbers p ++ pred_numbers q) (n ∷ []))
pred_some (quantified n o t p) = omega (arith, length-append (text_numbers t ++ pred_numbers p) (n ∷ []))

text_two : (t : Text) → 2 ≤ length (text_numbers t)
unfolding text_numbers
text_two (text n p ls) = let a = pred_some p in omega (arith, length-append (pred_numbers p ++ lines_numbers ls) (n ∷ []), length-append (pred_numbers p) (lines_numbers ls))

-- The pool as it was: scopes stand.
pub scoped_low : (s s' d w : List ℕ) (rows : ℕ) (G : Ghost) (Γ : Scope) (D : Dictionary) → lower s' ≡ lower s → Scoped s d w rows G Γ D → Scoped s' d w rows G Γ D
scoped_low s s' d w rows G Γ D e C = record {
  stacked = stacked_other (SettledAt s d G) (SettledAt s' d G) D (λ t p T. settled_kept s s' d G e t p T) Γ (stack w 0 rows) C.stacked;
  recorded = C.recorded;
}

module _ (s d w : List ℕ) (rows n top at free : ℕ) (k : ℕ) (t : Text) (a : Expr) (K : ExprAsk s d w rows n top at free (comprehension k t a)) where
  abbrev l : List ℕ
  l = text_numbers t

  abbrev la : List ℕ
  la = expr_numbers a

  abbrev rest : List ℕ
  rest = la ++ (k ∷ [])

  abbrev body_items : Scope → Items
  body_items Γ = expr_items a (inside t Γ) ⨾ comprehension_items k (type_of a)

  numbers : expr_numbers (comprehension k t a) ≡ l ++ rest
  unfolding expr_numbers
  numbers = append_assoc l la (k ∷ [])

  items : (Γ : Scope) → expr_items (comprehension k t a) Γ ≡ text_items t Γ blank ⨾ body_items Γ
  unfolding expr_items
  items Γ = refl

  node : expr_node (comprehension k t a) ≡ k
  unfolding expr_node
  node = refl

  unfoldable compr_visiting : Visiting s d w rows n top at free K.height (l ++ rest)
  compr_visiting = subst (Visiting s d w rows n top at free K.height) numbers K.visiting

  deep : 1 ≤ K.height
  unfolding LimitedExpr
  deep = K.limited.0

  some : 1 ≤ length rest
  some = omega (arith, length-append la (k ∷ []))

  done : (s' w' : List ℕ) (number place cell n' top' at' : ℕ) → Ending s s' d w w' rows n top at free (λ Γ. text_items t Γ blank ⨾ body_items Γ) (l ++ rest) nothing (slot k 0) number place cell n' top' at' →
      ExprDone s s' d w w' rows n top at free (comprehension k t a) number place cell n' top' at'
  done s' w' number place cell n' top' at' E =
      expr_done s s' d w w' rows n top at free (comprehension k t a) k (λ Γ. text_items t Γ blank ⨾ body_items Γ) (l ++ rest) number place cell n' top' at' items numbers node E

  pub compr_save_asked : SaveAsk s n top free
  compr_save_asked = save_asked s d w w rows n top at free K.height free l rest compr_visiting some deep

  module _ (w₁ : List ℕ) (e : ℕ) (S : Wrote w w₁ free e (saved s n top)) where
    pub compr_text_ask : TextAsk s d w₁ rows at e t
    unfolding LimitedExpr
    compr_text_ask = record {
      height = K.height - 1;
      texts = K.texts;
      limited = K.limited.1;
      walking = waiting s d w w₁ rows n top at free K.height e l rest compr_visiting some deep S;
    }

    module _ (s₁ w₂ : List ℕ) (number place m at₁ : ℕ) (T : TextDone s s₁ d w₁ w₂ rows at e t false number place m at₁) where
      pub compr_text_stops : (number ≡ 0 → ⊥) → (cell n' top' at' : ℕ) → ExprDone s s₁ d w w₂ rows n top at free (comprehension k t a) number place cell n' top' at'
      unfolding globals_if
      compr_text_stops ne cell n' top' at' =
          done s₁ w₂ number place cell n' top' at'
          (part_stops s s₁ d w w₂ rows n top at free (λ Γ. text_items t Γ blank) body_items l rest nothing 0 (slot k 0) number place 0 cell n' top' at' ne
          (waiting_stops s d w w₁ rows n top at free K.height e l rest compr_visiting some deep S w₂ T.done.still (λ Γ. text_items t Γ blank) s₁ 0 number place 0 n' top' at' ne (λ H U Z Γ D C f. T.done.stops ne H U Z Γ D C tt f)))

      module _ (z : number ≡ 0) where
        pub compr_restore_asked : RestoreAsk w₂ n top free
        compr_restore_asked = restore_asked s d w w₁ rows n top at free K.height e l rest compr_visiting some deep S w₂ T.done.still

        reach : at₁ < pool_size
        reach = let p = compr_visiting.room.pool in let q = (T.done.areas z).short in let r = (T.done.areas z).few in let h = deep in omega arith

        module _ (s₂ : List ℕ) (R : s₂ ≡ restored s₁ n top w₂ free) where
          abbrev After : Fact
          After Γ D G = Scoped s₂ d w₂ (rows + m) G (inside t Γ) D

          First : Part s s₂ d w w₂ rows n top n top at at₁ free (λ Γ. text_items t Γ blank) l nothing After
          unfolding globals_if
          First =
              let X = waiting_step s d w w₁ rows n top at free K.height e l rest compr_visiting some deep S w₂ T.done.still s₁ s₂ at₁ (T.done.areas z).stored R (λ Γ. text_items t Γ blank)
              (λ Γ. text_agrees t Γ blank) (λ Γ D G. Scoped s₁ d w₂ (rows + m) G (inside t Γ) D) After reach
              (λ H U Z Γ D C f. let q = T.done.goes z H U Z Γ D C tt f in (q.unknowns, q.walked, q.within))
              (λ Γ D G G' wider says C. scoped_low s₁ s₂ d w₂ (rows + m) G' (inside t Γ) D low (scoped_later s₁ d w₂ (rows + m) (inside t Γ) D G G' wider says C)) in
              record {
                step = X;
                areas = record {
                  stored = X.stored;
                  short = let q = (T.done.areas z).short in let r = (T.done.areas z).few in let o = text_two t in omega arith;
                  uses = taken_uses s d w w₁ rows n top at free K.height e l rest compr_visiting some deep S w₂ T.done.still s₁ s₂ at₁ (T.done.areas z).stored R (node_cells * length l);
                };
              }
            where
              low : lower s₂ ≡ lower s₁
              low = taken_low s d w w₁ rows n top at free K.height e l rest compr_visiting some deep S w₂ T.done.still s₁ s₂ at₁ (T.done.areas z).stored R

          abbrev M : Visiting s₂ d w₂ rows n top at₁ free K.height rest
          M = part_next s s₂ d w w₂ rows n top n top at at₁ free K.height (λ Γ. text_items t Γ blank) l rest nothing After compr_visiting First tt

          within : Scoped s₂ d w₂ (rows + m) M.ghost (inside t M.scope) M.dictionary
          within = part_leaves s s₂ d w w₂ rows n top n top at at₁ free K.height (λ Γ. text_items t Γ blank) l rest nothing After compr_visiting First tt

          -- THE BODY.
          pub compr_body_ask : ExprAsk s₂ d w₂ (rows + m) n top at₁ free a
          unfolding LimitedExpr
          compr_body_ask = record {
            height = K.height - 1;
            texts = K.texts;
            limited = K.limited.2;
            visiting = record {
              ghost = M.ghost;
              stands = M.stands;
              scope = inside t M.scope;
              dictionary = M.dictionary;
              scoped = within;
              fresh = fresh_left la (k ∷ []) M.ghost.mentioned M.fresh;
              once = once_left la (k ∷ []) M.once;
              size = M.size;
              clean = M.clean;
              room = inside_rows s₂ w₂ rows m n top at₁ free (K.height - 1) (length la)
                  (inside_part s₂ w₂ rows n top at₁ free K.height (suc (K.height - 1)) (length la) (length rest) M.room (let h = deep in omega arith) (omega (arith, length-append la (k ∷ [])))) (T.done.areas z).few;
            };
          }

          from_body : (s₃ w₃ : List ℕ) (answer place₂ cell n₃ top₃ at₃ : ℕ) → Ending s₂ s₃ d w₂ w₃ rows n top at₁ free body_items rest After (slot k 0) answer place₂ cell n₃ top₃ at₃ →
              ExprDone s s₃ d w w₃ rows n top at free (comprehension k t a) answer place₂ cell n₃ top₃ at₃
          from_body s₃ w₃ answer place₂ cell n₃ top₃ at₃ E =
              let L = compr_visiting in
              done s₃ w₃ answer place₂ cell n₃ top₃ at₃
              (part_then s s₂ s₃ d w w₂ w₃ rows n top n top at at₁ free (λ Γ. text_items t Γ blank) body_items l rest nothing After (slot k 0) answer place₂ cell n₃ top₃ at₃
              L.size L.clean L.room.some (visiting_low s d w rows n top at free K.height (l ++ rest) L) L.once First E)

          module _ (s₃ w₃ : List ℕ) (number₂ place₂ x n₃ top₃ at₃ : ℕ) (E : ExprDone s₂ s₃ d w₂ w₃ (rows + m) n top at₁ free a number₂ place₂ x n₃ top₃ at₃) where
            spared₂ : Spared w₂ w₃ rows free
            spared₂ = spared_less w₂ w₃ (rows + m) rows free free (omega arith) (omega arith) E.spared

            pub compr_body_stops : (number₂ ≡ 0 → ⊥) → (cell : ℕ) → ExprDone s s₃ d w w₃ rows n top at free (comprehension k t a) number₂ place₂ cell n₃ top₃ at₃
            compr_body_stops ne cell =
                from_body s₃ w₃ number₂ place₂ cell n₃ top₃ at₃
                (part_stops s₂ s₃ d w₂ w₃ rows n top at₁ free (λ Γ. expr_items a (inside t Γ)) (λ Γ. comprehension_items k (type_of a)) la (k ∷ []) After (slot (expr_node a) 0) (slot k 0) number₂ place₂ x cell n₃ top₃ at₃ ne
                record { spared = spared₂; areas = E.areas; goes = λ y. absurd (ne y); stops = λ q G St Γ D C f b. E.stops q G St (inside t Γ) D b f })

            module _ (z₂ : number₂ ≡ 0) where
              Second : Part s₂ s₃ d w₂ w₃ rows n top n₃ top₃ at₁ at₃ free (λ Γ. expr_items a (inside t Γ)) la After (λ Γ D G. Cell s₃ d n₃ G x (type_of a))
              Second = record {
                step = record {
                  spared = spared₂;
                  stored = (E.areas z₂).stored;
                  goes = λ G St Γ D C f b.
                      let I = E.goes z₂ G St (inside t Γ) D b f in
                      record { advanced = I.advanced; holds = placed_cell s₂ s₃ d n top n₃ top₃ G (expr_items a (inside t Γ)) (Owned la) I.advanced (slot (expr_node a) 0) x I.placed };
                };
                areas = E.areas z₂;
              }

              abbrev M₂ : Visiting s₃ d w₃ rows n₃ top₃ at₃ free K.height (k ∷ [])
              M₂ = part_next s₂ s₃ d w₂ w₃ rows n top n₃ top₃ at₁ at₃ free K.height (λ Γ. expr_items a (inside t Γ)) la (k ∷ []) After (λ Γ D G. Cell s₃ d n₃ G x (type_of a)) M Second within

              C₂ : Cell s₃ d n₃ M₂.ghost x (type_of a)
              C₂ = part_leaves s₂ s₃ d w₂ w₃ rows n top n₃ top₃ at₁ at₃ free K.height (λ Γ. expr_items a (inside t Γ)) la (k ∷ []) After (λ Γ D G. Cell s₃ d n₃ G x (type_of a)) M Second within

              pub compr_building : (r : ℕ) → r ≤ 2 * node_cells → Building s₃ n₃ top₃ r (x ∷ [])
              compr_building r p =
                  building s₃ d n₃ top₃ r M₂.ghost M₂.stands (node_room s₃ d w₃ rows n₃ top₃ at₃ free K.height k r M₂ p) (x ∷ []) (cons (type_of a) nil) (one_cell s₃ d n₃ M₂.ghost x (type_of a) C₂)

              pub compr_done : (s₄ : List ℕ) (answer cell n₄ top₄ used : ℕ) → used ≤ node_cells → length s₄ ≡ length s₃ → Derived s₃ s₄ d n₃ top₃ x answer cell n₄ top₄ used comprehension_items →
                  ExprDone s s₄ d w w₃ rows n top at free (comprehension k t a) answer k cell n₄ top₄ at₃
              compr_done s₄ answer cell n₄ top₄ used few size D₄ =
                  let q₁ = visiting_low s₂ d w₂ rows n top at₁ free K.height rest M in
                  let q₂ = visiting_low s₃ d w₃ rows n₃ top₃ at₃ free K.height (k ∷ []) M₂ in
                  from_body s₄ w₃ answer k cell n₄ top₄ at₃
                  (part_then s₂ s₃ s₄ d w₂ w₃ w₃ rows n top n₃ top₃ at₁ at₃ free (λ Γ. expr_items a (inside t Γ)) (λ Γ. comprehension_items k (type_of a)) la (k ∷ []) After (λ Γ D G. Cell s₃ d n₃ G x (type_of a)) (slot k 0) answer k cell n₄ top₄ at₃
                  M.size M.clean M.room.some q₁ M.once Second
                  (derived_ending s₃ s₄ d w₃ rows n₃ top₃ at₃ free k answer cell n₄ top₄ used size (omega arith) M₂.clean few x comprehension_items D₄ (type_of a)))
