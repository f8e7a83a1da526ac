-- Operands are parts, and so are rules over their cells.
use mathlib.Core.Path.{◌≡◌, subst}
use mathlib.Core.List.{List, [], ◌∷◌}
use Prim.Native.Nat.{ℕ, ◌*◌, ◌≤◌}
use native.Mathlib.Omega.{arith}
use lib.ListN.{length}
use Rattle.reader_rules.specs.Tree.{Expr, Exprs, none, expr_node, exprs_length}
use Rattle.reader_rules.specs.TreeNumbers.{expr_numbers, exprs_numbers}
use Rattle.types_rules.specs.Types.{Term}
use Rattle.checker_rules.specs.Conditions.{type_of, types_of}
use Rattle.checker_rules.specs.Items.{Items}
use Rattle.checker_rules.specs.Rules.{expr_items, exprs_items, reference_items, theta_items}
use Rattle.checker_rules.specs.Scopes.{Scope, name_at, schema_named}
use Rattle.checker_rules.specs.Unknowns.{slot}
use Rattle.types_cells.specs.Layout.{pool_size}
use Rattle.types_cells.specs.Store.{run}
use Rattle.types_instances.specs.Clean.{Clean}
use Rattle.checker_pieces.specs.Stage.{Cell, node_cells}
use Rattle.checker_pieces.specs.Building.{Cells}
use Rattle.checker_pieces.proofs.Stages.{next_cell, placed_cell, no_cells}
use Rattle.checker_kinds.specs.Equations.{Combined}
use Rattle.checker_kinds.specs.Formers.{DerivedList, Derived}
use Rattle.checker_lookup.specs.References.{RefersWith}
use Rattle.checker_lookup.specs.Thetas.{ThetaRuled}
use Rattle.checker_contracts.specs.Room.{frames_at}
use Rattle.checker_contracts.specs.Visits.{Owned, Fresh}
use Rattle.checker_contracts.specs.Expressions.{ExprDone, ExprsDone}
use Rattle.checker_contracts.specs.Parts.{Fact, nothing, Part, Ending}
use Rattle.checker_contracts.proofs.Scopes.{spared_refl}
use Rattle.checker_contracts.proofs.Parts.{rule_ending}

-- AN OPERAND a, where it passes: its cell is there.
module _ (s s' d w w' : List ℕ) (rows n top at free : ℕ) (a : Expr) (number place cell n' top' at' : ℕ) (E : ExprDone s s' d w w' rows n top at free a number place cell n' top' at') where
  pub expr_part : number ≡ 0 → Part s s' d w w' rows n top n' top' at at' free (expr_items a) (expr_numbers a) nothing (λ Γ D G. Cell s' d n' G cell (type_of a))
  expr_part z = record {
    step = record {
      spared = E.spared;
      stored = (E.areas z).stored;
      goes = λ G St Γ D C f b.
          let I = E.goes z G St Γ D C f in
          record {
            advanced = I.advanced;
            holds = placed_cell s s' d n top n' top' G (expr_items a Γ) (Owned (expr_numbers a)) I.advanced (slot (expr_node a) 0) cell I.placed;
          };
    };
    areas = E.areas z;
  }

  -- the operand before it keeps its cell
  pub expr_part_beside : number ≡ 0 → (x : ℕ) (t : Term) →
      Part s s' d w w' rows n top n' top' at at' free (expr_items a) (expr_numbers a) (λ Γ D G. Cell s d n G x t) (λ Γ D G. Cell s' d n' G x t × Cell s' d n' G cell (type_of a))
  expr_part_beside z x t = record {
    step = record {
      spared = E.spared;
      stored = (E.areas z).stored;
      goes = λ G St Γ D C f b.
          let I = E.goes z G St Γ D C f in
          record {
            advanced = I.advanced;
            holds = (
              next_cell s s' d n top n' top' G (expr_items a Γ) (Owned (expr_numbers a)) I.advanced x t b,
              placed_cell s s' d n top n' top' G (expr_items a Γ) (Owned (expr_numbers a)) I.advanced (slot (expr_node a) 0) cell I.placed,
            );
          };
    };
    areas = E.areas z;
  }

  pub expr_ending : (before : Fact) → Ending s s' d w w' rows n top at free (expr_items a) (expr_numbers a) before (slot (expr_node a) 0) number place cell n' top' at'
  expr_ending before = record { spared = E.spared; areas = E.areas; goes = λ z G St Γ D C f b. E.goes z G St Γ D C f; stops = λ ne G St Γ D C f b. E.stops ne G St Γ D C f }

-- OPERANDS xs.
module _ (s s' d w w' : List ℕ) (rows n top at free : ℕ) (xs : Exprs) (parts parts' : List ℕ) (j number place n' top' at' : ℕ)
    (E : ExprsDone s s' d w w' rows n top at free xs parts parts' j number place n' top' at') where
  pub exprs_part : number ≡ 0 →
      Part s s' d w w' rows n top n' top' at at' free (exprs_items xs) (exprs_numbers xs) nothing (λ Γ D G. Cells s' d n' G (run parts' j (exprs_length xs)) (types_of xs))
  exprs_part z = record {
    step = record {
      spared = E.spared;
      stored = (E.areas z).stored;
      goes = λ G St Γ D C f b. let I = E.goes z G St Γ D C f in record { advanced = I.advanced; holds = I.operands };
    };
    areas = E.areas z;
  }

  pub exprs_ending : (number ≡ 0 → ⊥) → (before : Fact) (x cell : ℕ) → Ending s s' d w w' rows n top at free (exprs_items xs) (exprs_numbers xs) before x number place cell n' top' at'
  exprs_ending ne before x cell = record { spared = E.spared; areas = E.areas; goes = λ z. absurd (ne z); stops = λ q G St Γ D C f b. E.stops q G St Γ D C f }

-- AN EXPRESSION from its parts.
pub expr_done : (s s' d w w' : List ℕ) (rows n top at free : ℕ) (e : Expr) (k : ℕ) (items : Scope → Items) (l : List ℕ) (number place cell n' top' at' : ℕ) →
    ((Γ : Scope) → expr_items e Γ ≡ items Γ) → expr_numbers e ≡ l → expr_node e ≡ k → Ending s s' d w w' rows n top at free items l nothing (slot k 0) number place cell n' top' at' →
    ExprDone s s' d w w' rows n top at free e number place cell n' top' at'
expr_done s s' d w w' rows n top at free e k items l number place cell n' top' at' same numbers node E = record {
  spared = E.spared;
  areas = λ z. rw numbers (E.areas z);
  goes = λ z G St Γ D C f. rw (same Γ, numbers, node) (E.goes z G St Γ D C (subst (λ q. Fresh q G.mentioned) numbers f) tt);
  stops = λ ne G St Γ D C f. rw (same Γ) (E.stops ne G St Γ D C (subst (λ q. Fresh q G.mentioned) numbers f) tt);
}

-- RULES at node k, over the cells of operands.
module _ (s s' d w : List ℕ) (rows n top at free k number cell n' top' used : ℕ) (size : length s' ≡ length s) (room : at ≤ pool_size) (clean : Clean s at) where
  module _ (few : used ≤ node_cells) where
    pub derived_ending : (x : ℕ) (own : ℕ → Term → Items) → Derived s s' d n top x number cell n' top' used own → (t : Term) →
        Ending s s' d w w rows n top at free (λ Γ. own k t) (k ∷ []) (λ Γ D G. Cell s d n G x t) (slot k 0) number k cell n' top' at
    derived_ending x own R t =
        rule_ending s s' d w w rows n top n' top' at free k number cell used (λ Γ. own k t) (λ Γ D G. Cell s d n G x t) (spared_refl w rows free) size R.low room clean few R.uses
        (λ G St Γ D C u b. R.ruled G St k u t b)

    pub combined_ending : (x y : ℕ) (own : ℕ → Term → Term → Items) → Combined s s' d n top x y number cell n' top' used own → (t u : Term) →
        Ending s s' d w w rows n top at free (λ Γ. own k t u) (k ∷ []) (λ Γ D G. Cell s d n G x t × Cell s d n G y u) (slot k 0) number k cell n' top' at
    combined_ending x y own R t u =
        rule_ending s s' d w w rows n top n' top' at free k number cell used (λ Γ. own k t u) (λ Γ D G. Cell s d n G x t × Cell s d n G y u) (spared_refl w rows free) size R.low room clean few R.uses
        (λ G St Γ D C v b. R.ruled G St k v t u b.0 b.1)

    pub listed_ending : (l : List ℕ) (own : ℕ → Exprs → Items) → DerivedList s s' d n top l number cell n' top' used own → (xs : Exprs) →
        Ending s s' d w w rows n top at free (λ Γ. own k xs) (k ∷ []) (λ Γ D G. Cells s d n G l (types_of xs)) (slot k 0) number k cell n' top' at
    listed_ending l own R xs =
        rule_ending s s' d w w rows n top n' top' at free k number cell used (λ Γ. own k xs) (λ Γ D G. Cells s d n G l (types_of xs)) (spared_refl w rows free) size R.low room clean few R.uses
        (λ G St Γ D C v b. R.ruled G St k v xs b)

    pub bare_ending : (own : ℕ → Exprs → Items) → DerivedList s s' d n top [] number cell n' top' used own → Ending s s' d w w rows n top at free (λ Γ. own k none) (k ∷ []) nothing (slot k 0) number k cell n' top' at
    unfolding types_of
    bare_ending own R =
        rule_ending s s' d w w rows n top n' top' at free k number cell used (λ Γ. own k none) nothing (spared_refl w rows free) size R.low room clean few R.uses
        (λ G St Γ D C v b. R.ruled G St k v none (no_cells s d n G))

  pub refers_ending : (id : ℕ) (parts : List ℕ) (m : ℕ) → RefersWith s s' d w n top rows id parts m number cell n' top' → (xs : Exprs) →
      Ending s s' d w w rows n top at free (λ Γ. reference_items k xs (name_at id Γ)) (k ∷ []) (λ Γ D G. Cells s d n G (run parts 0 m) (types_of xs)) (slot k 0) number k cell n' top' at
  refers_ending id parts m R xs =
      rule_ending s s' d w w rows n top n' top' at free k number cell node_cells (λ Γ. reference_items k xs (name_at id Γ)) (λ Γ D G. Cells s d n G (run parts 0 m) (types_of xs)) (spared_refl w rows free) size R.low room clean
      (omega arith) R.uses (λ G St Γ D C v b. R.ruled G St k v Γ D C xs b)

  pub theta_ending : (w' : List ℕ) (id t : ℕ) → ThetaRuled s s' d w w' n top rows free id t number cell n' top' → length w' ≡ length w → 2 * rows ≤ free → frames_at ≤ free →
      Ending s s' d w w' rows n top at free (λ Γ. theta_items k t (schema_named id Γ) Γ) (k ∷ []) nothing (slot k 0) number k cell n' top' at
  theta_ending w' id t R e below low =
      rule_ending s s' d w w' rows n top n' top' at free k number cell node_cells (λ Γ. theta_items k t (schema_named id Γ) Γ) nothing
      (record { size = e; scope = λ i l. R.below i (omega arith); index = λ i l m. R.below i (omega arith); frames = λ i l m. R.below i m }) size R.low room clean (omega arith) R.uses
      (λ G St Γ D C v b. R.ruled G St k v Γ D C)
