-- 21 to 23: what a relation asks of its sides, and its promise from each way that it ends.
use mathlib.Core.Path.{◌≡◌, refl, sym, subst, ◌∙◌}
use mathlib.Core.Bool.{true, false}
use mathlib.Core.List.{List, [], ◌∷◌, ◌++◌}
use mathlib.Core.Logic.{⊎_elim}
use Prim.Native.Nat.{ℕ, ◌-◌, ◌≤◌}
use native.Mathlib.Omega.{arith}
use lib.ListN.{length, replicate}
use lib.Seq.{sets}
use Rattle.reader_rules.specs.Limited.{LimitedExpr, LimitedPred, FewNodes}
use Rattle.reader_rules.specs.Tree.{Expr, Pred, equal, member, at_most}
use Rattle.reader_rules.specs.TreeNumbers.{expr_numbers, pred_numbers}
use Rattle.types_rules.specs.Types.{Term}
use Rattle.checker_rules.specs.Conditions.{type_of}
use Rattle.checker_rules.specs.Dictionary.{Dictionary}
use Rattle.checker_rules.specs.Items.{Items, ◌⨾◌, piece, Refuses, MeetsIn}
use Rattle.checker_rules.specs.Rules.{expr_items, pred_items}
use Rattle.checker_rules.specs.Scopes.{Scope}
use Rattle.checker_pieces.specs.Piece.{Steady}
use Rattle.checker_pieces.specs.Closed.{Closed}
use Rattle.checker_kinds.specs.Equations.{Related, equality_items, membership_items, comparison_items}
use Rattle.checker_lookup.specs.Scoped.{Scoped}
use Rattle.checker_contracts.specs.Expressions.{ExprDone}
use Rattle.checker_contracts.specs.Predicates.{Walking, PredAsk, PredDone}
use Rattle.checker_contracts.specs.Visits.{Fresh, idle, Spared, Went}
use Rattle.checker_contracts.proofs.Nodes.{fresh_left}
use Rattle.checker_contracts.proofs.Passing.{walking_first}
use Rattle.checker_contracts.proofs.Sides.{Sides, left_refused, right_refused, sides_spared, sides_stored, sides_low, own_refused, relation_went, relation_several}
use Rattle.checker_contracts.proofs.Wiping.{stored_kept, wiped_low}
use Rattle.checker_contracts.proofs.Refused.{done_refused}
use Rattle.types_cells.specs.Layout.{first_run}

-- The predicate p relates a and b at node k, by the items `own`.
pub record Relation (p : Pred) (k : ℕ) (a b : Expr) (own : ℕ → Term → Term → Items) : Type 0 where
  pub items : (Γ : Scope) → pred_items p Γ ≡ piece k (expr_items a Γ ⨾ (expr_items b Γ ⨾ own k (type_of a) (type_of b)))
  pub numbers : pred_numbers p ≡ (expr_numbers a ++ expr_numbers b) ++ (k ∷ [])
  pub limited : (n m : ℕ) → LimitedPred n m p → FewNodes (expr_numbers a ++ expr_numbers b) × LimitedExpr (n - 1) m a × LimitedExpr (n - 1) m b

pub equal_relation : (k : ℕ) (a b : Expr) → Relation (equal k a b) k a b equality_items
unfolding pred_items pred_numbers LimitedPred
equal_relation k a b = record { items = λ Γ. refl; numbers = refl; limited = λ n m l. (l.1, l.2, l.3) }

pub member_relation : (k : ℕ) (a b : Expr) → Relation (member k a b) k a b membership_items
unfolding pred_items pred_numbers LimitedPred
member_relation k a b = record { items = λ Γ. refl; numbers = refl; limited = λ n m l. (l.1, l.2, l.3) }

pub at_most_relation : (k : ℕ) (a b : Expr) → Relation (at_most k a b) k a b comparison_items
unfolding pred_items pred_numbers LimitedPred
at_most_relation k a b = record { items = λ Γ. refl; numbers = refl; limited = λ n m l. (l.1, l.2, l.3) }

module _ (s d w : List ℕ) (rows at free : ℕ) (p : Pred) (k : ℕ) (a b : Expr) (own : ℕ → Term → Term → Items) (T : Relation p k a b own) (Q : PredAsk s d w rows at free p) where
  abbrev N : List ℕ
  N = expr_numbers a ++ expr_numbers b

  abbrev relation : Scope → Items
  relation Γ = piece k (expr_items a Γ ⨾ (expr_items b Γ ⨾ own k (type_of a) (type_of b)))

  pub relation_sides : Sides s d w rows at free a b
  relation_sides =
      let K = walking_first s d w rows at free Q.height (Q.height - 1) N (k ∷ []) (omega arith) (subst (Walking s d w rows at free Q.height) T.numbers Q.walking) in
      let l = T.limited Q.height Q.texts Q.limited in
      record {
        height = Q.height - 1;
        texts = Q.texts;
        left = l.1;
        right = l.2;
        walking = K;
        enough = let few : length N ≤ 24 = l.0 in ⊎_elim (λ (z : 24 ≤ K.bound). omega arith) (λ (z : length N ≤ K.bound). z) K.crowd;
      }

  abbrev sides : Sides s d w rows at free a b
  sides = relation_sides

  -- A finding ..
  refused : (s' w' : List ℕ) (number place : ℕ) → (number ≡ 0 → ⊥) → Spared w w' rows free →
      ((H : Items) (U : List ℕ) → Steady H U → (Γ : Scope) (D : Dictionary) → Scoped s d w rows (idle H U) Γ D → Fresh N U → Refuses (relation Γ) (MeetsIn H) number place) →
      PredDone s s' d w w' rows at free p number place
  refused s' w' number place e P r = record {
    done = done_refused P e (λ H U S Γ D C u F.
        subst (λ t. Refuses t (MeetsIn H) number place) (sym (T.items Γ)) (r H U S Γ D C (fresh_left N (k ∷ []) U (subst (λ l. Fresh l U) T.numbers F))));
  }

  module _ (s₁ w₁ : List ℕ) (number place cell n top at₁ : ℕ) (A : ExprDone s s₁ d w w₁ rows 0 first_run at free a number place cell n top at₁) where
    -- .. of the left side, ..
    pub relation_left : (number ≡ 0 → ⊥) → PredDone s s₁ d w w₁ rows at free p number place
    relation_left e = refused s₁ w₁ number place e A.spared (left_refused s d w rows at free a b sides k own s₁ w₁ number place cell n top at₁ A e)

    module _ (fine : number ≡ 0) (s₂ w₂ : List ℕ) (number₂ place₂ cell₂ n₂ top₂ at₂ : ℕ) (B : ExprDone s₁ s₂ d w₁ w₂ rows n top at₁ free b number₂ place₂ cell₂ n₂ top₂ at₂) where
      spared : Spared w w₂ rows free
      spared = sides_spared s d w rows at free a b sides k own s₁ w₁ number place cell n top at₁ A fine s₂ w₂ number₂ place₂ cell₂ n₂ top₂ at₂ B

      -- .. of the right side, ..
      pub relation_right : (number₂ ≡ 0 → ⊥) → PredDone s s₂ d w w₂ rows at free p number₂ place₂
      relation_right e =
          refused s₂ w₂ number₂ place₂ e spared
          (right_refused s d w rows at free a b sides k own s₁ w₁ number place cell n top at₁ A fine s₂ w₂ number₂ place₂ cell₂ n₂ top₂ at₂ B e)

      module _ (fine₂ : number₂ ≡ 0) (s₃ : List ℕ) (number₃ n₃ : ℕ) (R : Related s₂ s₃ d n₂ top₂ cell cell₂ number₃ n₃ own) where
        -- .. of the relation, ..
        pub relation_own : (number₃ ≡ 0 → ⊥) → PredDone s s₃ d w w₂ rows at free p number₃ k
        relation_own e =
            refused s₃ w₂ number₃ k e spared
            (own_refused s d w rows at free a b sides k own s₁ w₁ number place cell n top at₁ A fine s₂ w₂ number₂ place₂ cell₂ n₂ top₂ at₂ B fine₂ s₃ number₃ n₃ R e)

        module _ (fine₃ : number₃ ≡ 0) (s₄ : List ℕ) where
          -- .. of the piece.
          pub relation_34 : Closed s₃ s₄ d n₃ false → PredDone s s₄ d w w₂ rows at free p 34 k
          relation_34 Z =
              refused s₄ w₂ 34 k (λ e. omega arith) spared
              (λ H U S Γ D C F. relation_several s d w rows at free a b sides k own s₁ w₁ number place cell n top at₁ A fine s₂ w₂ number₂ place₂ cell₂ n₂ top₂ at₂ B fine₂ s₃ number₃ n₃ R fine₃ H U S Γ D C F s₄ Z)

          -- No finding: the words of both sides are wiped.
          pub relation_done : Closed s₃ s₄ d n₃ true → length s₄ ≡ length s₂ → PredDone s (sets s₄ at (replicate (at₂ - at) 0)) d w w₂ rows at free p 0 k
          relation_done Z z = record {
            done = record {
              still = spared;
              areas = λ e.
                  let K = sides.walking in
                  let pool = K.room.pool in
                  let stored = sides_stored s d w rows at free a b sides k own s₁ w₁ number place cell n top at₁ A fine s₂ w₂ number₂ place₂ cell₂ n₂ top₂ at₂ B fine₂ in
                  let low = sides_low s d w rows at free a b sides k own s₁ w₁ number place cell n top at₁ A fine s₂ w₂ number₂ place₂ cell₂ n₂ top₂ at₂ B fine₂ in
                  wiped_low s s₄ at at₂ K.size K.clean K.room.some low (stored_kept s s₂ s₄ at at₂ (omega arith) stored z (Z.low ∙ R.low));
              goes = λ e H U S Γ D C u F.
                  let W = relation_went s d w rows at free a b sides k own s₁ w₁ number place cell n top at₁ A fine s₂ w₂ number₂ place₂ cell₂ n₂ top₂ at₂ B fine₂ s₃ number₃ n₃ R fine₃ H U S Γ D C
                  (fresh_left N (k ∷ []) U (subst (λ l. Fresh l U) T.numbers F)) s₄ Z in
                  subst (λ t. Went H t U (pred_numbers p)) (sym (T.items Γ)) (subst (λ l. Went H (relation Γ) U l) (sym T.numbers) W);
              stops = λ e. absurd (e refl);
            };
          }
