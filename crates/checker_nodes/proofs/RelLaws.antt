-- Relations by the words of their node.
use mathlib.Core.Path.{◌≡◌, refl, sym, subst, ◌∙◌}
use mathlib.Core.Bool.{Bool, true, false}
use mathlib.Core.List.{List, [], ◌∷◌}
use mathlib.Core.Logic.{⊎_elim}
use Prim.Native.Nat.{ℕ, ◌-◌, ◌≤◌, ◌<◌}
use native.Mathlib.Omega.{arith}
use lib.ListN.{length, get_or, replicate}
use lib.Seq.{sets}
use Rattle.reader_rules.specs.Decode.{expr_at, pred_at, relation_of}
use Rattle.reader_rules.specs.Kinds.{expressions, predicates}
use Rattle.reader_rules.specs.Nodes.{kind_at}
use Rattle.reader_rules.specs.Promise.{Lower}
use Rattle.reader_rules.specs.Tree.{Expr}
use Rattle.reader_rules.proofs.TreePred.{pred_relation}
use Rattle.reader_rules.proofs.TreeShape.{Two}
use Rattle.types_cells.proofs.Growing.{lt_or_ge}
use Rattle.checker_pieces.specs.Building.{Working}
use Rattle.checker_pieces.specs.Closed.{Closing, Closed}
use Rattle.checker_kinds.specs.Equations.{Related}
use Rattle.checker_contracts.specs.Expressions.{ExprAsk, ExprDone}
use Rattle.checker_contracts.specs.Predicates.{PredAsk, PredDone}
use Rattle.checker_contracts.proofs.Relations.{Relation, equal_relation, member_relation, at_most_relation, relation_sides, relation_left, relation_right, relation_own, relation_34, relation_done}
use Rattle.checker_contracts.proofs.Sides.{Sides, left_ask, right_ask, sides_ask, sides_low, close_ask}
use Rattle.checker_closing.specs.Leaves.{relation_items}
use Rattle.checker_closing.specs.Nodes.{Node}
use Rattle.checker_closing.specs.Relations.{RelationAsk, RelationTold, stopped, went, refused, fits, several, one}
use Rattle.checker_closing.specs.declared.results.Verdict.{Verdict}
use Rattle.checker_nodes.proofs.PredLaws.{pred_told}
use Rattle.types_cells.specs.Layout.{first_run, pool_size}
use Rattle.checker_nodes.proofs.NodeWords.{word_at_lem, kind_at_lem}

relation_of_lem : (q k : ℕ) (a b : Expr) → 21 ≤ q → q ≤ 23 → Relation (relation_of q k a b) k a b (relation_items q)
relation_of_lem q k a b l m =
    ⊎_elim (λ (u : q < 22). is 21 (omega arith) (equal_relation k a b))
    (λ (u : 22 ≤ q). ⊎_elim (λ (v : q < 23). is 22 (omega arith) (member_relation k a b)) (λ (v : 23 ≤ q). is 23 (omega arith) (at_most_relation k a b)) (lt_or_ge q 23))
    (lt_or_ge q 22)
  where
    is : (r : ℕ) → q ≡ r → Relation (relation_of r k a b) k a b (relation_items r) → Relation (relation_of q k a b) k a b (relation_items q)
    is r e R = subst (λ z. Relation (relation_of z k a b) k a b (relation_items z)) (sym e) R

module _ {doc p : List ℕ} {k : ℕ} (B : Node doc p predicates k) {s d w : List ℕ} {rows at free : ℕ} (A : PredAsk s d w rows at free (pred_at doc k))
    (least : 21 ≤ kind_at doc k) (most : kind_at doc k ≤ 23) (x y : ℕ) (e : x ≡ get_or p 1 0) (f : y ≡ get_or p 2 0) where
  sides_at : Two doc k expressions expressions x y (pred_at doc k ≡ relation_of (kind_at doc k) k (expr_at doc x) (expr_at doc y))
  sides_at = pred_relation doc k B.at (kind_at doc k) refl least most x y (word_at_lem B 1 x e) (word_at_lem B 2 y f)

  T : Relation (pred_at doc k) k (expr_at doc x) (expr_at doc y) (relation_items (kind_at doc k))
  T =
      subst (λ t. Relation t k (expr_at doc x) (expr_at doc y) (relation_items (kind_at doc k))) (sym sides_at.tree)
      (relation_of_lem (kind_at doc k) k (expr_at doc x) (expr_at doc y) least most)

  Q : Sides s d w rows at free (expr_at doc x) (expr_at doc y)
  Q = relation_sides s d w rows at free (pred_at doc k) k (expr_at doc x) (expr_at doc y) (relation_items (kind_at doc k)) T A

  pub at_left : Lower doc k expressions x × ExprAsk s d w rows 0 first_run at free (expr_at doc x)
  at_left = (sides_at.left, left_ask s d w rows at free (expr_at doc x) (expr_at doc y) Q k (relation_items (kind_at doc k)))

  module _ {s₁ w₁ : List ℕ} {number place cell n top at₁ : ℕ} (X : ExprDone s s₁ d w w₁ rows 0 first_run at free (expr_at doc x) number place cell n top at₁) where
    pub at_left_stopped : (number ≡ 0 → ⊥) → PredDone s s₁ d w w₁ rows at free (pred_at doc k) number place
    at_left_stopped =
        relation_left s d w rows at free (pred_at doc k) k (expr_at doc x) (expr_at doc y) (relation_items (kind_at doc k)) T A s₁ w₁ number place cell n top at₁ X

    module _ (fine : number ≡ 0) where
      pub at_right : Lower doc k expressions y × ExprAsk s₁ d w₁ rows n top at₁ free (expr_at doc y)
      at_right =
          (sides_at.right, right_ask s d w rows at free (expr_at doc x) (expr_at doc y) Q k (relation_items (kind_at doc k)) s₁ w₁ number place cell n top at₁ X fine)

      module _ {s₂ w₂ : List ℕ} {number₂ place₂ cell₂ n₂ top₂ at₂ : ℕ} (Y : ExprDone s₁ s₂ d w₁ w₂ rows n top at₁ free (expr_at doc y) number₂ place₂ cell₂ n₂ top₂ at₂) where
        at_right_stopped : (number₂ ≡ 0 → ⊥) → PredDone s s₂ d w w₂ rows at free (pred_at doc k) number₂ place₂
        at_right_stopped =
            relation_right s d w rows at free (pred_at doc k) k (expr_at doc x) (expr_at doc y) (relation_items (kind_at doc k)) T A s₁ w₁ number place cell n top at₁ X fine s₂ w₂ number₂ place₂ cell₂ n₂ top₂ at₂ Y

        module _ (fine₂ : number₂ ≡ 0) where
          at_related : Working s₂ d n₂ top₂ 1 (cell ∷ cell₂ ∷ [])
          at_related =
              sides_ask s d w rows at free (expr_at doc x) (expr_at doc y) Q k (relation_items (kind_at doc k)) s₁ w₁ number place cell n top at₁ X fine s₂ w₂ number₂ place₂ cell₂ n₂ top₂ at₂ Y fine₂

          -- the words of both sides end in the pool
          at_end : at₂ < pool_size
          at_end =
              sides_low s d w rows at free (expr_at doc x) (expr_at doc y) Q k (relation_items (kind_at doc k)) s₁ w₁ number place cell n top at₁ X fine s₂ w₂ number₂ place₂ cell₂ n₂ top₂ at₂ Y fine₂

          -- the kind is word 0
          module _ (q : ℕ) (g : q ≡ get_or p 0 0) {s₃ : List ℕ} {number₃ n₃ : ℕ} (R : Related s₂ s₃ d n₂ top₂ cell cell₂ number₃ n₃ (relation_items q)) where
            related : Related s₂ s₃ d n₂ top₂ cell cell₂ number₃ n₃ (relation_items (kind_at doc k))
            related = subst (λ z. Related s₂ s₃ d n₂ top₂ cell cell₂ number₃ n₃ (relation_items z)) (word_at_lem B 0 q g) R

            at_own_stopped : (number₃ ≡ 0 → ⊥) → PredDone s s₃ d w w₂ rows at free (pred_at doc k) number₃ k
            at_own_stopped =
                relation_own s d w rows at free (pred_at doc k) k (expr_at doc x) (expr_at doc y) (relation_items (kind_at doc k)) T A s₁ w₁ number place cell n top at₁ X fine s₂ w₂ number₂ place₂ cell₂ n₂ top₂ at₂ Y fine₂ s₃ number₃ n₃
                related

            module _ (fine₃ : number₃ ≡ 0) where
              at_close : Closing s₃ d n₃
              at_close =
                  close_ask s d w rows at free (expr_at doc x) (expr_at doc y) Q k (relation_items (kind_at doc k)) s₁ w₁ number place cell n top at₁ X fine s₂ w₂ number₂ place₂ cell₂ n₂ top₂ at₂ Y fine₂ s₃ number₃ n₃ related fine₃

              at_several : {s₄ : List ℕ} {one : Bool} → Closed s₃ s₄ d n₃ one → one ≡ false → PredDone s s₄ d w w₂ rows at free (pred_at doc k) 34 k
              at_several {s₄} Z o =
                  relation_34 s d w rows at free (pred_at doc k) k (expr_at doc x) (expr_at doc y) (relation_items (kind_at doc k)) T A s₁ w₁ number place cell n top at₁ X fine s₂ w₂ number₂ place₂ cell₂ n₂ top₂ at₂ Y fine₂ s₃ number₃ n₃
                  related fine₃ s₄ (subst (Closed s₃ s₄ d n₃) o Z)

              at_relation : {s₄ s₅ : List ℕ} {one : Bool} → Closed s₃ s₄ d n₃ one → one ≡ true → length s₄ ≡ length s₂ → s₅ ≡ sets s₄ at (replicate (at₂ - at) 0) →
                  PredDone s s₅ d w w₂ rows at free (pred_at doc k) 0 k
              at_relation {s₄} {s₅} Z o z v =
                  subst (λ u. PredDone s u d w w₂ rows at free (pred_at doc k) 0 k) (sym v)
                  (relation_done s d w rows at free (pred_at doc k) k (expr_at doc x) (expr_at doc y) (relation_items (kind_at doc k)) T A s₁ w₁ number place cell n top at₁ X fine s₂ w₂ number₂ place₂ cell₂ n₂ top₂ at₂ Y fine₂ s₃ number₃ n₃
                  related fine₃ s₄ (subst (Closed s₃ s₄ d n₃) o Z) z)

        -- WHAT THE RELATION ASKS AND TELLS AFTER THE VISITS. Its kind is word 0.
        module _ (q : ℕ) (g : q ≡ get_or p 0 0) where
          pub at_relation_asked : RelationAsk s₂ d k q cell number₂ cell₂ n₂ top₂ at₂
          at_relation_asked =
              let e = kind_at_lem B q g in
              let z = B.at.small in
              record {
                going = λ fine₂.
                    let u = at_end fine₂ in
                    record {
                      near = omega arith;
                      last = omega arith;
                      least = omega arith;
                      most = omega arith;
                      working = at_related fine₂;
                      closing = λ s₃ n₃ R. at_close fine₂ q g R refl;
                    };
              }

          pub at_relation_told : {s' : List ℕ} {r : Verdict} → RelationTold s₂ s' d at k q cell number₂ place₂ cell₂ n₂ top₂ at₂ r → PredDone s s' d w w₂ rows at free (pred_at doc k) r.number r.place
          at_relation_told {s'} {r} (stopped n es F) = pred_told F (subst (λ z. PredDone s z d w w₂ rows at free (pred_at doc k) number₂ place₂) (sym es) (at_right_stopped n))
          at_relation_told (went fine₂ (refused number₃ n₃ R n F)) = pred_told F (at_own_stopped fine₂ q g R n)
          at_relation_told (went fine₂ (fits s₃ n₃ R z (several Z F))) = pred_told F (at_several fine₂ q g R refl Z refl)
          at_relation_told (went fine₂ (fits s₃ n₃ R z (one s₄ Z z₂ wiped F))) = pred_told F (at_relation fine₂ q g R refl Z refl (z₂ ∙ z) wiped)
