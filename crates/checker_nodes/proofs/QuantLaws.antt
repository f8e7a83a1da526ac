-- Quantified predicates by the words of their node.
use mathlib.Core.Path.{◌≡◌, refl, sym, subst}
use mathlib.Core.Bool.{false}
use mathlib.Core.List.{List}
use Prim.Native.Nat.{ℕ, ◌+◌, ◌-◌, ◌≤◌}
use lib.ListN.{length, get_or, replicate}
use lib.Seq.{sets}
use Rattle.reader_rules.specs.Decode.{pred_at, text_at, quantifier_of}
use Rattle.reader_rules.specs.Kinds.{predicates, texts}
use Rattle.reader_rules.specs.Nodes.{kind_at}
use Rattle.reader_rules.specs.Promise.{Lower}
use Rattle.reader_rules.specs.Tree.{quantified}
use Rattle.reader_rules.proofs.TreePred.{pred_quantified}
use Rattle.reader_rules.proofs.TreeShape.{Two}
use Rattle.checker_contracts.specs.Predicates.{PredAsk, PredDone}
use Rattle.checker_contracts.specs.Texts.{TextAsk, TextDone}
use Rattle.checker_contracts.proofs.Quantifying.{quantified_text, quantified_stopped, quantified_body, quantified_refused, quantified_done}
use Rattle.checker_closing.specs.Nodes.{Node}
use Rattle.checker_nodes.proofs.NodeWords.{word_at_lem}

module _ {doc p : List ℕ} {k : ℕ} (B : Node doc p predicates k) {s d w : List ℕ} {rows at free : ℕ} (A : PredAsk s d w rows at free (pred_at doc k))
    (least : 28 ≤ kind_at doc k) (most : kind_at doc k ≤ 29) (x y : ℕ) (e : x ≡ get_or p 1 0) (f : y ≡ get_or p 2 0) where
  bound : Two doc k texts predicates x y (pred_at doc k ≡ quantified k (quantifier_of (kind_at doc k)) (text_at doc x) (pred_at doc y))
  bound = pred_quantified doc k B.at (kind_at doc k) refl least most x y (word_at_lem B 1 x e) (word_at_lem B 2 y f)

  ask : PredAsk s d w rows at free (quantified k (quantifier_of (kind_at doc k)) (text_at doc x) (pred_at doc y))
  ask = subst (PredAsk s d w rows at free) bound.tree A

  pub at_text : Lower doc k texts x × TextAsk s d w rows at free (text_at doc x)
  at_text = (bound.left, quantified_text s d w rows at free k (quantifier_of (kind_at doc k)) (text_at doc x) (pred_at doc y) ask)

  module _ {s₁ w₁ : List ℕ} {number place m at₁ : ℕ} (T : TextDone s s₁ d w w₁ rows at free (text_at doc x) false number place m at₁) where
    pub at_text_stopped : (number ≡ 0 → ⊥) → PredDone s s₁ d w w₁ rows at free (pred_at doc k) number place
    at_text_stopped n =
        subst (λ t. PredDone s s₁ d w w₁ rows at free t number place) (sym bound.tree)
        (quantified_stopped s d w rows at free k (quantifier_of (kind_at doc k)) (text_at doc x) (pred_at doc y) ask s₁ w₁ number place m at₁ T n)

    module _ (fine : number ≡ 0) where
      pub at_body : Lower doc k predicates y × PredAsk s₁ d w₁ (rows + m) at₁ free (pred_at doc y)
      at_body = (bound.right, quantified_body s d w rows at free k (quantifier_of (kind_at doc k)) (text_at doc x) (pred_at doc y) ask s₁ w₁ number place m at₁ T fine)

      module _ {s₂ w₂ : List ℕ} {number₂ place₂ : ℕ} (P : PredDone s₁ s₂ d w₁ w₂ (rows + m) at₁ free (pred_at doc y) number₂ place₂) where
        pub at_body_stopped : (number₂ ≡ 0 → ⊥) → PredDone s s₂ d w w₂ rows at free (pred_at doc k) number₂ place₂
        at_body_stopped n =
            subst (λ t. PredDone s s₂ d w w₂ rows at free t number₂ place₂) (sym bound.tree)
            (quantified_refused s d w rows at free k (quantifier_of (kind_at doc k)) (text_at doc x) (pred_at doc y) ask s₁ w₁ number place m at₁ T fine s₂ w₂ number₂ place₂ P n)

        pub at_quantified : number₂ ≡ 0 → length s₂ ≡ length s₁ → {s₃ : List ℕ} → s₃ ≡ sets s₂ at (replicate (at₁ - at) 0) →
            PredDone s s₃ d w w₂ rows at free (pred_at doc k) number₂ place₂
        at_quantified fine₂ z {s₃} q =
            subst (λ u. PredDone s u d w w₂ rows at free (pred_at doc k) number₂ place₂) (sym q)
            (subst (λ t. PredDone s (sets s₂ at (replicate (at₁ - at) 0)) d w w₂ rows at free t number₂ place₂) (sym bound.tree)
            (quantified_done s d w rows at free k (quantifier_of (kind_at doc k)) (text_at doc x) (pred_at doc y) ask s₁ w₁ number place m at₁ T fine s₂ w₂ number₂ place₂ P fine₂ z))
