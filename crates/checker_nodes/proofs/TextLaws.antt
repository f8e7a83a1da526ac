-- Texts by the words of their node.
use mathlib.Core.Path.{◌≡◌, sym, ap, subst, ◌∙◌}
use mathlib.Core.Bool.{Bool}
use mathlib.Core.List.{List}
use Prim.Native.Nat.{ℕ, ◌+◌, ◌*◌, ◌-◌, ◌≤◌, ◌<◌}
use lib.ListN.{length, get_or}
use Rattle.layout.specs.Layout.{part}
use Rattle.reader_rules.specs.Decode.{pred_at, text_at, lines_from}
use Rattle.reader_rules.specs.Kinds.{predicates, texts, lines}
use Rattle.reader_rules.specs.Promise.{At, Lower}
use Rattle.reader_rules.specs.Tree.{Text, text}
use Rattle.reader_rules.proofs.TreeText.{Parts, text_kind, text_law}
use Rattle.checker_signatures.specs.Rows.{rows}
use Rattle.checker_signatures.specs.Tables.{Beside, Pushed, table_words}
use Rattle.checker_contracts.specs.Predicates.{PredAsk, PredDone}
use Rattle.checker_contracts.specs.Texts.{TextAsk, TextDone, LinesAsk, LinesDone}
use Rattle.checker_contracts.proofs.Bodies.{text_lines, text_stopped, push_ask, text_body, text_refused, text_done}
use Rattle.checker_closing.specs.Nodes.{LinedAt}
use Rattle.checker_closing.specs.declared.results.Lined.{Lined}

-- The promise in the words of the result.
pub text_told : {s s' d w w' : List ℕ} {stack at free number place count end : ℕ} {t : Text} {global : Bool} {r : Lined} → LinedAt r number place count end →
    TextDone s s' d w w' stack at free t global number place count end → TextDone s s' d w w' stack at free t global r.number r.place r.count r.at
text_told {s} {s'} {d} {w} {w'} {stack} {at} {free} {number} {place} {count} {end} {t} {global} {r} L T =
    subst (λ z. TextDone s s' d w w' stack at free t global z r.place r.count r.at) (sym L.number_is)
    (subst (λ z. TextDone s s' d w w' stack at free t global number z r.count r.at) (sym L.place_is)
    (subst (λ z. TextDone s s' d w w' stack at free t global number place z r.at) (sym L.count_is)
    (subst (λ z. TextDone s s' d w w' stack at free t global number place count z) (sym L.at_is) T)))

module _ {doc : List ℕ} {k : ℕ} (B : At doc texts k) {s d w : List ℕ} {stack at free : ℕ} (A : TextAsk s d w stack at free (text_at doc k)) (p : List ℕ) (P : p ≡ part doc k) (x : ℕ)
    (e : x ≡ get_or p 1 0) where
  laid : Parts doc k x (text_at doc k ≡ text k (pred_at doc x) (lines_from doc k 2 (length (part doc k) - 2)))
  laid = text_law doc texts k B (text_kind doc k B) x (e ∙ ap (λ (l : List ℕ). get_or l 1 0) P)

  tree : text_at doc k ≡ text k (pred_at doc x) (lines_from doc k 2 (length p - 2))
  tree = laid.tree ∙ ap (λ l. text k (pred_at doc x) (lines_from doc k 2 (length l - 2))) (sym P)

  ask : TextAsk s d w stack at free (text k (pred_at doc x) (lines_from doc k 2 (length p - 2)))
  ask = subst (TextAsk s d w stack at free) tree A

  pub each_line : (q : ℕ) → 2 ≤ q → q < length p → Lower doc k lines (get_or p q 0)
  each_line q l m = laid.each q l (subst (λ z. q < length z) P m) (get_or p q 0) (ap (λ (z : List ℕ). get_or z q 0) P)

  pub at_lines : LinesAsk s d w stack free 0 at (free + table_words) (lines_from doc k 2 (length p - 2))
  at_lines = text_lines s d w stack at free k (pred_at doc x) (lines_from doc k 2 (length p - 2)) ask

  module _ (global : Bool) {s₁ w₁ : List ℕ} {number place m at₁ : ℕ} (L : LinesDone s s₁ d w w₁ stack free 0 at (free + table_words) (lines_from doc k 2 (length p - 2)) global number place m at₁) where
    pub at_lines_stopped : (number ≡ 0 → ⊥) → (count end : ℕ) → TextDone s s₁ d w w₁ stack at free (text_at doc k) global number place count end
    at_lines_stopped n count end =
        subst (λ t. TextDone s s₁ d w w₁ stack at free t global number place count end) (sym tree)
        (text_stopped s d w stack at free k (pred_at doc x) (lines_from doc k 2 (length p - 2)) ask global s₁ w₁ number place m at₁ L n count end)

    module _ (fine : number ≡ 0) where
      pub at_push : Beside (length w₁) (0 + 2 * stack) m free m
      at_push = push_ask s d w stack at free k (pred_at doc x) (lines_from doc k 2 (length p - 2)) ask global s₁ w₁ number place m at₁ L fine

      module _ {w₂ : List ℕ} {r : ℕ} (Z : Pushed w₁ w₂ 0 stack (rows w₁ free m) r) where
        pub at_text_body : Lower doc k predicates x × PredAsk s₁ d w₂ (stack + m) at₁ (free + table_words) (pred_at doc x)
        at_text_body = (laid.first, text_body s d w stack at free k (pred_at doc x) (lines_from doc k 2 (length p - 2)) ask global s₁ w₁ number place m at₁ L fine w₂ r Z)

        module _ {s₂ w₃ : List ℕ} {number₂ place₂ : ℕ} (Q : PredDone s₁ s₂ d w₂ w₃ (stack + m) at₁ (free + table_words) (pred_at doc x) number₂ place₂) where
          pub at_text_refused : (number₂ ≡ 0 → ⊥) → (count end : ℕ) → TextDone s s₂ d w w₃ stack at free (text_at doc k) global number₂ place₂ count end
          at_text_refused n count end =
              subst (λ t. TextDone s s₂ d w w₃ stack at free t global number₂ place₂ count end) (sym tree)
              (text_refused s d w stack at free k (pred_at doc x) (lines_from doc k 2 (length p - 2)) ask global s₁ w₁ number place m at₁ L fine w₂ r Z s₂ w₃ number₂ place₂ Q n count end)

          pub at_text_done : number₂ ≡ 0 → length s₂ ≡ length s₁ → TextDone s s₂ d w w₃ stack at free (text_at doc k) global number place m at₁
          at_text_done fine₂ z =
              subst (λ t. TextDone s s₂ d w w₃ stack at free t global number place m at₁) (sym tree)
              (text_done s d w stack at free k (pred_at doc x) (lines_from doc k 2 (length p - 2)) ask global s₁ w₁ number place m at₁ L fine w₂ r Z s₂ w₃ number₂ place₂ Q fine₂ z)
