-- An Include as a schema expression, by the words of its node.
use mathlib.Core.Path.{◌≡◌, sym, ap, subst, ◌∙◌}
use mathlib.Core.Bool.{Bool}
use mathlib.Core.List.{List}
use Prim.Native.Nat.{ℕ, ◌+◌, ◌≤◌, ◌<◌, ◌^◌}
use native.Mathlib.Omega.{arith}
use lib.ListN.{get_or, take, drop}
use Rattle.layout.specs.Layout.{part}
use Rattle.reader_rules.specs.Decode.{include_at}
use Rattle.reader_rules.specs.Kinds.{includes}
use Rattle.reader_rules.specs.Promise.{At}
use Rattle.checker_includes.specs.Filling.{RowsAsk, SmallTold}
use Rattle.checker_includes.specs.Storing.{KeepAsk, RowsKept}
use Rattle.checker_contracts.specs.Includes.{actual_count, BringsAsk, BringsDone, IncludeDone}
use Rattle.checker_contracts.proofs.Bringing.{brings_refused, brings_large, brings_keep, brings_done}
use Rattle.checker_contracts.proofs.Brought.{brought_ask}
use Rattle.checker_contracts.proofs.IncludeNodes.{included_node, included_count}
use Rattle.checker_closing.specs.Included.{RowsShown, oversized, kept, BroughtAsk, BroughtTold, unbrought, shown}
use Rattle.checker_signatures.specs.Tables.{table_words}

module _ {doc p s d w places s₁ w₁ places₁ : List ℕ} {stack at free k number place m at₁ : ℕ} (N : At doc includes k) (words : p ≡ part doc k) (A : BringsAsk s d w stack at free (include_at doc k))
    (I : IncludeDone s s₁ d w w₁ stack at free (include_at doc k) places places₁ number place m at₁) where
  -- the places of its actuals' types
  abbrev row : List ℕ
  row = take (get_or p 3 0) (drop 0 places₁)

  few_actuals : actual_count (include_at doc k) ≤ 4
  few_actuals = let z = included_count doc k N in let x = z.0 in let y = z.1 in omega arith

  row_is : row ≡ take (actual_count (include_at doc k)) places₁
  row_is = ap (λ z. take z places₁) (ap (λ (l : List ℕ). get_or l 3 0) words ∙ sym (included_count doc k N).0)

  sized : {b : Bool} → SmallTold s₁ d w₁ free m row b → SmallTold s₁ d w₁ free m (take (actual_count (include_at doc k)) places₁) b
  sized {b} = subst (λ l. SmallTold s₁ d w₁ free m l b) row_is

  abbrev Done : List ℕ → List ℕ → ℕ → ℕ → ℕ → ℕ → Type 0
  Done s' w' f x c e = BringsDone s s' d w w' stack at free (include_at doc k) f x c e

  pub node_brings_brought : (k < 2 ^ 32) × (free < 2 ^ 32) × BroughtAsk s₁ d w₁ at free (take (get_or p 3 0) (drop 0 places₁)) number m at₁
  node_brings_brought =
      let z = N.small in
      let y = A.walking.room.frames in (
        omega arith,
        omega arith,
        record {
          rows = λ fine. record {
            rows = subst (RowsAsk s₁ d w₁ free m) (sym row_is) (brought_ask s s₁ d w w₁ stack at free A.height (include_at doc k) places places₁ number place m at₁ A.walking I fine);
            keep = λ S.
                subst (λ l. KeepAsk s₁ d w₁ free 0 free m l at at₁ (free + table_words)) (sym row_is)
                (brings_keep s d w stack at free (include_at doc k) A places s₁ w₁ places₁ number place m at₁ I fine (sized S) few_actuals);
          };
        },
      )

  rows_shown : number ≡ 0 → {s₂ w₂ : List ℕ} {f x c e : ℕ} → RowsShown s₁ s₂ d w₁ w₂ free m row at at₁ (free + table_words) k f x c e → Done s₂ w₂ f x c e
  rows_shown fine {s₂} {w₂} {f} {x} {c} {e} (oversized y z S h j) =
      subst (λ l. Done l w₂ f x c e) (sym h) (subst (λ l. Done s₁ l f x c e) (sym j)
      (subst (λ l. Done s₁ w₁ l x c e) (sym y) (subst (λ l. Done s₁ w₁ 38 l c e) (included_node doc k N ∙ sym z)
      (brings_large s d w stack at free (include_at doc k) A places s₁ w₁ places₁ number place m at₁ I fine (sized S) c e))))
  rows_shown fine {s₂} {w₂} {f} {x} {c} {e} (kept y z n S E) =
      subst (λ l. Done s₂ w₂ l x c e) (sym y) (subst (λ l. Done s₂ w₂ 0 x l e) (sym n)
      (brings_done s d w stack at free (include_at doc k) A places s₁ w₁ places₁ number place m at₁ I fine (sized S) few_actuals s₂ w₂ e
      (subst (λ l. RowsKept s₁ s₂ d w₁ w₂ free 0 free m l at at₁ (free + table_words) e) row_is E) x))

  pub node_brings_told : {s₂ w₂ : List ℕ} {f x c e : ℕ} → BroughtTold s₁ s₂ d w₁ w₂ at free (take (get_or p 3 0) (drop 0 places₁)) k number place m at₁ f x c e →
      BringsDone s s₂ d w w₂ stack at free (include_at doc k) f x c e
  node_brings_told {s₂} {w₂} {f} {x} {c} {e} (unbrought ne y z h j) =
      subst (λ l. Done l w₂ f x c e) (sym h) (subst (λ l. Done s₁ l f x c e) (sym j)
      (subst (λ l. Done s₁ w₁ l x c e) (sym y) (subst (λ l. Done s₁ w₁ number l c e) (sym z)
      (brings_refused s d w stack at free (include_at doc k) A places s₁ w₁ places₁ number place m at₁ I ne c e))))
  node_brings_told (shown fine R) = rows_shown fine R
