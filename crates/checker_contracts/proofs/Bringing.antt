-- An Include as a schema expression, or of a SchemaSet: 38 after its own findings; its types are written out.
use mathlib.Core.Path.{◌≡◌, refl}
use mathlib.Core.Bool.{true, false}
use mathlib.Core.List.{List}
use Prim.Native.Nat.{ℕ, ◌+◌, ◌≤◌}
use native.Mathlib.Omega.{arith}
use lib.ListN.{length, take}
use Rattle.reader_rules.specs.Decode.{pairs_from}
use Rattle.reader_rules.specs.Tree.{Include, include_node}
use Rattle.reader_rules.specs.TreeNumbers.{include_numbers}
use Rattle.checker_rules.specs.Conditions.{small_types, merge_names, same_type}
use Rattle.checker_rules.specs.Dictionary.{Dictionary}
use Rattle.checker_rules.specs.Items.{Items, ◌⨾◌, Meets, Refuses, MeetsIn}
use Rattle.checker_rules.specs.Rules.{include_items}
use Rattle.checker_rules.specs.Scopes.{Scope, include_signature}
use Rattle.checker_rules.specs.Signatures.{Signature, no_names, naming, term_in}
use Rattle.checker_rules.specs.Unknowns.{Valuation}
use Rattle.checker_signatures.specs.Tables.{table_words}
use Rattle.checker_signatures.specs.Rows.{rows}
use Rattle.checker_signatures.specs.Carried.{Carries}
use Rattle.checker_pieces.specs.Piece.{Steady}
use Rattle.checker_pieces.proofs.Between.{walked_then, walked_mine, refuses_first, refuses_second}
use Rattle.checker_lookup.specs.Scoped.{Scoped}
use Rattle.checker_includes.specs.Filling.{SmallTold}
use Rattle.checker_includes.specs.Storing.{KeepAsk, RowsKept}
use Rattle.checker_includes.proofs.FillsLaws.{components_fill}
use Rattle.checker_includes.proofs.NewRowLaws.{rows_few}
use Rattle.checker_contracts.specs.Includes.{actual_count, IncludeAsk, IncludeDone, BringsAsk, BringsDone}
use Rattle.checker_contracts.specs.Visits.{Owned, Fresh, idle, Spared}
use Rattle.checker_contracts.proofs.Brought.{stored_again, actuals_more, brought_keep}
use Rattle.checker_contracts.proofs.Scopes.{spared_on}
use Rattle.checker_contracts.proofs.Refused.{done_refused}

-- Nothing to merge with.
merge_none : (n : ℕ) (q : Signature) (τ : Valuation) → Meets (merge_names n q no_names) τ
unfolding merge_names same_type term_in MeetsIn
merge_none n no_names τ = tt
merge_none n (naming i t q) τ = (tt, merge_none n q τ)

module _ (s d w : List ℕ) (stack at free : ℕ) (i : Include) (A : BringsAsk s d w stack at free i) (places : List ℕ) where
  abbrev n : ℕ
  n = include_node i

  pub brings_ask : length places ≡ 4 → IncludeAsk s d w stack at free i places
  brings_ask z = record { height = A.height; texts = A.texts; limited = A.limited; walking = A.walking; row = z }

  abbrev smalls : Scope → Items
  smalls Γ = small_types n (include_signature i Γ)

  module _ (s₁ w₁ places₁ : List ℕ) (number place m at₁ : ℕ) (I : IncludeDone s s₁ d w w₁ stack at free i places places₁ number place m at₁) where
    stopped : (s' w' : List ℕ) (f k m' at' : ℕ) → (f ≡ 0 → ⊥) → Spared w w' stack free →
        ((H : Items) (U : List ℕ) → Steady H U → (Γ : Scope) (D : Dictionary) → Scoped s d w stack (idle H U) Γ D → (u : Unit {0}) → Fresh (include_numbers i) U →
        Refuses (include_items i Γ ⨾ smalls Γ) (MeetsIn H) f k) → BringsDone s s' d w w' stack at free i f k m' at'
    stopped s' w' f k m' at' ne S r = record { done = done_refused S ne r }

    -- the Include's own finding
    pub brings_refused : (number ≡ 0 → ⊥) → (m' at' : ℕ) → BringsDone s s₁ d w w₁ stack at free i number place m' at'
    brings_refused ne m' at' =
        stopped s₁ w₁ number place m' at' ne I.done.still.spared
        (λ H U S Γ D C u F. refuses_first H (include_items i Γ) (smalls Γ) number place (I.done.stops ne H U S Γ D C tt F))

    module _ (fine : number ≡ 0) where
      abbrev actuals : List ℕ
      actuals = take (actual_count i) places₁

      -- 38
      pub brings_large : SmallTold s₁ d w₁ free m actuals false → (m' at' : ℕ) → BringsDone s s₁ d w w₁ stack at free i 38 n m' at'
      brings_large T m' at' =
          stopped s₁ w₁ 38 n m' at' (λ e. omega arith) I.done.still.spared
          (λ H U S Γ D C u F.
          let B = I.done.goes fine H U S Γ D C tt F in
          let a = include_items i Γ in
          refuses_second H a (smalls Γ) 38 n B.walked.goes
          (T.stops refl (H ⨾ a) B.unknowns n n (actual_count i) (include_signature i Γ) B.walked.steady B.actuals B.components))

      module _ (T : SmallTold s₁ d w₁ free m actuals true) (few_actuals : actual_count i ≤ 4) where
        pub brings_keep : KeepAsk s₁ d w₁ free 0 free m actuals at at₁ (free + table_words)
        brings_keep =
            let f = A.walking.room.frames in
            let v = A.walking.room.wide in
            let z = I.done.still.spared.size in
            brought_keep s s₁ d w w₁ stack at free A.height i places places₁ number place m at₁ A.walking I fine T few_actuals free 0
            (record { inside = omega arith; readable = λ j l. absurd (omega arith) }) (omega arith) (λ j l. absurd (omega arith))

        module _ (s₂ w₂ : List ℕ) (at₂ : ℕ) (E : RowsKept s₁ s₂ d w₁ w₂ free 0 free m actuals at at₁ (free + table_words) at₂) where
          pub brings_done : (place' : ℕ) → BringsDone s s₂ d w w₂ stack at free i 0 place' m at₂
          unfolding MeetsIn Carries pairs_from
          brings_done place' =
              let t = A.walking.room.stack in
              let o = A.walking.room.low in
              let y = (I.done.areas fine).few in
              record {
                done = record {
                  still = spared_on w w₁ w₂ stack free I.done.still.spared
                      (record { size = E.size; scope = λ j l. E.words j (omega arith) (λ x u v. omega arith); index = λ j x l. E.words j (omega arith) (λ x u v. omega arith); frames = λ j x l. E.words j (omega arith) (λ x u v. omega arith) });
                  areas = λ e. record {
                    stored = stored_again s s₁ s₂ at at₁ at₂ (I.done.areas fine).stored E.stored;
                    short = let x = E.new in let z = rows_few w₁ free m (rows w₁ free 0) in omega arith;
                    few = y;
                  };
                  goes = λ e H U S Γ D C u F.
                      let B = I.done.goes fine H U S Γ D C tt F in
                      let a = include_items i Γ in
                      let q = include_signature i Γ in
                      let N = T.goes refl (H ⨾ a) B.unknowns n n (actual_count i) q B.walked.steady B.actuals B.components in
                      let W = walked_then H a (smalls Γ) U B.unknowns B.unknowns (Owned (include_numbers i)) S B.walked
                      (walked_mine (H ⨾ a) (smalls Γ) B.unknowns B.unknowns (λ x. ⊥) (Owned (include_numbers i)) (λ x b. absurd b) N) in
                      let X = actuals_more s₁ d (H ⨾ a) (H ⨾ (a ⨾ smalls Γ)) B.unknowns n (actual_count i) actuals (λ τ h. (h.0, h.1.0)) B.actuals in
                      record {
                        unknowns = B.unknowns;
                        walked = W;
                        signature =
                            E.placed (H ⨾ (a ⨾ smalls Γ)) B.unknowns n q no_names X.shown X.types X.stand X.alike
                            (components_fill s₁ d (H ⨾ (a ⨾ smalls Γ)) B.unknowns n (actual_count i) actuals X q _ B.components)
                            tt (λ τ h. merge_none n q τ) (λ τ h. h.1.1) W.steady;
                      };
                  stops = λ e. absurd (e refl);
                };
              }
