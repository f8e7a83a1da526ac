-- What an Include brought, as the functions on its rows ask for it: the rows' types can be read, the actuals stand at their places.
use mathlib.Core.Path.{◌≡◌, refl, ◌∙◌}
use mathlib.Core.Bool.{true}
use mathlib.Core.List.{List}
use mathlib.Core.Logic.{inl}
use Prim.Native.Nat.{ℕ, suc, ◌+◌, ◌*◌, ◌≤◌, ◌<◌}
use native.Mathlib.Omega.{arith}
use lib.ListN.{length, get_or, take}
use Rattle.reader_rules.specs.Tree.{Include, include_node}
use Rattle.reader_rules.specs.TreeNumbers.{include_numbers}
use Rattle.checker_rules.specs.Items.{Items, Meets}
use Rattle.checker_rules.specs.Unknowns.{Valuation, row}
use Rattle.checker_rules.specs.Scopes.{include_signature}
use Rattle.types_rules.specs.Types.{Ty}
use Rattle.types_cells.specs.Settled.{heap, Reads}
use Rattle.types_instances.specs.Clean.{Clean}
use Rattle.types_instances.specs.Moved.{Below}
use Rattle.checker_signatures.specs.Tables.{table_words}
use Rattle.checker_merging.specs.Merging.{Rows}
use Rattle.checker_includes.specs.Components.{ActualTypes}
use Rattle.checker_includes.specs.Filling.{RowsAsk, SmallTold}
use Rattle.checker_includes.specs.Storing.{Stored, KeepAsk}
use Rattle.checker_contracts.specs.Includes.{actual_count, Brought, IncludeDone}
use Rattle.checker_contracts.specs.Predicates.{Walking}
use Rattle.checker_contracts.proofs.Carrying.{component_rows_lem}
use Rattle.types_cells.specs.Layout.{area_size, pool_size}

-- Written twice from the same place on: what was written first is gone.
pub stored_again : (s s' s'' : List ℕ) (at at' at'' : ℕ) → Stored s s' at at' → Stored s' s'' at at'' → Stored s s'' at at''
stored_again s s' s'' at at' at'' A B = record { size = B.size ∙ A.size; before = λ i l. B.before i l ∙ A.before i l; after = B.after; more = B.more }

-- The word before stays 0.
pub stored_gap : (s s' : List ℕ) (at at' : ℕ) → at ≤ pool_size → Clean s at → Stored s s' at at' → (i : ℕ) → suc i ≡ at → get_or s' i 0 ≡ 0
stored_gap s s' at at' r C A i e = A.before i (omega arith) ∙ C i (omega arith) (omega arith)

-- Items that say more.
pub actuals_more : (s d : List ℕ) (H H' : Items) (U : List ℕ) (k q : ℕ) (places : List ℕ) → ((τ : Valuation) → Meets H' τ → Meets H τ) → ActualTypes s d H U k q places → ActualTypes s d H' U k q places
actuals_more s d H H' U k q places says A =
    record { types = A.types; settled = λ τ m. A.settled τ (says τ m); shown = A.shown; stand = A.stand; alike = A.alike; over = A.over }

module _ (s s₁ d w w₁ : List ℕ) (stack at free h : ℕ) (i : Include) (places places₁ : List ℕ) (number place m at₁ : ℕ) (K : Walking s d w stack at free h (include_numbers i))
    (I : IncludeDone s s₁ d w w₁ stack at free i places places₁ number place m at₁) (fine : number ≡ 0) where
  brought : Brought s₁ d w₁ m free K.before K.known K.scope i places₁
  brought = I.done.goes fine K.before K.known K.steady K.scope K.dictionary K.scoped tt K.fresh

  pub brought_size : length s₁ ≡ area_size
  brought_size = (I.done.areas fine).stored.size ∙ K.size

  pub brought_ask : RowsAsk s₁ d w₁ free m (take (actual_count i) places₁)
  brought_ask =
      let T = brought.actuals in
      let f = K.few in
      let z = I.done.still.spared.size in
      let a = (I.done.areas fine).few in
      let b = K.room.frames in
      let c = K.room.wide in
      record {
        actuals = record { areas = record { size = brought_size; few = omega arith }; types = T.shown; stand = T.stand };
        table = component_rows_lem s₁ d w₁ free m (omega arith) (include_signature i K.scope) (row (include_node i) 1 (actual_count i)) brought.components;
      }

  -- They can be kept beside the n rows of a table before them, whose types were stored before the actuals.
  pub brought_keep : SmallTold s₁ d w₁ free m (take (actual_count i) places₁) true → actual_count i ≤ 4 → (base n : ℕ) → Rows s₁ d w₁ base n → base + 2 * n ≤ free →
      ((j : ℕ) → j < n → (g : Ty) → Reads (heap s₁ d) (get_or w₁ (base + 2 * j + 1) 0) g → Below at (get_or w₁ (base + 2 * j + 1) 0) g) →
      KeepAsk s₁ d w₁ base n free m (take (actual_count i) places₁) at at₁ (free + table_words)
  brought_keep T few_actuals base n table low below =
      let o = K.room.some in
      let p = K.room.pool in
      let f = K.room.frames in
      let v = K.room.wide in
      let x = (I.done.areas fine).short in
      let y = (I.done.areas fine).few in
      let z = I.done.still.spared.size in
      record {
        actuals = brought_ask.actuals;
        rows = brought_ask.table;
        sizes = T.sizes refl;
        table = table;
        below = below;
        many = y;
        clean = (I.done.areas fine).stored.after;
        gap = stored_gap s s₁ at at₁ (omega arith) K.clean (I.done.areas fine).stored;
        some = o;
        before = (I.done.areas fine).stored.more;
        room = omega arith;
        scratch = omega arith;
        near = omega arith;
        beside = (omega arith, omega arith);
        apart = inl (omega arith);
      }
