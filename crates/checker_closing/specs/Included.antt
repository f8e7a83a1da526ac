-- What follows an Include's visit. It brings c rows at `source`, with the places of the recorded types; `row` are the places of its actuals' types, which
-- stand from `at` to `end`.
use Rattle.std.specs.Prelude.{◌≡◌, Bool, true, false, List, ℕ, ◌+◌, ◌≤◌, ◌<◌, length}
use Rattle.checker_signatures.specs.Rows.{rows, identifiers_of, merge_rows}
use Rattle.checker_signatures.specs.Tables.{Table, Beside, table_words}
use Rattle.checker_includes.specs.Filling.{RowsAsk, AgreeAsk, AgreeTold, SmallTold}
use Rattle.checker_includes.specs.Storing.{KeepAsk, RowsKept}
use Rattle.checker_closing.specs.Leaves.{NewIfTold}

-- Neither 36 nor 38.
pub record RowsFine (s d w : List ℕ) (base m source c : ℕ) (row : List ℕ) (global : Bool) : Type 0 where
  pub agree : AgreeTold s d w base m source c row true
  pub new : NewIfTold global d w (identifiers_of (rows w source c)) true
  pub small : SmallTold s d w source c row true

-- The first finding of the rows.
pub data RowsFound (s d w : List ℕ) (base m source c : ℕ) (row : List ℕ) (global : Bool) (number : ℕ) : Type 0 where
  clash : number ≡ 36 → AgreeTold s d w base m source c row false → RowsFound s d w base m source c row global number
  known : number ≡ 36 → AgreeTold s d w base m source c row true → NewIfTold global d w (identifiers_of (rows w source c)) false → RowsFound s d w base m source c row global number
  large : number ≡ 38 → AgreeTold s d w base m source c row true → NewIfTold global d w (identifiers_of (rows w source c)) true → SmallTold s d w source c row false →
      RowsFound s d w base m source c row global number
  none : number ≡ 0 → RowsFine s d w base m source c row global → RowsFound s d w base m source c row global number

-- Kept and merged: `total` rows; 38 over 16.
pub record UniteAsk (s d w : List ℕ) (base m source c : ℕ) (row : List ℕ) (at end free : ℕ) : Type 0 where
  pub keep : KeepAsk s d w base m source c row at end free
  pub merge : (s₁ w₁ : List ℕ) (last : ℕ) → RowsKept s s₁ d w w₁ base m source c row at end free last → Beside (length w₁) base (m + c) source c

pub data Total (total last number count at' : ℕ) : Type 0 where
  many : number ≡ 38 → 16 < total → Total total last number count at'
  few : number ≡ 0 → total ≤ 16 → count ≡ total → at' ≡ last → Total total last number count at'

pub record RowsUnited (s s' d w w' : List ℕ) (base m source c : ℕ) (row : List ℕ) (at end free k number place count at' : ℕ) : Type 0 where
  pub place_is : place ≡ k
  pub between : List ℕ
  pub last : ℕ
  pub kept : RowsKept s s' d w between base m source c row at end free last
  pub total : ℕ
  pub merged : Table between w' base (merge_rows (rows between source c) (rows between base m)) total
  pub outcome : Total total last number count at'

-- AS A LINE.
pub record LineAsk (s d w : List ℕ) (base m source c : ℕ) (row : List ℕ) (at end free : ℕ) (global : Bool) : Type 0 where
  pub agree : AgreeAsk s d w base m source c row
  pub unite : RowsFine s d w base m source c row global → UniteAsk s d w base m source c row at end free

pub data RowsLined (s s' d w w' : List ℕ) (base m source c : ℕ) (row : List ℕ) (at end free : ℕ) (global : Bool) (k number place count at' : ℕ) : Type 0 where
  refused : (number ≡ 0 → ⊥) → RowsFound s d w base m source c row global number → place ≡ k → s' ≡ s → w' ≡ w → RowsLined s s' d w w' base m source c row at end free global k number place count at'
  united : RowsFine s d w base m source c row global → RowsUnited s s' d w w' base m source c row at end free k number place count at' →
      RowsLined s s' d w w' base m source c row at end free global k number place count at'

-- The visit returned the finding number₀ at place₀, or c rows at free, the actuals' types ending at `end`.
pub record IncludedAsk (s d w : List ℕ) (base m at free : ℕ) (row : List ℕ) (global : Bool) (number₀ c end : ℕ) : Type 0 where
  pub rows : number₀ ≡ 0 → LineAsk s d w base m free c row at end (free + table_words) global

pub data IncludedTold (s s' d w w' : List ℕ) (base m at free : ℕ) (row : List ℕ) (global : Bool) (k number₀ place₀ c end number place count at' : ℕ) : Type 0 where
  unvisited : (number₀ ≡ 0 → ⊥) → number ≡ number₀ → place ≡ place₀ → s' ≡ s → w' ≡ w → IncludedTold s s' d w w' base m at free row global k number₀ place₀ c end number place count at'
  lined : number₀ ≡ 0 → RowsLined s s' d w w' base m free c row at end (free + table_words) global k number place count at' →
      IncludedTold s s' d w w' base m at free row global k number₀ place₀ c end number place count at'

-- AS A SCHEMA EXPRESSION.
pub record ShowAsk (s d w : List ℕ) (source c : ℕ) (row : List ℕ) (at end free : ℕ) : Type 0 where
  pub rows : RowsAsk s d w source c row
  pub keep : SmallTold s d w source c row true → KeepAsk s d w source 0 source c row at end free

pub data RowsShown (s s' d w w' : List ℕ) (source c : ℕ) (row : List ℕ) (at end free k number place count at' : ℕ) : Type 0 where
  oversized : number ≡ 38 → place ≡ k → SmallTold s d w source c row false → s' ≡ s → w' ≡ w → RowsShown s s' d w w' source c row at end free k number place count at'
  kept : number ≡ 0 → place ≡ k → count ≡ c → SmallTold s d w source c row true → RowsKept s s' d w w' source 0 source c row at end free at' →
      RowsShown s s' d w w' source c row at end free k number place count at'

pub record BroughtAsk (s d w : List ℕ) (at free : ℕ) (row : List ℕ) (number₀ c end : ℕ) : Type 0 where
  pub rows : number₀ ≡ 0 → ShowAsk s d w free c row at end (free + table_words)

pub data BroughtTold (s s' d w w' : List ℕ) (at free : ℕ) (row : List ℕ) (k number₀ place₀ c end number place count at' : ℕ) : Type 0 where
  unbrought : (number₀ ≡ 0 → ⊥) → number ≡ number₀ → place ≡ place₀ → s' ≡ s → w' ≡ w → BroughtTold s s' d w w' at free row k number₀ place₀ c end number place count at'
  shown : number₀ ≡ 0 → RowsShown s s' d w w' free c row at end (free + table_words) k number place count at' → BroughtTold s s' d w w' at free row k number₀ place₀ c end number place count at'
