-- 36 and 38 of a Conjunction: the left side's table has m rows at `free`, the right side's n rows 64 words after it; the right side's types stand in the
-- pool from `at` to `end`.
use Rattle.std.specs.Prelude.{◌≡◌, true, false, List, [], ◌⊎◌, ℕ, ◌+◌, ◌≤◌, ◌<◌}
use Rattle.checker_signatures.specs.Rows.{rows, merge_rows}
use Rattle.checker_signatures.specs.Tables.{Table, table_words}
use Rattle.checker_merging.specs.Merging.{RowsAsk, RowsTold}
use Rattle.checker_includes.specs.Storing.{KeepAsk, RowsKept}
use Rattle.checker_contracts.specs.Room.{frame_words}

pub record JoinAsk (s d w : List ℕ) (free m n at end : ℕ) : Type 0 where
  pub few : m ≤ 16
  pub agree : RowsAsk s d w free m (free + table_words) n
  pub keep : KeepAsk s d w free m (free + table_words) n [] at end (free + frame_words)

-- 36
pub record Clashing (s s' d w w' : List ℕ) (free m n number : ℕ) : Type 0 where
  pub number_is : number ≡ 36
  pub told : RowsTold s d w free m (free + table_words) n false
  pub still : s' ≡ s
  pub same : w' ≡ w

-- The types of the right side's new identifiers are kept, and its rows merged: `total` rows; 38 over 16.
pub record Uniting (s s' d w w' : List ℕ) (free m n at end number count at' : ℕ) : Type 0 where
  pub told : RowsTold s d w free m (free + table_words) n true
  pub between : List ℕ
  pub last : ℕ
  pub kept : RowsKept s s' d w between free m (free + table_words) n [] at end (free + frame_words) last
  pub total : ℕ
  pub merged : Table between w' free (merge_rows (rows between (free + table_words) n) (rows between free m)) total
  pub outcome : ((number ≡ 38) × (16 < total)) ⊎ ((number ≡ 0) × (total ≤ 16) × (count ≡ total) × (at' ≡ last))

pub record Joined (s s' d w w' : List ℕ) (free m n at end k number place count at' : ℕ) : Type 0 where
  pub place_is : place ≡ k
  pub found : Clashing s s' d w w' free m n number ⊎ Uniting s s' d w w' free m n at end number count at'
