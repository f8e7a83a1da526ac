-- A DICTIONARY THAT GROWS. Its area may have spare words between the pairs and the entries, over which further pairs are written, so that entries need not move
-- for each of them. Words after the entries are zero.
use Rattle.std.specs.Prelude.{◌≡◌, ℕ, zero, suc, ◌+◌, ◌-◌, ◌*◌, ◌%◌, ◌^◌, ◌<◌, ◌≤◌, Bool, true, false, cond, List, ◌∷◌, ◌++◌, length, replicate, ◌==◌, slice_index, slice_set}
use Rattle.layout.specs.Layout.{count, offset_at}
use Rattle.checker_rules.specs.Dictionary.{Entry, Dictionary, entries, entry_pairs, all_words, dictionary_length}
use Rattle.checker_dictionary.specs.Growth.{size_at}
use Rattle.checker_dictionary.specs.Waiting.{with_entries, Waits}

-- count, pairs, the spare words `gap`, entries
unfoldable pub spaced_words : List ℕ → List Entry → List ℕ
spaced_words gap es = length es ∷ (entry_pairs es (1 + 2 * length es + length gap) ++ (gap ++ all_words es))

-- The area d has the dictionary D. Where there is no entry, no word is spare.
pub record Spaced (D : Dictionary) (d : List ℕ) : Type 0 where
  pub gap : List ℕ
  pub after : ℕ
  pub none : length (entries D) ≡ 0 → length gap ≡ 0
  pub laid : d ≡ spaced_words gap (entries D) ++ replicate after 0

-- Some dictionary stands in the area.
pub record Spacing (d : List ℕ) : Type 0 where
  pub dictionary : Dictionary
  pub spaced : Spaced dictionary d

-- where the entries begin
unfoldable pub first_at : List ℕ → ℕ
first_at d = cond (count d == 0) 1 (offset_at d 1)

-- the offsets of m entries from k on, the first at o, by their lengths
unfoldable pub placed : ℕ → ℕ → ℕ → List ℕ → List ℕ
placed zero k o d = d
placed (suc m) k o d = placed m (suc k) ((o + slice_index d (2 * k)) % 2 ^ 32) (slice_set d (2 * k - 1) o)

-- Entries may be moved to the place `to`, behind the pairs.
pub record PlaceAsk (d : List ℕ) (to : ℕ) : Type 0 where
  pub spacing : Spacing d
  pub low : 1 + 2 * count d ≤ to
  pub room : to + (size_at d - first_at d) ≤ length d
  pub few : to + (size_at d - first_at d) < 2 ^ 32
  pub near : size_at d < 2 ^ 32

-- The entries es begin at `to` in the area d.
pub record Respaced (es : List Entry) (d : List ℕ) (to : ℕ) : Type 0 where
  pub gap : List ℕ
  pub after : ℕ
  pub begins : to ≡ 1 + 2 * length es + length gap
  pub laid : d ≡ spaced_words gap es ++ replicate after 0

-- The words that a dictionary may use: all, or as many as 31 bits count.
pub record Usable (d : List ℕ) (r : ℕ) : Type 0 where
  pub most : r ≤ length d
  pub near : r < 2 ^ 31
  pub whole : r < length d → r ≡ 2147483647

-- ROOM for m pairs and x words more.
pub record RoomAsk (d : List ℕ) (m x limit : ℕ) : Type 0 where
  pub spacing : Spacing d
  pub room : 2 * count d + 1 + 2 * m + (size_at d - first_at d) + x ≤ limit
  pub most : limit ≤ length d
  pub near : limit < 2 ^ 31
  pub within : size_at d < 2 ^ 31

-- The entries es have it in the area d; they end at `end`.
pub record Roomy (es : List Entry) (d : List ℕ) (m x limit end : ℕ) : Type 0 where
  pub gap : List ℕ
  pub after : ℕ
  pub laid : d ≡ spaced_words gap es ++ replicate after 0
  pub pairs : 2 * m ≤ length gap
  pub ends : end ≡ 1 + 2 * length es + length gap + length (all_words es)
  pub words : end + x ≤ limit

-- ENTRIES ONE AFTER ANOTHER: m that wait, after n that end at `end`.
pub record PutAsk (d w : List ℕ) (at m n end : ℕ) : Type 0 where
  pub entries : List Entry
  pub counted : length entries ≡ m
  pub waits : Waits entries w at
  pub few : n + m < 2 ^ 32
  pub room : end + length (all_words entries) ≤ length d
  pub near : end + length (all_words entries) < 2 ^ 32

-- The entries fs stand after es, over 2 m spare words.
pub record Put (es fs : List Entry) (gap d : List ℕ) : Type 0 where
  pub rest : List ℕ
  pub after : ℕ
  pub shorter : length rest + 2 * length fs ≡ length gap
  pub laid : d ≡ spaced_words rest (es ++ fs) ++ replicate after 0

pub record AllPut (d d' w : List ℕ) (at m n end : ℕ) : Type 0 where
  pub put : (es fs : List Entry) (gap : List ℕ) (after : ℕ) → d ≡ spaced_words gap es ++ replicate after 0 → n ≡ length es → end ≡ 1 + 2 * length es + length gap + length (all_words es) →
      2 * m ≤ length gap → length fs ≡ m → Waits fs w at → length (all_words fs) ≤ after → Put es fs gap d'

-- All entries stand after the dictionary D; or they do not fit the area.
pub record AllAppended (D : Dictionary) (es : List Entry) (d d' : List ℕ) (r : Bool) : Type 0 where
  pub fits : r ≡ true → Spaced (with_entries es D) d'
  pub near : r ≡ true → size_at d' < 2 ^ 31
  pub full : r ≡ false → dictionary_length (with_entries es D) < 2 ^ 31 → length d < dictionary_length (with_entries es D)
