-- One entry more in an area: entries move up by the two words of the new pair, each offset grows by two, and the count by one.
use Rattle.std.specs.Prelude.{◌≡◌, ℕ, zero, suc, ◌+◌, ◌-◌, ◌*◌, ◌%◌, ◌^◌, ◌<◌, Bool, true, false, cond, List, length, ◌==◌, slice_index, slice_set}
use Rattle.std.proofs.lemmas.List.Edits.{sets}
use Rattle.words.specs.Loops.{run}
use Rattle.layout.specs.Layout.{count, offset_at, length_at}
use Rattle.checker_rules.specs.Dictionary.{Entry, Dictionary, ◌▸◌, dictionary_length}
use Rattle.checker_dictionary.specs.Holds.{Holds}

-- the words up to the last entry's end
unfoldable pub size_at : List ℕ → ℕ
size_at d = cond (count d == 0) 1 (offset_at d (count d) + length_at d (count d))

-- m words from a place on, two places up, the last one first
unfoldable pub lifted : ℕ → ℕ → List ℕ → List ℕ
lifted from zero d = d
lifted from (suc m) d = lifted from m (slice_set d (from + m + 2) (slice_index d (from + m)))

-- the word at i grows, as words do
unfoldable pub raised : ℕ → ℕ → List ℕ → List ℕ
raised i more d = slice_set d i ((slice_index d i + more) % 2 ^ 32)

-- the offset of entry k grows by two
unfoldable pub offset_raised : ℕ → List ℕ → List ℕ
offset_raised k d = raised (2 * k - 1) 2 d

-- the pair of entry n + 1, and the count
unfoldable pub pair_added : ℕ → ℕ → ℕ → List ℕ → List ℕ
pair_added n offset len d = slice_set (slice_set (raised 0 1 d) (2 * n + 1) offset) (2 * n + 2) len

-- the words w as a further entry of n that end at `end`
unfoldable pub grown : ℕ → ℕ → List ℕ → List ℕ → List ℕ
grown n end w d =
    sets (pair_added n (end + 2) (length w) (run offset_raised 1 n (lifted (2 * n + 1) (end - (2 * n + 1)) d))) (end + 2) w

-- The entry e stands in the area d' after the dictionary D of the area d; or there is no room for it, and nothing changed.
pub record Appended (D : Dictionary) (e : Entry) (d d' : List ℕ) (r : Bool) : Type 0 where
  pub fits : r ≡ true → Holds (D ▸ e) d'
  pub full : r ≡ false → (d' ≡ d) × (length d < dictionary_length (D ▸ e))
