-- "entries in order of declaration": what the words of a dictionary are after one more declaration.
use Rattle.std.specs.Prelude.{◌≡◌, ℕ, suc, ◌≤◌}
use Rattle.layout.specs.Layout.{count, part}
use Rattle.checker_rules.specs.Dictionary.{Entry, Dictionary, blank, ◌▸◌, entry_words, dictionary_words}

-- one entry more, which is the last; the earlier ones stay as they were
pub record Declared (D : Dictionary) (e : Entry) : Type 0 where
  pub counted : count (dictionary_words (D ▸ e)) ≡ suc (count (dictionary_words D))
  pub newest : part (dictionary_words (D ▸ e)) (count (dictionary_words (D ▸ e))) ≡ entry_words e
  pub earlier : (k : ℕ) → 1 ≤ k → k ≤ count (dictionary_words D) → part (dictionary_words (D ▸ e)) k ≡ part (dictionary_words D) k

pub record InOrder : Type 0 where
  pub start : count (dictionary_words blank) ≡ 0
  pub declared : (D : Dictionary) (e : Entry) → Declared D e
