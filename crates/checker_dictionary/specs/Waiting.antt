-- Entries that wait for their paragraph's end in another area, each after its length; and all of them appended (22 comes after all else in a paragraph).
use Rattle.std.specs.Prelude.{◌≡◌, ℕ, ◌<◌, Bool, true, false, List, [], ◌∷◌, ◌++◌, length, drop}
use Rattle.checker_rules.specs.Dictionary.{Entry, entry_words, Dictionary, ◌▸◌, dictionary_length}
use Rattle.checker_dictionary.specs.Holds.{Holds}

unfoldable pub with_entries : List Entry → Dictionary → Dictionary
with_entries [] D = D
with_entries (e ∷ es) D = with_entries es (D ▸ e)

unfoldable pub waiting : List Entry → List ℕ
waiting [] = []
waiting (e ∷ es) = length (entry_words e) ∷ (entry_words e ++ waiting es)

-- The entries wait at the place `at` of the words w.
pub record Waits (es : List Entry) (w : List ℕ) (at : ℕ) : Type 0 where
  pub after : List ℕ
  pub words : drop at w ≡ waiting es ++ after

-- m entries wait.
pub record Waiting (w : List ℕ) (at m : ℕ) : Type 0 where
  pub entries : List Entry
  pub count : length entries ≡ m
  pub waits : Waits entries w at

-- All entries stand after the dictionary D; or they do not fit the area.
pub record AppendedAll (D : Dictionary) (es : List Entry) (d d' : List ℕ) (r : Bool) : Type 0 where
  pub fits : r ≡ true → Holds (with_entries es D) d'
  pub full : r ≡ false → length d < dictionary_length (with_entries es D)
