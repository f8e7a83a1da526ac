-- An area that holds a dictionary: its words, and zeros after them (document 01, "The dictionary": "Words after it are zero").
use Rattle.std.specs.Prelude.{◌≡◌, ℕ, ◌-◌, ◌≤◌, List, ◌++◌, length, replicate}
use Rattle.checker_rules.specs.Dictionary.{Dictionary, dictionary_words, dictionary_length}

pub record Holds (D : Dictionary) (d : List ℕ) : Type 0 where
  pub fits : dictionary_length D ≤ length d
  pub laid : d ≡ dictionary_words D ++ replicate (length d - dictionary_length D) 0
