-- What the bound on the printed length speaks of.
use Rattle.std.specs.Prelude.{List, [], ◌∷◌, ℕ, ◌+◌, ◌*◌, ◌^◌, ◌<◌}
use Rattle.reader_rules.specs.Refusals.{Finding, Accepted, Refused}

-- words of 32 bits
pub data Words : List ℕ → Type 0 where
  none : Words []
  word : {w : ℕ} {ws : List ℕ} → w < 2 ^ 32 → Words ws → Words (w ∷ ws)

-- a finding whose number and place are words
pub data OfWords : Finding → Type 0 where
  no_place : OfWords Accepted
  placed : {number place : ℕ} → number < 2 ^ 32 → place < 2 ^ 32 → OfWords (Refused number place)

-- bytes of a buffer that always suffice for a dictionary area of n words, with the zero that ends the text
abbrev pub enough : ℕ → ℕ
enough n = 11 * n + 34
