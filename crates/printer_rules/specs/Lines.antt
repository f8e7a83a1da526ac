-- The printed lines (document 01, "The printed finding"). Words and numbers are parted by one space, byte 32; a line ends in byte 10.
use Rattle.std.specs.Prelude.{List, [], ◌∷◌, ◌++◌, cond, ℕ, ◌+◌, eqb, take, drop}
use Rattle.words.specs.Loops.{joined}
use Rattle.layout.specs.Layout.{count, offset_at, length_at, part}
use Rattle.printer_rules.specs.Decimal.{decimal}

-- "accepted", "refused", "at"
unfoldable pub accepted_bytes : List ℕ
accepted_bytes = 97 ∷ 99 ∷ 99 ∷ 101 ∷ 112 ∷ 116 ∷ 101 ∷ 100 ∷ []

unfoldable pub refused_bytes : List ℕ
refused_bytes = 114 ∷ 101 ∷ 102 ∷ 117 ∷ 115 ∷ 101 ∷ 100 ∷ []

unfoldable pub at_bytes : List ℕ
at_bytes = 97 ∷ 116 ∷ []

-- a space and a number, for each of the numbers
unfoldable pub spaced : List ℕ → List ℕ
spaced [] = []
spaced (w ∷ ws) = 32 ∷ (decimal w ++ spaced ws)

-- numbers parted by spaces
unfoldable pub numbers : List ℕ → List ℕ
numbers [] = []
numbers (w ∷ ws) = decimal w ++ spaced ws

-- an entry's line: class, identifier, parameter count, a colon, type words
unfoldable pub entry_line : List ℕ → List ℕ
entry_line w = numbers (take 3 w) ++ (32 ∷ 58 ∷ (spaced (drop 3 w) ++ (10 ∷ [])))

-- the words of a dictionary that stands at the beginning of its area: the last entry ends them, the count where there is none
unfoldable pub dictionary_size : List ℕ → ℕ
dictionary_size d = cond (eqb (count d) 0) 1 (offset_at d (count d) + length_at d (count d))

unfoldable pub entry_lines : List ℕ → List ℕ
entry_lines d = joined (λ k. entry_line (part d k)) 1 (count d)

-- the word accepted, dictionary words, entries; then a line per entry
unfoldable pub accepted_lines : List ℕ → List ℕ
accepted_lines d = accepted_bytes ++ (spaced (dictionary_size d ∷ count d ∷ []) ++ (10 ∷ entry_lines d))

unfoldable pub refused_line : ℕ → ℕ → List ℕ
refused_line number place = refused_bytes ++ (spaced (number ∷ []) ++ (32 ∷ (at_bytes ++ (spaced (place ∷ []) ++ (10 ∷ [])))))
