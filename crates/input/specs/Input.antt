-- The words of input bytes (document 01, "The printed finding"): four bytes a word, low byte first.
use Rattle.std.specs.Prelude.{Bool, ◌&&◌, cond, List, [], ◌∷◌, ◌++◌, ℕ, ◌+◌, ◌*◌, ◌/◌, ◌%◌, leb, eqb, length, get_or, drop}
use Rattle.words.specs.Loops.{joined}

unfoldable pub word_at : List ℕ → ℕ → ℕ
word_at bytes i = get_or bytes (4 * i) 0 + 256 * get_or bytes (4 * i + 1) 0 + 65536 * get_or bytes (4 * i + 2) 0 + 16777216 * get_or bytes (4 * i + 3) 0

unfoldable pub first_words : List ℕ → ℕ → List ℕ
first_words bytes n = joined (λ i. word_at bytes i ∷ []) 0 n

unfoldable pub words_of : List ℕ → List ℕ
words_of bytes = first_words bytes (length bytes / 4)

-- a length that is divisible by 4, of no more words than there is room for: 16,384 words are 65,536 bytes
unfoldable pub are_words : List ℕ → ℕ → Bool
are_words bytes room = eqb (length bytes % 4) 0 && leb (length bytes) (4 * room)

-- an area with the words at its beginning
unfoldable pub words_after : List ℕ → List ℕ → List ℕ
words_after bytes area = cond (are_words bytes (length area)) (words_of bytes ++ drop (length bytes / 4) area) area
