-- Rows of words laid out as count and pairs: the number of rows, a pair (offset, length) for each, then their words one after another.
use Rattle.std.specs.Prelude.{List, [], ◌∷◌, ◌++◌, ℕ, ◌+◌, ◌*◌, length}

abbrev pub Rows : Type 0
Rows = List (List ℕ)

-- the words of the first row begin at o
unfoldable pub row_pairs : Rows → ℕ → List ℕ
row_pairs [] o = []
row_pairs (w ∷ ws) o = o ∷ length w ∷ row_pairs ws (o + length w)

unfoldable pub row_words : Rows → List ℕ
row_words [] = []
row_words (w ∷ ws) = w ++ row_words ws

unfoldable pub lay_out : Rows → List ℕ
lay_out ws = length ws ∷ (row_pairs ws (1 + 2 * length ws) ++ row_words ws)
