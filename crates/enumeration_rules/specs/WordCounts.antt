-- How many words a power and a product have, from the operands' counts and words alone: 55 is decided before anything is listed.
use Rattle.std.specs.Prelude.{Bool, ◌&&◌, List, [], ◌∷◌, ℕ, ◌+◌, ◌*◌, ◌^◌, leb, length}
use Rattle.values.specs.Value.{Values, count, encodes}

-- the power of a set of m members that have w words together has 2 + 2^m (4 + w) / 2 words: is that at most 64?
unfoldable pub power_fits : ℕ → ℕ → Bool
power_fits m w = leb m 3 && leb (2 ^ m * (4 + w)) 124

-- how many rows the operands have, and how many words their parts have together
unfoldable pub row_count : List Values → ℕ
row_count [] = 1
row_count (vs ∷ vss) = count vs * row_count vss

unfoldable pub row_words : List Values → ℕ
row_words [] = 0
row_words (vs ∷ vss) = length (encodes vs) * row_count vss + count vs * row_words vss

-- a tag and a count for the set, the same for each tuple
unfoldable pub product_words : List Values → ℕ
product_words vss = 2 + (2 * row_count vss + row_words vss)
