-- How far a value's words reach, by tags and counts alone. Whether they are a value is asked in specs/Form.antt.
use Rattle.std.specs.Prelude.{ℕ, zero, suc, ◌+◌, cond, List, drop, ◌==◌, nat_le, slice_index}

-- the words before the first part: tag, given and element; or tag and integer or count
unfoldable pub head : List ℕ → ℕ
head ws = cond (slice_index ws 0 == 2) 3 2

-- how many values follow as members or parts
unfoldable pub parts : List ℕ → ℕ
parts ws = cond (nat_le (slice_index ws 0) 2) 0 (slice_index ws 1)

-- the words of `left` values at the beginning of ws; at most `heads` heads are read
unfoldable pub spans : ℕ → ℕ → List ℕ → ℕ
spans zero left ws = 0
spans (suc heads) zero ws = 0
spans (suc heads) (suc left) ws = head ws + spans heads (parts ws + left) (drop (head ws) ws)

-- the words of the value at the beginning of ws. A head is at least two words, so 64 words have at most 32.
unfoldable pub span : List ℕ → ℕ
span ws = spans 32 1 ws
