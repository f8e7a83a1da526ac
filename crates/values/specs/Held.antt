-- A value by value: at most 64 words in an array, zeros after them.
use Rattle.std.specs.Prelude.{◌≡◌, ℕ, ◌-◌, ◌<◌, ◌≤◌, cond, List, ◌++◌, length, replicate, nat_le}
use Rattle.values.specs.declared.held.Held.{Held}

-- over 64 words, finding 55: length 65 and no words
unfoldable pub over : Held
over = record { words = replicate 64 0; len = 65 }

unfoldable pub keep : List ℕ → Held
keep ws = cond (nat_le (length ws) 64) (record { words = ws ++ replicate (64 - length ws) 0; len = length ws }) over

-- the words ws so far in an array of 64, zeros after them, and the place of the next; past 64 words only that the place is over 64
pub record Building (u : List ℕ) (at : ℕ) (ws : List ℕ) : Type 0 where
  pub words : length ws ≤ 64 → u ≡ ws ++ replicate (64 - length ws) 0
  pub end : length ws ≤ 64 → at ≡ length ws
  pub past : 64 < length ws → 64 < at

-- 55 for a value of over 64 words, 0 for one that is held
unfoldable pub held_finding : Held → ℕ
held_finding v = cond (nat_le v.len 64) 0 55
