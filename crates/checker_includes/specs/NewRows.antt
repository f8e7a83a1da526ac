-- Rows that a table does not have yet.
use Rattle.std.specs.Prelude.{cond, List, [], ◌∷◌, ℕ, suc}
use Rattle.checker_signatures.specs.Rows.{has_row}

-- the number of rows whose identifier is not in a table
unfoldable pub new_rows : List (ℕ × ℕ) → List (ℕ × ℕ) → ℕ
new_rows [] rs = 0
new_rows (x ∷ xs) rs = cond (has_row x.0 rs) (new_rows xs rs) (suc (new_rows xs rs))
