-- The caller's part of the area is zero from the word before `at` on: no type's words reach `at`, since a type's words begin with a tag and have no two zeros in a row.
use Rattle.std.specs.Prelude.{◌≡◌, List, ℕ, suc, ◌≤◌, ◌<◌, get_or}
use Rattle.types_cells.specs.Layout.{pool_size}

abbrev pub Clean : List ℕ → ℕ → Type 0
Clean s at = (i : ℕ) → at ≤ suc i → i < pool_size → get_or s i 0 ≡ 0
