-- What the functions on tables promise and ask. A table of n rows stands in 2 n words of the work area.
use Rattle.std.specs.Prelude.{◌≡◌, Bool, false, ◌⊎◌, List, ℕ, ◌+◌, ◌*◌, ◌≤◌, ◌<◌, length, get_or}
use Rattle.std.proofs.Math.Option.{some, none as nothing}
use Rattle.std.proofs.lemmas.List.Edits.{sets}
use Rattle.checker_signatures.specs.Rows.{rows, flat, place_in, stroke_rows, rename_rows, wrong_rows}

-- The words of a table for a signature's 16 rows; and of one with room for as many rows again.
abbrev pub half_table : ℕ
half_table = 32

abbrev pub table_words : ℕ
table_words = 2 * half_table

-- w with the rows rs written from base on is w'; n is their number
pub record Table (w w' : List ℕ) (base : ℕ) (rs : List (ℕ × ℕ)) (n : ℕ) : Type 0 where
  pub words : w' ≡ sets w base (flat rs)
  pub count : n ≡ length rs

-- r is the last of the m rows whose identifier is i, and m if there is none
pub record Finds (w : List ℕ) (base m i r : ℕ) : Type 0 where
  pub most : r ≤ m
  pub there : r < m → place_in i (rows w base m) ≡ some (get_or w (base + 2 * r + 1) 0)
  pub present : r < m → get_or w (base + 2 * r) 0 ≡ i
  pub absent : m ≤ r → place_in i (rows w base m) ≡ nothing

-- The n rows from base on and the k rows from `source` on lie in the l words of the area, and no word is in both.
pub record Beside (l base n source k : ℕ) : Type 0 where
  pub room : base + 2 * n ≤ l
  pub inside : source + 2 * k ≤ l
  pub apart : (base + 2 * n ≤ source) ⊎ (source + 2 * k ≤ base)

-- What an Include brings: the m rows at `source` take the stroke k there, and with the pairs ps renamed they are written from base on. Where the
-- names are wrong, 37, nothing is said of the rows; words below both stay.
pub record Brings (w w' : List ℕ) (source m base k : ℕ) (ps : List (ℕ × ℕ)) (wrong : Bool) (n : ℕ) : Type 0 where
  pub finding : wrong ≡ wrong_rows k ps (rows w source m)
  pub words : wrong ≡ false
      → Table (sets w source (flat (stroke_rows k (rows w source m)))) w' base (rename_rows ps (stroke_rows k (rows w source m))) n
  pub below : (i : ℕ) → i < source → i < base → get_or w' i 0 ≡ get_or w i 0

-- r rows of the stack at base: rs on top of n rows
pub record Pushed (w w' : List ℕ) (base n : ℕ) (rs : List (ℕ × ℕ)) (r : ℕ) : Type 0 where
  pub words : w' ≡ sets w (base + 2 * n) (flat rs)
  pub count : r ≡ n + length rs
