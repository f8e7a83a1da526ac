-- Rows, identifier and place of a type: what checker_rules's Signatures do with a term at an identifier, done with a place.
use Rattle.std.specs.Prelude.{Bool, false, ◌||◌, cond, not, List, [], ◌∷◌, ℕ, zero, suc, ◌+◌, ◌-◌, ◌*◌, ◌/◌, ltb, eqb, length, get_or}
use Rattle.std.proofs.Math.Option.{Option, some, none as nothing}
use Rattle.reader_rules.specs.Decode.{pairs_from}
use Rattle.checker_rules.specs.Signatures.{renamed, has_old}
use Rattle.checker_rules.specs.Strokes.{decorate, takes}

-- the m rows that stand in the words w from base on, two words each
abbrev pub rows : List ℕ → ℕ → ℕ → List (ℕ × ℕ)
rows w base m = pairs_from w base m

-- the words of rows
unfoldable pub flat : List (ℕ × ℕ) → List ℕ
flat [] = []
flat (r ∷ rs) = r.0 ∷ r.1 ∷ flat rs

unfoldable pub identifiers_of : List (ℕ × ℕ) → List ℕ
identifiers_of [] = []
identifiers_of (r ∷ rs) = r.0 ∷ identifiers_of rs

-- the place of an identifier: its last row counts
unfoldable pub or_place : Option ℕ → Option ℕ → Option ℕ
or_place (some p) o = some p
or_place nothing o = o

unfoldable pub place_in : ℕ → List (ℕ × ℕ) → Option ℕ
place_in i [] = nothing
place_in i (r ∷ rs) = or_place (place_in i rs) (cond (eqb i r.0) (some r.1) nothing)

unfoldable pub has_row : ℕ → List (ℕ × ℕ) → Bool
has_row i [] = false
has_row i (r ∷ rs) = eqb i r.0 || has_row i rs

-- One row more, in its place; one that is there stays as it is.
unfoldable pub insert_row : ℕ → ℕ → List (ℕ × ℕ) → List (ℕ × ℕ)
insert_row i p [] = (i, p) ∷ []
insert_row i p (r ∷ rs) = cond (eqb i r.0) (r ∷ rs) (cond (ltb i r.0) ((i, p) ∷ r ∷ rs) (r ∷ insert_row i p rs))

unfoldable pub merge_rows : List (ℕ × ℕ) → List (ℕ × ℕ) → List (ℕ × ℕ)
merge_rows [] rs = rs
merge_rows (x ∷ xs) rs = merge_rows xs (insert_row x.0 x.1 rs)

unfoldable pub declare_rows : List ℕ → ℕ → List (ℕ × ℕ) → List (ℕ × ℕ)
declare_rows [] p rs = rs
declare_rows (i ∷ is) p rs = declare_rows is p (insert_row i p rs)

unfoldable pub stroke_rows : ℕ → List (ℕ × ℕ) → List (ℕ × ℕ)
stroke_rows k [] = []
stroke_rows k (r ∷ rs) = (decorate k r.0, r.1) ∷ stroke_rows k rs

unfoldable pub rename_rows : List (ℕ × ℕ) → List (ℕ × ℕ) → List (ℕ × ℕ)
rename_rows ps [] = []
rename_rows ps (r ∷ rs) = insert_row (renamed ps r.0) r.1 (rename_rows ps rs)

-- The pairs (old, new) of an Include are the words of its part from `first` on. With a actuals `first` is a + 4, and these are the pairs of the tree
-- (reader_rules's include_law, word for word).
abbrev pub renames : List ℕ → ℕ → List (ℕ × ℕ)
renames w first = pairs_from w first ((length w - first) / 2)

-- 37, on rows
unfoldable pub stroked_rows : ℕ → List (ℕ × ℕ) → Bool
stroked_rows k [] = false
stroked_rows k (r ∷ rs) = not (takes k r.0) || stroked_rows k rs

unfoldable pub wrong_old_rows : List (ℕ × ℕ) → List (ℕ × ℕ) → Bool
wrong_old_rows [] rs = false
wrong_old_rows (p ∷ ps) rs = not (has_row p.0 rs) || (has_old p.0 ps || wrong_old_rows ps rs)

unfoldable pub wrong_rows : ℕ → List (ℕ × ℕ) → List (ℕ × ℕ) → Bool
wrong_rows k ps rs =
    stroked_rows k rs || (wrong_old_rows ps (stroke_rows k rs) || ltb (length (rename_rows ps (stroke_rows k rs))) (length rs))

-- The stack of a scope: its rows, the newest first; the newest row of an identifier counts.
unfoldable pub stack : List ℕ → ℕ → ℕ → List (ℕ × ℕ)
stack w base zero = []
stack w base (suc n) = (get_or w (base + 2 * n) 0, get_or w (suc (base + 2 * n)) 0) ∷ stack w base n

unfoldable pub newest : ℕ → List (ℕ × ℕ) → Option ℕ
newest i [] = nothing
newest i (r ∷ rs) = cond (eqb i r.0) (some r.1) (newest i rs)

-- rows pushed on a stack one after another, as `enter` does with a signature
unfoldable pub push_rows : List (ℕ × ℕ) → List (ℕ × ℕ) → List (ℕ × ℕ)
push_rows [] st = st
push_rows (r ∷ rs) st = push_rows rs (r ∷ st)
