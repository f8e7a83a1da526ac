-- Listed powers and products, worked out.
use mathlib.Core.Path.{◌≡◌, refl}
use mathlib.Core.Bool.{true, false}
use mathlib.Core.List.{[], ◌∷◌, ◌++◌}
use Prim.Native.Nat.{ℕ, zero, suc}
use lib.IntN.{pos}
use lib.ListN.{length}
use Rattle.values_integers.specs.Integer.{word_of}
use Rattle.values.specs.Value.{int, set, Values, nil, cons, count, encode, encodes}
use Rattle.enumeration_rules.specs.Enumeration.{before, rows, choices, choices_from, picks, each, subsets, tuples}
use Rattle.enumeration_rules.specs.WordCounts.{power_fits, row_count, row_words, product_words}

-- whole numbers from k on
unfoldable numbers : ℕ → ℕ → Values
numbers k zero = nil
numbers k (suc n) = cons (int (pos k)) (numbers (suc k) n)

three_words : length (encode (set (subsets (numbers 1 3)))) ≡ 42
unfolding subsets choices_from choices rows before each encode count numbers
three_words = refl

four_words : length (encode (set (subsets (numbers 1 4)))) ≡ 98
unfolding subsets choices_from choices rows before each encode count numbers
four_words = refl

-- ascending: by size, then by members
two_members : subsets (numbers 1 2) ≡ cons (set nil) (cons (set (numbers 1 1)) (cons (set (numbers 2 1)) (cons (set (numbers 1 2)) nil)))
unfolding subsets choices_from choices rows before each count numbers
two_members = refl

-- the power of the empty set
one_member : subsets nil ≡ cons (set nil) nil
unfolding subsets choices_from choices rows before each count
one_member = refl

-- {1, 2} × {3, 4}
pairs : encodes (tuples (numbers 1 2 ∷ numbers 3 2 ∷ [])) ≡
    (4 ∷ 2 ∷ 1 ∷ 1 ∷ 1 ∷ 3 ∷ []) ++ (4 ∷ 2 ∷ 1 ∷ 1 ∷ 1 ∷ 4 ∷ []) ++ (4 ∷ 2 ∷ 1 ∷ 2 ∷ 1 ∷ 3 ∷ []) ++ (4 ∷ 2 ∷ 1 ∷ 2 ∷ 1 ∷ 4 ∷ [])
unfolding tuples picks rows before each encode count numbers word_of
pairs = refl

-- an empty operand: nothing is listed, however large the others are
empty_product : tuples (numbers 1 5 ∷ nil ∷ numbers 1 5 ∷ []) ≡ nil
unfolding tuples picks rows before each numbers
empty_product = refl

empty_words : product_words (numbers 1 5 ∷ nil ∷ numbers 1 5 ∷ []) ≡ 2
unfolding product_words row_count row_words encode count numbers
empty_words = refl

-- three members of 11 words together fit, of 12 they do not; four never do
limits : (power_fits 3 11 ≡ true) × (power_fits 3 12 ≡ false) × (power_fits 4 8 ≡ false) × (power_fits 2 27 ≡ true) × (power_fits 1 58 ≡ true) × (power_fits 31 62 ≡ false)
unfolding power_fits
limits = (refl, refl, refl, refl, refl, refl)
