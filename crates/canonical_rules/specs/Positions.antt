-- Where a number stands in a list of numbers; the function that takes the numbers of one list to those of another, place by place.
use Rattle.std.specs.Prelude.{◌≡◌, true, false, cond, List, [], ◌∷◌, ℕ, suc, ltb, eqb, length, get_or}
use Rattle.words.specs.Loops.{has}
use Rattle.reader_rules.specs.TreeNumbers.{node_numbers}
use Rattle.reader_rules.specs.Decode.{tree_of}

-- the list's length where it does not stand there
unfoldable pub index_of : ℕ → List ℕ → ℕ
index_of n [] = 0
index_of n (x ∷ l) = cond (eqb x n) 0 (suc (index_of n l))

-- each number once
abbrev pub Distinct : List ℕ → Type 0
Distinct [] = Unit {0}
Distinct (x ∷ l) = (has x l ≡ false) × Distinct l

-- The number that stands in m where n stands in l; a number that does not stand in l stays.
unfoldable pub carry : List ℕ → List ℕ → ℕ → ℕ
carry l m n = cond (ltb (index_of n l) (length l)) (get_or m (index_of n l) 0) n

abbrev pub InjectiveOn : List ℕ → (ℕ → ℕ) → Type 0
InjectiveOn l f = (n m : ℕ) → has n l ≡ true → has m l ≡ true → f n ≡ f m → n ≡ m

-- a node's number in another document with the same tree
unfoldable pub corresponding : List ℕ → List ℕ → ℕ → ℕ
corresponding doc dup = carry (node_numbers (tree_of doc)) (node_numbers (tree_of dup))
