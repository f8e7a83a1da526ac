-- The values of a run, and their words.
use Rattle.std.specs.Prelude.{ℕ, suc, List, [], ◌∷◌, ◌++◌, ℤ}
use Rattle.values_integers.specs.Integer.{word_of}

mutual
  pub data Value : Type 0 where
    int : ℤ → Value
    element : ℕ → ℕ → Value
    set : Values → Value
    tuple : Values → Value

  pub data Values : Type 0 where
    nil : Values
    cons : Value → Values → Values

unfoldable pub count : Values → ℕ
count nil = 0
count (cons v vs) = suc (count vs)

-- 1 n integer; 2 g k element k of given g; 3 n members; 4 n parts
unfoldable mutual
  pub encode : Value → List ℕ
  encode (int z) = 1 ∷ word_of z ∷ []
  encode (element g k) = 2 ∷ g ∷ k ∷ []
  encode (set vs) = 3 ∷ count vs ∷ encodes vs
  encode (tuple vs) = 4 ∷ count vs ∷ encodes vs

  pub encodes : Values → List ℕ
  encodes nil = []
  encodes (cons v vs) = encode v ++ encodes vs
