-- How the lists can be made, on values and on words. The laws of proofs/OnWords.antt say that these make `subsets` and `tuples`.
use Rattle.std.specs.Prelude.{cond, List, [], ◌∷◌, ◌++◌, ℕ, zero, suc, ◌+◌, ◌*◌, ◌/◌, ◌%◌, ◌^◌, eqb, ltb, get_or, drop}
use Rattle.values.specs.Value.{Value, Values, nil, cons, count}
use Rattle.values.specs.Sets.{first, rest}

-- ---- a product grows operand by operand: every row so far, with each member of the next operand after it

unfoldable pub also : Values → Value → Values
also nil w = cons w nil
also (cons v r) w = cons v (also r w)

unfoldable pub endings : Values → Values → List Values
endings r nil = []
endings r (cons v vs) = also r v ∷ endings r vs

unfoldable pub grow : List Values → Values → List Values
grow [] vs = []
grow (r ∷ rs) vs = endings r vs ++ grow rs vs

unfoldable pub grown : List Values → List Values → List Values
grown rs [] = rs
grown rs (vs ∷ vss) = grown (grow rs vs) vss

-- on words: the tuple t with one more part m; n members from ws on; m tuples from ps on
unfoldable pub longer : List ℕ → List ℕ → List ℕ
longer t m = 4 ∷ (get_or t 1 0 + 1) % 2 ^ 32 ∷ (drop 2 t ++ m)

unfoldable pub endings_on : ℕ → List ℕ → List ℕ → List ℕ
endings_on zero t ws = []
endings_on (suc n) t ws = longer t (first ws) ++ endings_on n t (rest ws)

unfoldable pub tuples_on : ℕ → List ℕ → ℕ → List ℕ → List ℕ
tuples_on zero ps n ws = []
tuples_on (suc m) ps n ws = endings_on n (first ps) ws ++ tuples_on m (rest ps) n ws

-- the set p of tuples, with each member of the set s after each
unfoldable pub grow_on : List ℕ → List ℕ → List ℕ
grow_on p s = 3 ∷ get_or p 1 0 * get_or s 1 0 % 2 ^ 32 ∷ tuples_on (get_or p 1 0) (drop 2 p) (get_or s 1 0) (drop 2 s)

-- ---- a power of at most three members goes by masks: bit i stands for member i

-- ascending: the masks of no member, of one, of two, of three
abbrev pub masks : List ℕ
masks = 0 ∷ 1 ∷ 2 ∷ 4 ∷ 3 ∷ 5 ∷ 6 ∷ 7 ∷ []

unfoldable pub masked : ℕ → Values → Values
masked mask nil = nil
masked mask (cons v vs) = cond (eqb (mask % 2) 1) (cons v (masked (mask / 2) vs)) (masked (mask / 2) vs)

unfoldable pub by_masks : List ℕ → Values → List Values
by_masks [] vs = []
by_masks (m ∷ ms) vs = cond (ltb m (2 ^ count vs)) (masked m vs ∷ by_masks ms vs) (by_masks ms vs)

-- on words: of n members from ws on, how many the mask takes, and their words
unfoldable pub taken_on : ℕ → ℕ → ℕ
taken_on zero mask = 0
taken_on (suc n) mask = mask % 2 + taken_on n (mask / 2)

unfoldable pub masked_on : ℕ → ℕ → List ℕ → List ℕ
masked_on zero mask ws = []
masked_on (suc n) mask ws = cond (eqb (mask % 2) 1) (first ws) [] ++ masked_on n (mask / 2) (rest ws)

unfoldable pub sets_on : List ℕ → ℕ → List ℕ → List ℕ
sets_on [] n ws = []
sets_on (m ∷ ms) n ws = cond (ltb m (2 ^ n)) (3 ∷ taken_on n m ∷ masked_on n m ws) [] ++ sets_on ms n ws

-- the power of the set s
unfoldable pub power_on : List ℕ → List ℕ
power_on s = 3 ∷ 2 ^ get_or s 1 0 ∷ sets_on masks (get_or s 1 0) (drop 2 s)
