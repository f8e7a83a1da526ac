-- The tables of counts, up to a node: identifiers of each Text, nodes below each closing node.
use Rattle.std.specs.Prelude.{◌≡◌, List, [], ◌∷◌, Bool, true, false, ◌||◌, cond, ℕ, zero, suc, ◌+◌, ◌<◌, length, get_or, set, ltb, eqb}
use Rattle.reader_rules.specs.Nodes.{kind_at, parent}
use Rattle.reader_rules.specs.Limits.{is_closing, below_up_to, declared_up_to, too_deep, too_nested, too_wide, too_crowded}
use Rattle.reader_repeats.specs.Parents.{places}

-- there are at least n nodes above k
unfoldable pub reaches : List ℕ → ℕ → ℕ → Bool
reaches doc zero k = true
reaches doc (suc n) k = cond (eqb (parent doc k) 0) false (reaches doc n (parent doc k))

-- one more node below each closing node among some; whether one of them then has more than 24
unfoldable pub counted : List ℕ → List ℕ → List ℕ → List ℕ
counted doc [] u = u
counted doc (a ∷ rest) u = cond (is_closing (kind_at doc a)) (counted doc rest (set u a (get_or u a 0 + 1))) (counted doc rest u)

unfoldable pub over : List ℕ → List ℕ → List ℕ → Bool
over doc [] u = false
over doc (a ∷ rest) u =
    cond (is_closing (kind_at doc a)) (ltb 24 (get_or u a 0 + 1) || over doc rest (set u a (get_or u a 0 + 1))) (over doc rest u)

-- one more node below a, which stands before some others: the answer tells whether it then has more than 24
pub record CrowdedOne (doc : List ℕ) (a : ℕ) (u u' : List ℕ) (r : Bool) : Type 0 where
  pub stops : r ≡ true → (rest : List ℕ) → over doc (a ∷ rest) u ≡ true
  pub goes : r ≡ false → (rest : List ℕ) → (over doc (a ∷ rest) u ≡ over doc rest u') × (counted doc (a ∷ rest) u ≡ counted doc rest u')

-- the table of nodes below each closing node, up to node k
pub record Below (doc : List ℕ) (k : ℕ) (u : List ℕ) : Type 0 where
  pub size : length u ≡ places
  pub at : (a : ℕ) → a < places → is_closing (kind_at doc a) ≡ true → get_or u a 0 ≡ below_up_to doc a k

-- the table of identifiers in the Decls of each Text, up to node k
pub record Declared (doc : List ℕ) (k : ℕ) (u : List ℕ) : Type 0 where
  pub size : length u ≡ places
  pub at : (t : ℕ) → t < places → get_or u t 0 ≡ declared_up_to doc t k

-- both tables, up to node k
pub record Counted (doc : List ℕ) (k : ℕ) (u v : List ℕ) : Type 0 where
  pub below : Below doc k u
  pub declared : Declared doc k v

-- the limits that go by the tree
abbrev pub past_tree : List ℕ → ℕ → Bool
past_tree doc k = too_deep doc k || (too_nested doc k || (too_wide doc k || too_crowded doc k))
