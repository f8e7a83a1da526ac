-- Finding 17: the limits (document 01, "Limits"). Each test holds at the first node past its limit, in node order, and perhaps at later nodes.
use Rattle.std.specs.Prelude.{ℕ, ◌+◌, ◌-◌, List, [], ◌∷◌, Bool, false, ◌&&◌, ◌||◌, cond, length, ltb, eqb}
use Rattle.words.specs.Loops.{total, has}
use Rattle.reader_rules.specs.Kinds.{between}
use Rattle.reader_rules.specs.Nodes.{kind_at, parent, ancestors}
use Rattle.reader_rules.specs.Repeats.{globals, declared_in}

-- the number of nodes from the Document down to k, both counted; more than 12 of them
abbrev pub depth : List ℕ → ℕ → ℕ
depth doc k = 1 + length (ancestors doc k)

abbrev pub too_deep : List ℕ → ℕ → Bool
too_deep doc k = ltb 12 (depth doc k)

-- the number of Texts among some nodes
unfoldable pub texts_among : List ℕ → List ℕ → ℕ
texts_among doc [] = 0
texts_among doc (a ∷ rest) = cond (eqb (kind_at doc a) 10) 1 0 + texts_among doc rest

-- a Text inside 4 others
abbrev pub too_nested : List ℕ → ℕ → Bool
too_nested doc k = eqb (kind_at doc k) 10 && ltb 4 (1 + texts_among doc (ancestors doc k))

-- a Decl at which its Text's Decls have more than 6 identifiers
abbrev pub declared_up_to : List ℕ → ℕ → ℕ → ℕ
declared_up_to doc t k = total (λ j. length (declared_in doc t j)) 1 k

abbrev pub too_wide : List ℕ → ℕ → Bool
too_wide doc k = eqb (kind_at doc k) 11 && ltb 6 (declared_up_to doc (parent doc k) k)

-- a Decl, Include, Abbreviation, or node of kind 21 to 23
unfoldable pub is_closing : ℕ → Bool
is_closing q = eqb q 5 || (between 11 q 12 || between 21 q 23)

-- the number of nodes up to k that lie below node a
abbrev pub below_up_to : List ℕ → ℕ → ℕ → ℕ
below_up_to doc a k = total (λ j. cond (has a (ancestors doc j)) 1 0) 1 k

-- one of some nodes is closing and has more than 24 nodes below it, up to k
unfoldable pub any_crowded : List ℕ → ℕ → List ℕ → Bool
any_crowded doc k [] = false
any_crowded doc k (a ∷ rest) = (is_closing (kind_at doc a) && ltb 24 (below_up_to doc a k)) || any_crowded doc k rest

abbrev pub too_crowded : List ℕ → ℕ → Bool
too_crowded doc k = any_crowded doc k (ancestors doc k)

-- more than 64 identifiers in Given, Axiom Decl and Abbreviation
abbrev pub globals_up_to : List ℕ → ℕ → ℕ
globals_up_to doc k = total (λ j. length (globals doc j)) 1 k

abbrev pub too_many : List ℕ → ℕ → Bool
too_many doc k = ltb 64 (globals_up_to doc k)

unfoldable pub limit_number : List ℕ → ℕ → ℕ
limit_number doc k = cond (too_deep doc k || (too_nested doc k || (too_wide doc k || (too_crowded doc k || too_many doc k)))) 17 0

-- what the limits leave to a path down from node k, k counted: nodes, and Texts
unfoldable pub nodes_left : List ℕ → ℕ → ℕ
nodes_left doc k = 12 - length (ancestors doc k)

unfoldable pub texts_left : List ℕ → ℕ → ℕ
texts_left doc k = 4 - texts_among doc (ancestors doc k)
