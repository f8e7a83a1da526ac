-- The tables of uses and parents: how the code fills them, and what the first then says (the second: `reader_repeats`, specs/Parents).
use Rattle.std.specs.Prelude.{◌≡◌, List, cond, ℕ, ◌-◌, ◌<◌, length, get_or, set, eqb}
use Rattle.words.specs.Loops.{run}
use Rattle.layout.specs.Layout.{count, part}
use Rattle.reader_rules.specs.Kinds.{sort_at, is_node_sort}
use Rattle.reader_rules.specs.Nodes.{uses}
use Rattle.reader_repeats.specs.Parents.{places}

-- a number of uses as far as it matters: 0, 1, or 2 for more
abbrev pub capped : ℕ → ℕ
capped n = cond (eqb n 0) 0 (cond (eqb n 1) 1 2)

-- one more use of node v
abbrev pub bump : List ℕ → ℕ → List ℕ
bump u v = set u v (cond (eqb (get_or u v 0) 0) 1 2)

-- operand i of the node whose words are w
unfoldable pub tally_at : List ℕ → ℕ → List ℕ → List ℕ
tally_at w i u = cond (is_node_sort (sort_at w i)) (bump u (get_or w i 0)) u

abbrev pub tally_node : List ℕ → List ℕ → List ℕ
tally_node w u = run (tally_at w) 1 (length w - 1) u

abbrev pub tally_of : List ℕ → ℕ → List ℕ → List ℕ
tally_of doc k u = tally_node (part doc k) u

abbrev pub tally : List ℕ → List ℕ → List ℕ
tally doc u = run (tally_of doc) 1 (count doc) u

-- node k is the parent of its operand i
unfoldable pub link_at : List ℕ → ℕ → ℕ → List ℕ → List ℕ
link_at w k i u = cond (is_node_sort (sort_at w i)) (set u (get_or w i 0) k) u

abbrev pub link_node : List ℕ → ℕ → List ℕ → List ℕ
link_node w k u = run (link_at w k) 1 (length w - 1) u

abbrev pub link_of : List ℕ → ℕ → List ℕ → List ℕ
link_of doc k u = link_node (part doc k) k u

abbrev pub link : List ℕ → List ℕ → List ℕ
link doc u = run (link_of doc) 1 (count doc) u

pub record Used (doc u : List ℕ) : Type 0 where
  pub at : (k : ℕ) → k < places → get_or u k 0 ≡ capped (uses doc k)
