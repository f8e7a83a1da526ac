-- The words of a node with other node numbers: f of each operand that is a node.
use Rattle.std.specs.Prelude.{cond, List, [], ◌∷◌, ℕ, suc}
use Rattle.reader_rules.specs.Kinds.{sort_at, is_node_sort}

module _ (f : ℕ → ℕ) where
  -- the words v from place i on of the node's words w
  unfoldable pub map_ops : List ℕ → ℕ → List ℕ → List ℕ
  map_ops w i [] = []
  map_ops w i (x ∷ v) = cond (is_node_sort (sort_at w i)) (f x) x ∷ map_ops w (suc i) v

  unfoldable pub map_row : List ℕ → List ℕ
  map_row [] = []
  map_row (q ∷ v) = q ∷ map_ops (q ∷ v) 1 v
