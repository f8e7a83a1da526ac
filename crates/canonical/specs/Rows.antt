-- What the functions that write nodes ask and promise.
use Rattle.std.specs.Prelude.{cond, List, map, ℕ, ◌+◌, ◌*◌, ◌≤◌, ◌<◌, length, get_or}
use Rattle.layout.specs.Layout.{part}
use Rattle.layout.specs.Rows.{row_words}
use Rattle.reader_rules.specs.Kinds.{sort_at, is_node_sort}
use Rattle.reader_rules.specs.Nodes.{document_words}

-- a node's new number, by the table
abbrev pub table_at : List ℕ → ℕ → ℕ
table_at numbers k = get_or numbers k 0

-- operand i of the node with the words w: its new number where it is a node
abbrev pub operand_by : List ℕ → List ℕ → ℕ → ℕ
operand_by numbers w i = cond (is_node_sort (sort_at w i)) (table_at numbers (get_or w i 0)) (get_or w i 0)

-- nodes that have words, and with their pairs no more than a document may have
pub record Fitting (doc nodes : List ℕ) : Type 0 where
  pub some : (i : ℕ) → i < length nodes → 1 ≤ length (part doc (get_or nodes i 0))
  pub room : 1 + 2 * length nodes + length (row_words (map (part doc) nodes)) ≤ document_words
