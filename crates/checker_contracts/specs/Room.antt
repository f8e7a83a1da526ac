-- ROOM. h nodes may stand on the path from here down (document 01: 12 from the Document), and a piece has at most 24 nodes below its closing node.
-- The work area: rows of the scope, 16 for each node of the path; then the dictionary's index; then frames, one for each node of the path; then the saved stores of the pieces around.
-- The pool, for type words: 16 types for each node of the path, and for each two nodes of a piece.
use Rattle.std.specs.Prelude.{ℕ, ◌+◌, ◌*◌, ◌-◌, ◌≤◌, ◌<◌, List, ◌⊎◌, length}
use Rattle.checker_pieces.specs.Stage.{Room, node_cells}
use Rattle.checker_dictionary.specs.Index.{index_end}
use Rattle.checker_signatures.specs.Tables.{table_words}
use Rattle.types_cells.specs.Layout.{type_words}
use Rattle.checker_rules.specs.Check.{check_work_words}

-- The places of the work area: the frames with the saved stores, and where the entries of a paragraph wait when its pieces are closed.
abbrev pub frames_at : ℕ
frames_at = index_end

abbrev pub frames_end : ℕ
frames_end = 14000

abbrev pub entries_at : ℕ
entries_at = 6144

-- The rows of the scope, two words each, at most.
abbrev pub max_rows : ℕ
max_rows = 250

-- The words of a frame, two tables; and of a saved store, for each node that was visited in it.
abbrev pub frame_words : ℕ
frame_words = 2 * table_words

abbrev pub saved_words : ℕ
saved_words = 7 * node_cells

-- The words of the pool's types, for each node of the path and for each node of a piece; and where they end at the latest.
abbrev pub path_type_words : ℕ
path_type_words = 16 * type_words

abbrev pub node_type_words : ℕ
node_type_words = 8 * type_words

abbrev pub pool_end : ℕ
pool_end = 36000

-- Between pieces that have at most b nodes.
pub record Between (w : List ℕ) (rows at free h b : ℕ) : Type 0 where
  pub wide : check_work_words ≤ length w
  pub stack : rows + 16 * h ≤ max_rows
  pub low : frames_at ≤ free
  pub frames : free + saved_words * b + frame_words * h ≤ frames_end
  pub some : 1 ≤ at
  pub pool : at + node_type_words * b + path_type_words * h ≤ pool_end
  pub few : b ≤ 24

-- The pieces inside nodes l have at most b nodes below their closing node: by the limit of 24, or since there are no more nodes.
abbrev pub Crowd : ℕ → List ℕ → Type 0
Crowd b l = (24 ≤ b) ⊎ (length l ≤ b)

-- Inside a piece, with `nodes` to visit: `visited` are counted in the store, and `left` may come.
pub record Inside (s w : List ℕ) (rows n top at free h nodes : ℕ) : Type 0 where
  pub visited : ℕ
  pub left : ℕ
  pub enough : nodes ≤ left
  pub few : visited + left ≤ 24
  pub wide : check_work_words ≤ length w
  pub stack : rows + 16 * h ≤ max_rows
  pub low : frames_at ≤ free
  pub frames : free + saved_words * (visited + left) + frame_words * h ≤ frames_end
  pub some : 1 ≤ at
  pub pool : at + node_type_words * left + path_type_words * h ≤ pool_end
  pub store : Room s n top (node_cells * (24 - visited) + node_cells)
