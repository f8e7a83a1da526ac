-- The sizes and places of the store, from its capacity. Each name is that of the constant in src/area.rt. The store takes 12,288 words, the last of the
-- area's 52,224; docs/DECISIONS.md derives the capacity from document 01's limits.
use Rattle.std.specs.Prelude.{ℕ, ◌+◌, ◌*◌}

-- The capacity: cells; cells and parts together, each of which may be pending once; words of runs.
abbrev pub max_cells : ℕ
max_cells = 1024

abbrev pub max_pending : ℕ
max_pending = 2048

abbrev pub run_words : ℕ
run_words = 2048

-- The words of the pool, the caller's part. Among the places of type words they come first, and the dictionary's words follow.
abbrev pub pool_size : ℕ
pool_size = 39936

abbrev pub dictionary_at : ℕ
dictionary_at = pool_size

-- The store follows: link words, marks, pending pairs, records of cells, runs.
abbrev pub links_at : ℕ
links_at = pool_size

abbrev pub marks_at : ℕ
marks_at = links_at + max_cells

abbrev pub pairs_at : ℕ
pairs_at = marks_at + max_cells

abbrev pub seconds_at : ℕ
seconds_at = pairs_at + 1

abbrev pub records_at : ℕ
records_at = pairs_at + 2 * max_pending

abbrev pub arguments_at : ℕ
arguments_at = records_at + 1

abbrev pub firsts_at : ℕ
firsts_at = records_at + 2

abbrev pub counts_at : ℕ
counts_at = records_at + 3

-- A link word below this is 0, or the number of a cell plus 1. From here on the cell is settled, and the rest is the place of its type words.
abbrev pub settled_from : ℕ
settled_from = max_cells + 1

-- The frozen part is what follows records_at: four words for each cell, then the runs, whose places count from records_at.
abbrev pub first_run : ℕ
first_run = 4 * max_cells

abbrev pub frozen_size : ℕ
frozen_size = first_run + run_words

abbrev pub runs_at : ℕ
runs_at = records_at + first_run

-- The words of the whole area.
abbrev pub area_size : ℕ
area_size = records_at + frozen_size

-- The words that the pool has for a type of size 32, the largest that is kept: 95, and a zero after them.
abbrev pub type_words : ℕ
type_words = 96
