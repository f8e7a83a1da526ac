-- A finding at a node: the column "Place" of the table of findings, which the crates of the check and of the run spell out kind by kind.
use Rattle.std.specs.Prelude.{◌≡◌, true, List, ℕ}
use Rattle.words.specs.Loops.{has}

-- The finding f at node j is at node n, with one of the numbers l.
abbrev pub At : ℕ → ℕ → ℕ → List ℕ → Type 0
At f j n l = (j ≡ n) × (has f l ≡ true)
