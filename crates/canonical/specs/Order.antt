-- What the functions over the order of nodes ask and promise.
use Rattle.std.specs.Prelude.{◌≡◌, true, List, ℕ, suc, ◌+◌, ◌≤◌, ◌<◌, length, get_or}
use Rattle.words.specs.Loops.{has}
use Rattle.layout.specs.Layout.{count}
use Rattle.reader_rules.specs.Reading.{read_of}
use Rattle.reader_rules.specs.Refusals.{Readable}
use Rattle.reader_rules.specs.Below.{numbers_at}
use Rattle.canonical_rules.specs.Positions.{index_of, Distinct}

-- k is a node of a readable document, and a table of 1,024 places has room for it and all below it from `at` on
pub record Visit (doc : List ℕ) (k at : ℕ) : Type 0 where
  pub read : read_of doc ≡ Readable
  pub some : 1 ≤ k
  pub most : k ≤ count doc
  pub room : at + length (numbers_at doc k) ≤ 1024

-- distinct numbers, each a place of a table of m words
pub record Numberable (nodes : List ℕ) (m : ℕ) : Type 0 where
  pub distinct : Distinct nodes
  pub few : length nodes ≤ 1024
  pub inside : (i : ℕ) → i < length nodes → get_or nodes i 0 < m

-- the table has for each of the nodes its place among them, from 1
abbrev pub Numbers : List ℕ → List ℕ → Type 0
Numbers nodes numbers = (k : ℕ) → has k nodes ≡ true → get_or numbers k 0 ≡ suc (index_of k nodes)
