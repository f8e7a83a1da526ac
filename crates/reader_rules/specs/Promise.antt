-- What the crates above the reader ask of a node, in the form in which the reader's laws give it.
use Rattle.std.specs.Prelude.{◌≡◌, true, List, ℕ, ◌≤◌, ◌<◌}
use Rattle.words.specs.Loops.{has}
use Rattle.layout.specs.Layout.{count}
use Rattle.reader_rules.specs.Kinds.{of_sort}
use Rattle.reader_rules.specs.Nodes.{kind_at, children}
use Rattle.reader_rules.specs.Reading.{read_of}
use Rattle.reader_rules.specs.Refusals.{Readable}

-- k is a node of a readable document, of a kind of sort s
pub record At (doc : List ℕ) (s k : ℕ) : Type 0 where
  pub read : read_of doc ≡ Readable
  pub some : 1 ≤ k
  pub most : k ≤ count doc
  pub small : k ≤ 1024
  pub sort : of_sort s (kind_at doc k) ≡ true

-- v is an operand of node k: a lower node, of sort s
pub record Lower (doc : List ℕ) (k s v : ℕ) : Type 0 where
  pub at : At doc s v
  pub below : v < k
  pub child : has v (children doc k) ≡ true
