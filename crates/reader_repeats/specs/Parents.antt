-- The table of parents.
use Rattle.std.specs.Prelude.{◌≡◌, List, true, ℕ, ◌<◌, get_or}
use Rattle.layout.specs.Layout.{count, laid_out}
use Rattle.reader_rules.specs.Nodes.{document_form, parent}
use Rattle.reader_rules.specs.Findings.{node_number, use_number}
use Rattle.reader_rules.specs.Reading.{lowest}
use Rattle.reader_rules.specs.Refusals.{Readable}

-- a place for each node, and one for 0
abbrev pub places : ℕ
places = 1025

pub record Parents (doc u : List ℕ) : Type 0 where
  pub few : count doc < places
  pub at : (k : ℕ) → k < places → get_or u k 0 ≡ parent doc k

-- the document has none of the findings 11 to 15, and `up` is its table of parents
pub record Linked (doc up : List ℕ) : Type 0 where
  pub laid : laid_out document_form doc ≡ true
  pub nodes : lowest doc (node_number doc) ≡ Readable
  pub uses : lowest doc (use_number doc) ≡ Readable
  pub parents : Parents doc up
