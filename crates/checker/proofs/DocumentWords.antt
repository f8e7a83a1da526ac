-- The words of the Document, the last node of a readable document.
use mathlib.Core.Path.{◌≡◌}
use mathlib.Core.List.{List}
use Prim.Native.Nat.{ℕ, ◌≤◌}
use native.Mathlib.Omega.{arith}
use lib.ListN.{length}
use Rattle.layout.specs.Layout.{count, part}
use Rattle.layout.proofs.Laws.{part_length}
use Rattle.reader_rules.specs.Nodes.{document_words}
use Rattle.reader_rules.specs.Reading.{read_of}
use Rattle.reader_rules.proofs.Accepted.{readable, some_words}
use Rattle.reader_rules.specs.Refusals.{Readable}

-- One word for its kind at least, and no more than the document has.
module _ (doc : List ℕ) (r : read_of doc ≡ Readable) where
  pub words_some : 1 ≤ length (part doc (count doc))
  words_some = let l = (readable doc r).nodes.laid in some_words doc (count doc) l l.some (omega arith)

  pub words_few : length (part doc (count doc)) ≤ document_words
  words_few =
      let l = (readable doc r).nodes.laid in
      let s = l.some in
      let b = l.short in
      let q = l.pair (count doc) s (omega arith) in
      let e = q.ends in
      let h = part_length 1 doc (count doc) s q in
      omega arith
