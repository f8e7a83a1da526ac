-- The paragraphs of a readable document are sized.
use mathlib.Core.Path.{◌≡◌}
use mathlib.Core.List.{List}
use Prim.Native.Nat.{ℕ}
use Rattle.reader_rules.specs.Reading.{read_of}
use Rattle.reader_rules.specs.Refusals.{Readable}
use Rattle.reader_rules.specs.Tree.{Document, document}
use Rattle.reader_rules.specs.Decode.{tree_of}
use Rattle.reader_rules.proofs.Sized.{SizedParagraphs, SizedDocument}
use Rattle.reader_rules.proofs.SizedTree.{document_sized}
use Rattle.checker_rules.specs.Check.{paragraphs_of}

paragraphs_sized : (tree : Document) → SizedDocument tree → SizedParagraphs (paragraphs_of tree)
unfolding SizedDocument paragraphs_of
paragraphs_sized (document n ps) h = h

pub tree_sized : (doc : List ℕ) → read_of doc ≡ Readable → SizedParagraphs (paragraphs_of (tree_of doc))
tree_sized doc r = paragraphs_sized (tree_of doc) (document_sized doc r)
