-- The finding of reading: 11, then 12 to 14 node by node, then 15, 16, 17, each at its lowest node (document 01, "Finding numbers").
use Rattle.std.specs.Prelude.{ℕ, List, cond}
use Rattle.layout.specs.Layout.{count, laid_out}
use Rattle.reader_rules.specs.Nodes.{document_form}
use Rattle.reader_rules.specs.Findings.{scan, and_then, node_number, use_number}
use Rattle.reader_rules.specs.Repeats.{repeat_number}
use Rattle.reader_rules.specs.Limits.{limit_number}
use Rattle.reader_rules.specs.Refusals.{Finding, Refused}

abbrev pub lowest : List ℕ → (ℕ → ℕ) → Finding
lowest doc f = scan f 1 (count doc)

unfoldable pub read_of : List ℕ → Finding
read_of doc =
    cond (laid_out document_form doc)
    (and_then (lowest doc (node_number doc))
    (and_then (lowest doc (use_number doc)) (and_then (lowest doc (repeat_number doc)) (lowest doc (limit_number doc)))))
    (Refused 11 0)
