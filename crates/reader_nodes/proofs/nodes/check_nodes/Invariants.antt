use Rattle.reader_rules.specs.Reading.{lowest}
use Rattle.reader_rules.specs.Findings.{scan, node_number}
use Prim.Native.Nat.{◌+◌, ◌-◌}
use mathlib.Core.Path.{◌≡◌}
use Rattle.reader_nodes.proofs.nodes.check_nodes.Given as goal

abbrev pub invariant-loop-k : goal.invariant-loop-k
invariant-loop-k l = lowest l.doc (node_number l.doc) ≡ scan (node_number l.doc) l.k (l.n + 1 - l.k)
