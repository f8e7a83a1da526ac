use Rattle.reader_rules.specs.Reading.{lowest}
use Rattle.reader_rules.specs.Findings.{scan, use_number}
use Prim.Native.Nat.{◌+◌, ◌-◌}
use mathlib.Core.Path.{◌≡◌}
use Rattle.reader.proofs.links.first_misused.Given as goal

abbrev pub invariant-loop-k : goal.invariant-loop-k
invariant-loop-k l = lowest l.doc (use_number l.doc) ≡ scan (use_number l.doc) l.k (l.n + 1 - l.k)
