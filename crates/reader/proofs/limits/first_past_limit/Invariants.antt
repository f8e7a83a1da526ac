use Rattle.reader.specs.Counts.{Counted}
use Rattle.reader_rules.specs.Reading.{lowest}
use Rattle.reader_rules.specs.Limits.{globals_up_to, limit_number}
use Rattle.reader_rules.specs.Findings.{scan}
use Prim.Native.Nat.{◌+◌, ◌-◌, ◌≤◌}
use mathlib.Core.Path.{◌≡◌}
use Rattle.reader.proofs.limits.first_past_limit.Given as goal

abbrev pub invariant-loop-k : goal.invariant-loop-k
invariant-loop-k l = (lowest l.doc (limit_number l.doc) ≡ scan (limit_number l.doc) l.k (l.n + 1 - l.k)) × Counted l.doc (l.k - 1) l.below l.declared
    × (l.globals ≡ globals_up_to l.doc (l.k - 1)) × (l.globals ≤ 64)
