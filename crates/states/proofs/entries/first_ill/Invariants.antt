use mathlib.Core.Path.{◌≡◌}
use Prim.Native.Nat.{◌+◌, ◌-◌}
use Rattle.states.specs.Table.{number_by}
use Rattle.reader_rules.specs.Findings.{scan}
use Rattle.states.proofs.entries.first_ill.Given as goal

abbrev pub invariant-loop-k : goal.invariant-loop-k
invariant-loop-k l = scan (number_by l.given l.table l.state) 1 l.n ≡ scan (number_by l.given l.table l.state) l.k (l.n + 1 - l.k)
