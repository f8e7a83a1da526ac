use Rattle.reader_rules.specs.Findings.{lower_at, lower_nodes}
use Rattle.words.specs.Loops.{every}
use Prim.Native.Nat.{◌-◌}
use lib.ListN.{length}
use mathlib.Core.Path.{◌≡◌}
use Rattle.reader_nodes.proofs.nodes.lower_nodes.Given as goal

abbrev pub invariant-loop-i : goal.invariant-loop-i
invariant-loop-i l = lower_nodes l.doc l.k l.w ≡ every (lower_at l.doc l.k l.w) l.i (length l.w - l.i)
