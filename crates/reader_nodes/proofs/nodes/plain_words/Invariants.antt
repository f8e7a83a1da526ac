use Rattle.reader_rules.specs.Findings.{plain_at, plain_words}
use Rattle.words.specs.Loops.{every}
use Prim.Native.Nat.{◌-◌}
use lib.ListN.{length}
use mathlib.Core.Path.{◌≡◌}
use Rattle.reader_nodes.proofs.nodes.plain_words.Given as goal

abbrev pub invariant-loop-i : goal.invariant-loop-i
invariant-loop-i l = plain_words l.w ≡ every (plain_at l.w) l.i (length l.w - l.i)
