use Rattle.reader.specs.Links.{tally_at, tally_node, link_at, link_node}
use Rattle.words.specs.Loops.{run}
use lib.ListN.{length}
use Prim.Native.Nat.{◌-◌}
use mathlib.Core.Path.{◌≡◌}
use Rattle.reader.proofs.links.link_node.Given as goal

abbrev pub invariant-loop-i : goal.invariant-loop-i
invariant-loop-i l = (tally_node l.w l.initial.used ≡ run (tally_at l.w) l.i (length l.w - l.i) l.used) × (link_node l.w l.k l.initial.up ≡ run (link_at l.w l.k) l.i (length l.w - l.i) l.up)
