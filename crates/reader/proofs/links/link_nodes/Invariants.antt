use Rattle.reader.specs.Links.{tally_of, tally, link_of, link}
use Rattle.words.specs.Loops.{run}
use Prim.Native.Nat.{◌-◌, ◌≤◌}
use mathlib.Core.Path.{◌≡◌}
use Rattle.reader.proofs.links.link_nodes.Given as goal

abbrev pub invariant-loop-k : goal.invariant-loop-k
invariant-loop-k l = (tally l.doc l.initial.used ≡ run (tally_of l.doc) l.k (l.k-end - l.k) l.used) × (link l.doc l.initial.up ≡ run (link_of l.doc) l.k (l.k-end - l.k) l.up) × (l.k-end ≤ 1025)
