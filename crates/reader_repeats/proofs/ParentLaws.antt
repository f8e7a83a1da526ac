-- What findings 11 to 15 leave.
use mathlib.Core.List.{List}
use Prim.Native.Nat.{ℕ}
use Rattle.reader_rules.proofs.Accepted.{Nodes, Once, nodes_sound, uses_once}
use Rattle.reader_repeats.specs.Parents.{Linked}

pub nodes_of : (doc up : List ℕ) → Linked doc up → Nodes doc
nodes_of doc up l = nodes_sound doc l.laid l.nodes

pub once_of : (doc up : List ℕ) → Linked doc up → Once doc
once_of doc up l = uses_once doc (nodes_of doc up l).laid.some l.uses
