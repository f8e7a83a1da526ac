use mathlib.Core.Path.{◌≡◌}
use Prim.Native.Nat.{◌+◌}
use mathlib.Core.Bool.{true}
use lib.ListN.{length, drop}
use Rattle.states.specs.Table.{put_names}
use Rattle.states_rules.specs.Names.{names_as}
use Rattle.states.proofs.names.put_given.Given as goal

abbrev pub invariant-loop-i : goal.invariant-loop-i
invariant-loop-i l = (length l.table ≡ length l.initial.table) × (put_names (names_as true (drop 1 l.w)) l.state (l.n + 1) l.initial.table ≡ put_names (names_as true (drop l.i l.w)) l.state (l.n + l.i) l.table)
