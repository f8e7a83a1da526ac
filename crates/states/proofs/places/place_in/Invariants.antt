use mathlib.Core.Path.{◌≡◌}
use mathlib.Core.Bool.{true}
use Prim.Native.Nat.{◌+◌}
use lib.ListN.{drop}
use Rattle.states_rules.specs.States.{entry_from}
use Rattle.states_rules.specs.Names.{names_as}
use Rattle.states.proofs.places.place_in.Given as goal

abbrev pub invariant-loop-i : goal.invariant-loop-i
invariant-loop-i l = entry_from (names_as true l.names) l.name l.k ≡ entry_from (names_as true (drop l.i l.names)) l.name (l.k + l.i)
