use mathlib.Core.Path.{◌≡◌}
use mathlib.Core.List.{List}
use Prim.Native.Nat.{ℕ, ◌+◌, ◌<◌}
use lib.ListN.{get_or}
use Rattle.types_rules.specs.Former.{binding}
use Rattle.types_rules.specs.Types.{Tys, node}
use Rattle.types_cells.specs.Store.{frozen}
use Rattle.types_cells.specs.Settled.{heap, Reads}
use Rattle.types_unifier.proofs.MeetingLaws.{Named}
use Rattle.types_unifier.proofs.settling.same_names.Given as goal

abbrev pub invariant-loop-j : goal.invariant-loop-j
invariant-loop-j v = (l : List ℕ) (gs : Tys) → Reads (heap v.a v.d) v.p (node (binding l) gs) → Named (heap v.a v.d) v.at v.n v.j l × ((i : ℕ) → i < v.j → get_or (frozen v.a) (v.ids + i) 0 ≡ get_or l i 0)
