use Rattle.checker_lookup.proofs.ComponentLaws.{Writing}
use Rattle.types_cells.specs.Settled.{heap, Reads}
use Rattle.types_rules.specs.Types.{Tys, node}
use Rattle.types_rules.specs.Former.{binding}
use lib.ListN.{length}
use mathlib.Core.List.{List}
use Prim.Native.Nat.{ℕ}
use mathlib.Core.Path.{◌≡◌}
use Rattle.checker_lookup.proofs.components.component_rows.Given as goal

abbrev pub invariant-loop-j : goal.invariant-loop-j
invariant-loop-j l = (length l.w ≡ length l.initial.w) × ((ids : List ℕ) (gs : Tys) → Reads (heap l.a l.d) l.p (node (binding ids) gs) → Writing (heap l.a l.d) l.initial.w l.w l.p l.base l.m l.at l.j ids gs)
