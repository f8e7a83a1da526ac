use mathlib.Core.Path.{◌≡◌}
use mathlib.Core.Bool.{true}
use mathlib.Core.List.{List}
use Prim.Native.Nat.{ℕ, ◌+◌, ◌-◌}
use lib.ListN.{length, drop}
use Rattle.states_rules.specs.Names.{names_as}
use Rattle.evaluator_scope.specs.Named.{Declares, said}
use Rattle.evaluator_scope.proofs.NamedLaws.{Puts}
use Rattle.evaluator_scope.proofs.named.put_names.Given as goal

abbrev pub invariant-loop-i : goal.invariant-loop-i
invariant-loop-i l =
    (length l.work ≡ length l.initial.work) × Declares l.doc (names_as true (drop l.i l.w))
    × ((w : List ℕ) → Puts l.state l.work w l.w (l.b + (l.i - l.j)) l.i (said l.doc l.state) → Puts l.state l.initial.work w l.w l.b l.j (said l.doc l.state))
