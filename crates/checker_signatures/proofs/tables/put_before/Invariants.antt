use mathlib.Core.Path.{◌≡◌}
use mathlib.Core.List.{◌∷◌}
use Prim.Native.Nat.{◌<◌, ◌^◌}
use lib.Seq.{sets}
use Rattle.checker_signatures.specs.Rows.{rows, flat}
use Rattle.checker_signatures.proofs.InsertLaws.{shifted}
use Rattle.checker_signatures.proofs.tables.put_before.Given as goal

abbrev pub invariant-loop-j : goal.invariant-loop-j
invariant-loop-j l = (l.i < 2 ^ 32) × (l.p < 2 ^ 32) × (sets l.initial.work l.at (flat ((l.id, l.place) ∷ rows l.initial.work l.at l.k)) ≡ shifted l.work l.at l.k l.j l.i l.p)
