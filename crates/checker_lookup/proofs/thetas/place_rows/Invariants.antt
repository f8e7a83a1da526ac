use Rattle.checker_lookup.proofs.PlacedLaws.{Placing}
use lib.ListN.{length}
use mathlib.Core.Path.{◌≡◌}
use Rattle.checker_lookup.proofs.thetas.place_rows.Given as goal

abbrev pub invariant-loop-j : goal.invariant-loop-j
invariant-loop-j l = (length l.w ≡ length l.initial.w) × Placing l.d l.initial.w l.w l.rows l.base l.j l.stroke
