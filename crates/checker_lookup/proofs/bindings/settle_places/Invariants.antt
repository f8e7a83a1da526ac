use mathlib.Core.Path.{◌≡◌}
use lib.ListN.{length}
use Rattle.checker_lookup.specs.Bindings.{PlacesSettled}
use Rattle.checker_lookup.proofs.bindings.settle_places.Given as goal

abbrev pub invariant-loop-j : goal.invariant-loop-j
invariant-loop-j l = (length l.a ≡ length l.initial.a) × PlacesSettled l.initial.a l.a l.d l.w l.base l.j l.n
