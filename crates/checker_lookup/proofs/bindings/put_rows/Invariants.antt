use mathlib.Core.Path.{◌≡◌}
use lib.ListN.{length}
use Rattle.checker_lookup.specs.Bindings.{RowsPut}
use Rattle.checker_lookup.proofs.bindings.put_rows.Given as goal

abbrev pub invariant-loop-j : goal.invariant-loop-j
invariant-loop-j l = (length l.a ≡ length l.initial.a) × RowsPut l.initial.a l.a l.w l.base l.m l.first l.n l.top l.j
