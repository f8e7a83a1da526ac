use mathlib.Core.Path.{◌≡◌}
use lib.ListN.{length}
use Rattle.checker_includes.proofs.LargeLaws.{Put}
use Rattle.checker_includes.proofs.storing.put_large.Given as goal

abbrev pub invariant-loop-j : goal.invariant-loop-j
invariant-loop-j l = (length l.a ≡ length l.initial.a) × Put l.initial.a l.a l.at l.j
