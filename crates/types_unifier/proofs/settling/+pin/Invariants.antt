use Prim.Native.Nat.{◌-◌}
use lib.ListN.{length}
use Rattle.types_cells.specs.Settled.{heap}
use Rattle.types_unifier.proofs.Walking.{Loop}
use Rattle.types_unifier.proofs.settling.+pin.Given as goal

abbrev pub decreases-pin : goal.decreases-pin
decreases-pin l = length (heap l.a.now l.d.now) - l.p

abbrev pub invariant-loop-j : goal.invariant-loop-j
invariant-loop-j l = Loop l.initial.a l.a l.d l.c l.r l.n l.w l.at l.j l.p
