use Rattle.types_cells.specs.Settled.{heap}
use Rattle.checker_includes.proofs.SameLaws.{SameWords}
use Rattle.checker_includes.proofs.filling.same_words.Given as goal

abbrev pub invariant-loop-j : goal.invariant-loop-j
invariant-loop-j l = SameWords (heap l.a l.d) l.p l.q l.j
