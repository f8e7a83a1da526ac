use Rattle.std.proofs.Common.{◌≡◌, ◌-◌, ◌≤◌, replicate}
use lib.Seq.{sets}
use Rattle.checker_dictionary.proofs.moving.erase.Given as goal

abbrev pub invariant-loop-i : goal.invariant-loop-i
invariant-loop-i l = (l.i - l.at ≤ l.end - l.at) × (l.d ≡ sets l.initial.d l.at (replicate (l.i - l.at) 0))
