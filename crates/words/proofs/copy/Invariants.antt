use Rattle.std.proofs.Common.{◌≡◌, ◌+◌, length, drop}
use Rattle.std.proofs.lemmas.List.Edits.{sets}
use Rattle.words.proofs.copy.Given as goal

abbrev pub invariant-loop-i : goal.invariant-loop-i
invariant-loop-i l = (length l.u ≡ length l.initial.u) × (sets l.initial.u l.at l.w ≡ sets l.u (l.at + l.i) (drop l.i l.w))
