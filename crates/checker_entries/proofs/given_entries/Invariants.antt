use mathlib.Core.List.{List}
use Prim.Native.Nat.{ℕ, ◌+◌, ◌*◌, ◌-◌, ◌<◌, ◌^◌}
use lib.ListN.{length, drop}
use Rattle.types_solver.specs.Written.{Wrote}
use Rattle.checker_dictionary.specs.Waiting.{waiting}
use Rattle.checker_entries.specs.Entries.{given_entries}
use Rattle.checker_entries.proofs.given_entries.Given as goal

-- What is written of the words from i on ends what is written of those from j on.
abbrev pub invariant-loop-i : goal.invariant-loop-i
invariant-loop-i l =
    (l.end + 7 * (length l.p - l.i) < 2 ^ 40)
    × ((w' : List ℕ) (e : ℕ) → Wrote l.w w' l.end e (waiting (given_entries (drop l.i l.p))) → Wrote l.initial.w w' l.at e (waiting (given_entries (drop l.j l.p))))
