use mathlib.Core.Bool.{Bool}
use mathlib.Core.List.{List}
use Prim.Native.Nat.{ℕ}
use lib.ListN.{drop}
use Rattle.checker_includes.specs.Storing.{OverlapTold}
use Rattle.checker_includes.proofs.storing.none_declared.Given as goal

-- What is told of the words from i on is told of those from j on.
abbrev pub invariant-loop-i : goal.invariant-loop-i
invariant-loop-i l = (b : Bool) → ((s d : List ℕ) → OverlapTold s d l.w l.base l.m (drop l.i l.part) b) → (s d : List ℕ) → OverlapTold s d l.w l.base l.m (drop l.j l.part) b
