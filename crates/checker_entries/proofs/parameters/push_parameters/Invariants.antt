use mathlib.Core.List.{List}
use Prim.Native.Nat.{ℕ, ◌+◌, ◌-◌}
use lib.ListN.{take, drop}
use Rattle.checker_entries.specs.Parameters.{ParametersAsk, ParametersPushed}
use Rattle.checker_entries.proofs.parameters.push_parameters.Given as goal

-- What is pushed from i on ends what is pushed from j on.
abbrev pub invariant-loop-i : goal.invariant-loop-i
invariant-loop-i l =
    ParametersAsk l.a l.w l.p l.i l.n
    × ((s' w' : List ℕ) (end : ℕ) → ParametersPushed l.a s' l.w w' (take (l.n - l.i) (drop (l.i + 3) l.p)) l.i l.n end →
    ParametersPushed l.initial.a s' l.initial.w w' (take (l.n - l.j) (drop (l.j + 3) l.p)) l.j l.n end)
