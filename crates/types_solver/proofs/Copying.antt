-- Copying words, one by one.
use mathlib.Core.Path.{◌≡◌, sym, ap, ◌∙◌}
use mathlib.Core.List.{List, ◌++◌}
use Prim.Native.Nat.{ℕ, ◌+◌, ◌≤◌, ◌<◌}
use native.Mathlib.Omega.{arith}
use lib.ListN.{length, get_or, set, take, drop}
use lib.Seq.{sets, take_at}
use Rattle.types_cells.specs.Store.{run}
use Rattle.types_cells.proofs.Words.{run_at, run_length}
use Rattle.types_solver.proofs.Summing.{copy_step, copy_end}

-- All words stand where those past the j-th are written over out.
abbrev pub Copied : List ℕ → List ℕ → ℕ → List ℕ → ℕ → Type 0
Copied out₀ out at ws j = sets out₀ at ws ≡ sets out (at + j) (drop j ws)

-- The j-th of k words at p.
pub copied_step : (out₀ out : List ℕ) (at : ℕ) (from : List ℕ) (p k j v : ℕ) → p + k ≤ length from → j < k → v ≡ get_or from (p + j) 0 → Copied out₀ out at (run from p k) j →
    Copied out₀ (set out (at + j) v) at (run from p k) (j + 1)
copied_step out₀ out at from p k j v r l e c = let z = run_length from p k r in c ∙ copy_step out at j v (run from p k) (omega arith) (e ∙ sym (run_at from p k j l))

pub copied_end : (out₀ out : List ℕ) (at : ℕ) (from : List ℕ) (p k j : ℕ) → p + k ≤ length from → k ≤ j → Copied out₀ out at (run from p k) j → sets out₀ at (run from p k) ≡ out
copied_end out₀ out at from p k j r l c = let z = run_length from p k r in c ∙ copy_end out (at + j) j (run from p k) (omega arith)

-- The words xs stand at p.
pub run_words_lem : (H : List ℕ) (p : ℕ) (xs ys : List ℕ) (k : ℕ) → length xs ≡ k → drop p H ≡ xs ++ ys → run H p k ≡ xs
unfolding run
run_words_lem H p xs ys k e q = ap (take k) q ∙ take_at xs ys k e
