-- Wiping words, one by one.
use mathlib.Core.Path.{◌≡◌, ap, ◌∙◌}
use mathlib.Core.List.{List}
use Prim.Native.Nat.{ℕ, suc, ◌+◌, ◌-◌, ◌<◌}
use native.Mathlib.Omega.{arith}
use lib.ListN.{set, replicate}
use lib.Seq.{sets}

-- All are 0 where those from i on become 0.
abbrev pub Wiped : List ℕ → List ℕ → ℕ → ℕ → ℕ → Type 0
Wiped a₀ a from to i = sets a₀ from (replicate (to - from) 0) ≡ sets a i (replicate (to - i) 0)

pub wiped_step : (a₀ a : List ℕ) (from to i : ℕ) → i < to → Wiped a₀ a from to i → Wiped a₀ (set a i 0) from to (i + 1)
wiped_step a₀ a from to i l w =
    let e : to - i ≡ suc (to - (i + 1)) = omega arith in
    let f : suc i ≡ i + 1 = omega arith in
    w ∙ ap (λ k. sets a i (replicate k 0)) e ∙ ap (λ k. sets (set a i 0) k (replicate (to - (i + 1)) 0)) f
