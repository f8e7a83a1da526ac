-- What holds of the rows from number j on, by their place and count: at the first row, and after one row more.
use mathlib.Core.Path.{◌≡◌, subst}
use Prim.Native.Nat.{ℕ, ◌+◌, ◌*◌, ◌-◌}
use native.Mathlib.Omega.{arith}

module _ (P : ℕ → ℕ → Type 0) (source k : ℕ) where
  pub from_first : P source k → P (source + 2 * 0) (k - 0)
  from_first h = let x : source ≡ source + 2 * 0 = omega arith in let y : k ≡ k - 0 = omega arith in subst (λ z. P z (k - 0)) x (subst (P source) y h)

  pub from_next : (j : ℕ) → P (source + 2 * j + 2) (k - j - 1) → P (source + 2 * (j + 1)) (k - (j + 1))
  from_next j h =
      let x : source + 2 * j + 2 ≡ source + 2 * (j + 1) = omega arith in
      let y : k - j - 1 ≡ k - (j + 1) = omega arith in subst (λ z. P z (k - (j + 1))) x (subst (P (source + 2 * j + 2)) y h)
