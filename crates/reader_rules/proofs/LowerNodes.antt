-- The meaning of a node is its step over the meanings of lower nodes.
use mathlib.Core.Path.{◌≡◌, refl, ap, fun_ext}
use mathlib.Core.Bool.{Bool, true, false, cond}
use Prim.Native.Nat.{ℕ, zero, suc, ◌<◌}
use native.Mathlib.Omega.{arith}
use lib.Dec.{ltb}
use borrow.Author.Tests.{lt-ltb, ltb-true}
use Rattle.reader_rules.specs.LowerNodes.{lower, tower, meaning}

module _ {A : Type 0} (bot : A) where
  pub lower_lt : (k : ℕ) (sub : ℕ → A) (j : ℕ) → j < k → lower bot k sub j ≡ sub j
  lower_lt k sub j h = rw (lt-ltb j k h)

  same_lower : (k : ℕ) (f g : ℕ → A) → ((j : ℕ) → j < k → f j ≡ g j) → lower bot k f ≡ lower bot k g
  same_lower k f g h = fun_ext (λ j. go j (ltb j k) (ltb-true j k))
    where
      go : (j : ℕ) (b : Bool) → (b ≡ true → j < k) → cond b (f j) bot ≡ cond b (g j) bot
      go j true l = h j (l refl)
      go j false l = refl

  module _ (step : ℕ → (ℕ → A) → A) where
    tower_any : (n m k : ℕ) → k < n → k < m → tower bot step n k ≡ tower bot step m k
    unfolding tower
    tower_any zero m k p q = absurd (omega arith)
    tower_any (suc n) zero k p q = absurd (omega arith)
    tower_any (suc n) (suc m) k p q =
        ap (step k) (same_lower k (tower bot step n) (tower bot step m) (λ j l. tower_any n m j (omega arith) (omega arith)))

    pub meaning_eq : (k : ℕ) → meaning bot step k ≡ step k (lower bot k (meaning bot step))
    unfolding tower meaning
    meaning_eq k = ap (step k) (same_lower k (tower bot step k) (meaning bot step) (λ j l. tower_any k (suc j) j l (omega arith)))
