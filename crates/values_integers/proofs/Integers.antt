-- Laws of integers of 32 bits signed: bounds of sums and products, and division that rounds down from division toward zero.
use mathlib.Core.Path.{◌≡◌, refl, ap, ◌∙◌}
use mathlib.Core.Bool.{Bool, true, false, cond, true≢false, false≢true}
use mathlib.Core.Logic.{⊎_elim, ◌⊎◌, inl, inr}
use Prim.Native.Nat.{ℕ, zero, suc, ◌+◌, ◌*◌, ◌-◌, ◌/◌, ◌%◌, ◌≤◌, ◌<◌, ◌^◌}
use native.Mathlib.Omega.{arith}
use native.Mathlib.Nat.{add-zero, div-add-mod', mod-lt, div-le_self, mul-le-mul, eq-or-lt_of_le, zero-lt-suc, mod-le}
use lib.Arith.{digits_div, digits_mod}
use lib.IntN.{ℤ, pos, negsuc, neg_ℤ, nat_abs, sub_ℕ, ◌+ℤ◌, ◌-ℤ◌, ◌*ℤ◌}
use lib.Signed.{mag, lt_z, quot_z, rem_z}
use lib.Dec.{ltb}
use borrow.Author.Tests.{lt-ltb, le-ltb, ltb-true, ltb-false}
use mir.Syntax.{w32, w64}
use mir.Val.{SFits, of_z}
use Rattle.std.proofs.Common.{Ok, Err}
use Rattle.values_integers.specs.declared.integer.ArithmeticError.TheVariants.{Undefined, Outside}
use Rattle.values_integers.specs.Integer.{kept, floor_div, floor_mod, by_divisor, quotient, remainder}

-- ---- bounds

mag_neg : (k : ℕ) → mag (neg_ℤ (pos k)) ≤ k
mag_neg zero = omega arith
mag_neg (suc k) = omega arith

pub mag_negℤ : (z : ℤ) → mag (neg_ℤ z) ≤ mag z + 1
mag_negℤ (pos n) = let h = mag_neg n in omega arith
mag_negℤ (negsuc n) = omega arith

mag_sub : (a b : ℕ) → mag (sub_ℕ a b) ≤ a + b
mag_sub a b = go (ltb a b)
  where
    go : (t : Bool) → mag (cond t (negsuc (b - suc a)) (pos (a - b))) ≤ a + b
    go true = omega arith
    go false = omega arith

pub mag_add : (x y : ℤ) → mag (x +ℤ y) ≤ mag x + mag y + 1
mag_add (pos a) (pos b) = omega arith
mag_add (pos a) (negsuc b) = let h = mag_sub a (suc b) in omega arith
mag_add (negsuc a) (pos b) = let h = mag_sub b (suc a) in omega arith
mag_add (negsuc a) (negsuc b) = omega arith

pub mag_mul : (x y : ℤ) → mag (x *ℤ y) ≤ nat_abs x * nat_abs y
mag_mul (pos a) (pos b) = omega arith
mag_mul (pos a) (negsuc b) = mag_neg (a * suc b)
mag_mul (negsuc a) (pos b) = mag_neg (suc a * b)
mag_mul (negsuc a) (negsuc b) = omega arith

nat_abs_mag : (z : ℤ) → nat_abs z ≤ mag z + 1
nat_abs_mag (pos n) = omega arith
nat_abs_mag (negsuc n) = omega arith

-- what a sum, a difference or a product of two i32 comes to fits an i64
module _ (x y : ℤ) (fx : SFits w32 x) (fy : SFits w32 y) where
  pub widen : SFits w64 x
  widen = record { sfits = omega (arith, fx.sfits) }

  pub sum_fits : SFits w64 (x +ℤ y)
  sum_fits = record { sfits = omega (arith, mag_add x y, fx.sfits, fy.sfits) }

  pub difference_fits : SFits w64 (x -ℤ y)
  difference_fits = record { sfits = omega (arith, mag_add x (neg_ℤ y), mag_negℤ y, fx.sfits, fy.sfits) }

  pub product_fits : SFits w64 (x *ℤ y)
  product_fits =
      let p : nat_abs x ≤ 2 ^ 31 = omega (arith, nat_abs_mag x, fx.sfits) in
      let q : nat_abs y ≤ 2 ^ 31 = omega (arith, nat_abs_mag y, fy.sfits) in
      let m : nat_abs x * nat_abs y ≤ 2 ^ 31 * 2 ^ 31 = mul-le-mul p q in
      record { sfits = omega (arith, mag_mul x y) }

-- ---- kept

pub kept_low : (z : ℤ) → lt_z z (negsuc 2147483647) ≡ true → (Err Outside) ≡ kept z
unfolding kept
kept_low (pos n) h = absurd (false≢true h)
kept_low (negsuc n) h = rw (le-ltb n (2 ^ 31) (omega (arith, ltb-true 2147483647 n h)))

pub kept_high : (z : ℤ) → lt_z (pos 2147483647) z ≡ true → (Err Outside) ≡ kept z
unfolding kept
kept_high (pos n) h = rw (le-ltb n (2 ^ 31) (omega (arith, ltb-true 2147483647 n h)))
kept_high (negsuc n) h = absurd (false≢true h)

pub kept_bound : (z : ℤ) → lt_z z (negsuc 2147483647) ≡ false → lt_z (pos 2147483647) z ≡ false → SFits w32 z
kept_bound (pos n) g h = record { sfits = omega (arith, ltb-false 2147483647 n h) }
kept_bound (negsuc n) g h = record { sfits = omega (arith, ltb-false 2147483647 n g) }

pub kept_in : (z : ℤ) → SFits w32 z → Ok z ≡ kept z
unfolding kept
kept_in z f = rw (lt-ltb (mag z) (2 ^ 31) (omega (arith, f.sfits)))

-- ---- the next number divided: the quotient rises exactly where the remainder starts anew

pub record Turns (a n : ℕ) : Type 0 where
  pub none : suc a % n ≡ 0
  pub up : suc a / n ≡ suc (a / n)
  pub last : suc (a % n) ≡ n

pub record Stays (a n : ℕ) : Type 0 where
  pub more : suc a % n ≡ suc (a % n)
  pub same : suc a / n ≡ a / n
  pub below : suc (a % n) < n

pub next : (a d : ℕ) → Turns a (suc d) ⊎ Stays a (suc d)
next a d = ⊎_elim (λ e. inl (turns e)) (λ h. inr (stays h)) (eq-or-lt_of_le r)
  where
    n : ℕ
    n = suc d

    r : suc (a % suc d) ≤ suc d
    r = mod-lt a (zero-lt-suc d)

    stays : suc (a % suc d) < suc d → Stays a (suc d)
    stays h =
        let e : suc a ≡ a / suc d * suc d + suc (a % suc d) = omega (arith, div-add-mod' a (suc d)) in
        record {
          more = ap (λ (x : ℕ). x % suc d) e ∙ digits_mod (a / suc d) h;
          same = ap (λ (x : ℕ). x / suc d) e ∙ digits_div (a / suc d) h;
          below = h;
        }

    turns : suc (a % suc d) ≡ suc d → Turns a (suc d)
    turns k =
        let e : suc a ≡ suc (a / suc d) * suc d + 0 = omega (arith, div-add-mod' a (suc d)) in
        record {
          none = ap (λ (x : ℕ). x % suc d) e ∙ digits_mod (suc (a / suc d)) (omega arith);
          up = ap (λ (x : ℕ). x / suc d) e ∙ digits_div (suc (a / suc d)) (omega arith);
          last = k;
        }

-- ---- a divisor of at least 1

not_one_lem : (n : ℤ) → lt_z n (pos 1) ≡ true → (f : ℤ → ℕ → ℤ) (a : ℤ) → (Err Undefined) ≡ by_divisor f a n
unfolding by_divisor
not_one_lem (pos zero) h f a = refl
not_one_lem (pos (suc d)) h f a = absurd (omega (arith, ltb-true (suc d) 1 h))
not_one_lem (negsuc d) h f a = refl

pub low_quotient : (a n : ℤ) → lt_z n (pos 1) ≡ true → (Err Undefined) ≡ quotient a n
unfolding quotient
low_quotient a n h = not_one_lem n h floor_div a

pub low_remainder : (a n : ℤ) → lt_z n (pos 1) ≡ true → (Err Undefined) ≡ remainder a n
unfolding remainder
low_remainder a n h = not_one_lem n h floor_mod a

neg_less : (k : ℕ) → neg_ℤ (pos k) -ℤ pos 1 ≡ negsuc k
neg_less zero = refl
neg_less (suc k) = ap (λ (x : ℕ). negsuc (suc x)) (add-zero k)

mag_floor : (a : ℤ) (n : ℕ) → mag (floor_div a n) ≤ mag a
unfolding floor_div
mag_floor (pos a) n = div-le_self a n
mag_floor (negsuc a) n = div-le_self a n

module _ (d : ℕ) where
  quot_fits : (a : ℤ) → SFits w32 a → SFits w32 (quot_z a (pos (suc d)))
  quot_fits (pos a) f = record { sfits = omega (arith, f.sfits, div-le_self a (suc d)) }
  quot_fits (negsuc a) f = ⊎_elim
      (λ t. record { sfits = rw t.up (omega (arith, f.sfits, div-le_self a (suc d))) })
      (λ s. record { sfits = rw s.same (omega (arith, f.sfits, div-le_self a (suc d), mag_neg (a / suc d))) })
      (next a d)

  quot_down : (a : ℤ) → lt_z (rem_z a (pos (suc d))) (pos 0) ≡ true → quot_z a (pos (suc d)) -ℤ pos 1 ≡ floor_div a (suc d)
  unfolding floor_div
  quot_down (pos a) h = absurd (omega (arith, ltb-true (a % suc d) 0 h))
  quot_down (negsuc a) h = ⊎_elim
      (λ t. absurd (false≢true (rw t.none at h)))
      (λ s. neg_less (suc a / suc d) ∙ ap negsuc s.same)
      (next a d)

  quot_same : (a : ℤ) → lt_z (rem_z a (pos (suc d))) (pos 0) ≡ false → quot_z a (pos (suc d)) ≡ floor_div a (suc d)
  unfolding floor_div
  quot_same (pos a) h = refl
  quot_same (negsuc a) h = ⊎_elim
      (λ t. rw t.up)
      (λ s. absurd (true≢false (rw s.more at h)))
      (next a d)

  rem_up : (a : ℤ) → lt_z (rem_z a (pos (suc d))) (pos 0) ≡ true → rem_z a (pos (suc d)) +ℤ pos (suc d) ≡ floor_mod a (suc d)
  unfolding floor_mod
  rem_up (pos a) h = absurd (omega (arith, ltb-true (a % suc d) 0 h))
  rem_up (negsuc a) h = ⊎_elim
      (λ t. absurd (false≢true (rw t.none at h)))
      (λ s. rw (s.more, le-ltb (suc d) (suc (a % suc d)) (omega (arith, s.below))))
      (next a d)

  rem_same : (a : ℤ) → lt_z (rem_z a (pos (suc d))) (pos 0) ≡ false → rem_z a (pos (suc d)) ≡ floor_mod a (suc d)
  unfolding floor_mod
  rem_same (pos a) h = refl
  rem_same (negsuc a) h = ⊎_elim
      (λ t. rw t.none (ap pos (omega (arith, t.last))))
      (λ s. absurd (true≢false (rw s.more at h)))
      (next a d)

  mod_fits : (a : ℤ) → suc d < 2 ^ 31 → SFits w32 (floor_mod a (suc d))
  unfolding floor_mod
  mod_fits (pos a) h = record { sfits = omega (arith, mod-lt a (zero-lt-suc d)) }
  mod_fits (negsuc a) h = record { sfits = omega arith }

floor_fits : (a : ℤ) (n : ℕ) → SFits w32 a → SFits w32 (floor_div a n)
floor_fits a n f = record { sfits = omega (arith, mag_floor a n, f.sfits) }

-- division toward zero by n ≥ 1, and its two corrections, as the code takes them
pub div_safe : (a n : ℤ) → SFits w32 a → SFits w32 n → lt_z n (pos 1) ≡ false → (0 < of_z w32 n) × SFits w32 (quot_z a n)
div_safe a (pos zero) f g h = absurd (true≢false h)
div_safe a (pos (suc d)) f g h = (omega arith, quot_fits d a f)
div_safe a (negsuc d) f g h = absurd (true≢false h)

module _ (a : ℤ) where
  pub quotient_down : (n : ℤ) → SFits w32 a → lt_z n (pos 1) ≡ false → lt_z (rem_z a n) (pos 0) ≡ true →
      SFits w32 (quot_z a n -ℤ pos 1) × (Ok (quot_z a n -ℤ pos 1) ≡ quotient a n)
  unfolding quotient by_divisor
  quotient_down (pos zero) f h t = absurd (true≢false h)
  quotient_down (pos (suc d)) f h t = (rw (quot_down d a t) (floor_fits a (suc d) f), ap Ok (quot_down d a t))
  quotient_down (negsuc d) f h t = absurd (true≢false h)

  pub quotient_same : (n : ℤ) → lt_z n (pos 1) ≡ false → lt_z (rem_z a n) (pos 0) ≡ false → Ok (quot_z a n) ≡ quotient a n
  unfolding quotient by_divisor
  quotient_same (pos zero) h t = absurd (true≢false h)
  quotient_same (pos (suc d)) h t = ap Ok (quot_same d a t)
  quotient_same (negsuc d) h t = absurd (true≢false h)

  pub remainder_up : (n : ℤ) → SFits w32 n → lt_z n (pos 1) ≡ false → lt_z (rem_z a n) (pos 0) ≡ true →
      SFits w32 (rem_z a n +ℤ n) × (Ok (rem_z a n +ℤ n) ≡ remainder a n)
  unfolding remainder by_divisor
  remainder_up (pos zero) f h t = absurd (true≢false h)
  remainder_up (pos (suc d)) f h t = (rw (rem_up d a t) (mod_fits d a (omega (arith, f.sfits))), ap Ok (rem_up d a t))
  remainder_up (negsuc d) f h t = absurd (true≢false h)

  pub remainder_same : (n : ℤ) → lt_z n (pos 1) ≡ false → lt_z (rem_z a n) (pos 0) ≡ false → Ok (rem_z a n) ≡ remainder a n
  unfolding remainder by_divisor
  remainder_same (pos zero) h t = absurd (true≢false h)
  remainder_same (pos (suc d)) h t = ap Ok (rem_same d a t)
  remainder_same (negsuc d) h t = absurd (true≢false h)

pub rem_fits : (a n : ℤ) → SFits w32 a → SFits w32 (rem_z a n)
rem_fits (pos a) n f = record { sfits = omega (arith, f.sfits, mod-le a (nat_abs n)) }
rem_fits (negsuc a) n f = record { sfits = omega (arith, f.sfits, mag_rem' (suc a % nat_abs n) (mod-le (suc a) (nat_abs n))) }
  where
    mag_rem' : (r : ℕ) {b : ℕ} → r ≤ suc b → mag (neg_ℤ (pos r)) ≤ b
    mag_rem' zero h = omega arith
    mag_rem' (suc r) h = omega arith
