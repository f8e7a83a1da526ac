-- The bits of a table of marks.
use mathlib.Core.Path.{◌≡◌, refl, sym}
use mathlib.Core.Bool.{true, false}
use mathlib.Core.List.{List}
use Prim.Native.Nat.{ℕ, suc, ◌+◌, ◌-◌, ◌*◌, ◌/◌, ◌%◌, ◌^◌, ◌≤◌, ◌<◌, max}
use native.Mathlib.Omega.{arith}
use native.Mathlib.Nat.{one-mul, pow-suc, div-eq_of_lt, zero-div}
use native.Mathlib.Decide.{dec_lt, ℕ_discrete}
use lib.Dec.{eqb}
use lib.ListN.{length, get_or, set, get_or-eq_default}
use lib.Seq.{get_or-set_same, get_or-set_other, set_out}
use lib.Bits.{bit_or, or_shr, or_step}
use lib.Pow.{shl-shr, shl_exact, pow-lt, pow-add}
use Rattle.reader_repeats.specs.Marks.{bits, is_free, with_mark}

-- the lowest bit of two numbers taken together
low_or : (a b : ℕ) → bit_or a b % 2 ≡ max (a % 2) (b % 2)
low_or a b = rw (or_step a b) (omega arith)

-- bit j of two numbers taken together
bit_or_lem : (x y j : ℕ) → bit_or x y / 2 ^ j % 2 ≡ max (x / 2 ^ j % 2) (y / 2 ^ j % 2)
bit_or_lem x y j = rw (or_shr x y j) (low_or (x / 2 ^ j) (y / 2 ^ j))

-- the bits of a power of 2: its own, and the others
own_bit : (k : ℕ) → 2 ^ k / 2 ^ k ≡ 1
own_bit k = rw (one-mul (2 ^ k)) at (shl-shr 1 k)

other_bit : (j k : ℕ) → (j ≡ k → ⊥) → 2 ^ k / 2 ^ j % 2 ≡ 0
other_bit j k h = go (dec_lt j k) (dec_lt k j)
  where
    go : Dec (j < k) → Dec (k < j) → 2 ^ k / 2 ^ j % 2 ≡ 0
    go (yes l) _ =
        let m : k ≡ suc (k - j - 1) + j = omega arith in
        rw (m, pow-add 2 (suc (k - j - 1)) j, shl-shr (2 ^ suc (k - j - 1)) j, pow-suc 2 (k - j - 1)) (omega arith)
    go (no _) (yes l) = rw (div-eq_of_lt (pow-lt l))
    go (no a) (no b) = absurd (h (omega (arith, a, b)))

-- a bit that is set, and the others beside it
bit_same : (x k : ℕ) → bit_or x (2 ^ k) / 2 ^ k % 2 ≡ 1
bit_same x k = rw (bit_or_lem x (2 ^ k) k, own_bit k) (omega arith)

bit_other : (x j k : ℕ) → (j ≡ k → ⊥) → bit_or x (2 ^ k) / 2 ^ j % 2 ≡ x / 2 ^ j % 2
bit_other x j k h = rw (bit_or_lem x (2 ^ k) j, other_bit j k h) (omega arith)

-- ---- tables
pub free_same : (seen : List ℕ) (x : ℕ) → x / bits < length seen → is_free (with_mark seen x) x ≡ false
unfolding is_free with_mark
free_same seen x h = rw (get_or-set_same seen (x / bits) (bit_or (get_or seen (x / bits) 0) (2 ^ (x % bits))) 0 h, bit_same (get_or seen (x / bits) 0) (x % bits))

pub free_other : (seen : List ℕ) (x v : ℕ) → x / bits < length seen → (x ≡ v → ⊥) → is_free (with_mark seen x) v ≡ is_free seen v
unfolding is_free with_mark
free_other seen x v h e = go (ℕ_discrete (v / bits) (x / bits))
  where
    go : Dec (v / bits ≡ x / bits) → is_free (with_mark seen x) v ≡ is_free seen v
    go (yes p) =
        rw (p, get_or-set_same seen (x / bits) (bit_or (get_or seen (x / bits) 0) (2 ^ (x % bits))) 0 h, bit_other (get_or seen (x / bits) 0) (v % bits) (x % bits) (λ q. e (omega (arith, p, q))))
    go (no p) = rw (get_or-set_other seen (x / bits) (v / bits) (bit_or (get_or seen (x / bits) 0) (2 ^ (x % bits))) 0 p)

-- ---- what the code reads and writes
pub free_read : (seen : List ℕ) (i : ℕ) → eqb (get_or seen (i / bits) 0 / 2 ^ (i % bits) % 2) 0 ≡ is_free seen i
unfolding is_free
free_read seen i = refl

pub mark_written : (seen : List ℕ) (i : ℕ) → set seen (i / bits) (bit_or (get_or seen (i / bits) 0) ((1 * 2 ^ (i % bits)) % 256)) ≡ with_mark seen i
unfolding with_mark
mark_written seen i = rw (shl_exact {a = 1} 1 (i % bits) bits (omega arith) (omega arith), one-mul (2 ^ (i % bits)))

pub free_past : (seen : List ℕ) (i : ℕ) → length seen ≤ i / bits → true ≡ is_free seen i
unfolding is_free
free_past seen i h = rw (get_or-eq_default seen 0 h, zero-div)

pub mark_past : (seen : List ℕ) (i : ℕ) → length seen ≤ i / bits → seen ≡ with_mark seen i
unfolding with_mark
mark_past seen i h = sym (set_out _ _ _ h)

pub ruleset mark_turns = (free_read, mark_written, free_past, mark_past)
