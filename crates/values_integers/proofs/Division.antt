-- Division that rounds down is division: a = (a div n) · n + a mod n, and a mod n lies in 0 to n − 1, for every n ≥ 1 and every integer a.
-- Then the answers at zero and at both ends of 32 bits signed, as one table and one claim.
use mathlib.Core.Path.{◌≡◌, sym, ap, ◌∙◌}
use mathlib.Core.List.{List, [], ◌∷◌}
use Prim.Native.Nat.{ℕ, suc, ◌+◌, ◌*◌, ◌-◌, ◌/◌, ◌%◌, ◌<◌}
use native.Mathlib.Omega.{arith}
use native.Mathlib.Nat.{div-add-mod', mod-lt, zero-lt-suc}
use lib.IntN.{ℤ, pos, negsuc, neg_ℤ, sub_ℕ, ◌+ℤ◌, ◌*ℤ◌}
use lib.Signed.{◌<ℤ◌, ◌≤ℤ◌, lt_z_yes, le_z_yes}
use lib.Dec.{le→leb, lt→ltb}
use borrow.Author.Tests.{lt-ltb}
use Rattle.values_integers.specs.Integer.{Computed}
use Rattle.std.proofs.Common.{Ok, Err}
use Rattle.values_integers.specs.declared.integer.ArithmeticError.TheVariants.{Undefined, Outside}
use Rattle.values_integers.specs.Integer.{floor_div, floor_mod, by_divisor, quotient, remainder, sum, difference, product, kept}

below_zero : (a x y : ℕ) → x < y → y ≡ suc (a + x) → sub_ℕ x y ≡ negsuc a
below_zero a x y h e = rw (lt-ltb x y h) (ap negsuc (omega arith))

pub div_mod : (a : ℤ) (d : ℕ) → a ≡ floor_div a (suc d) *ℤ pos (suc d) +ℤ floor_mod a (suc d)
unfolding floor_div floor_mod
div_mod (pos a) d = ap pos (sym (div-add-mod' a (suc d)))
div_mod (negsuc a) d =
    let q = a / suc d in
    let r = a % suc d in
    let l : r < suc d = mod-lt a (zero-lt-suc d) in
    let p : suc q * suc d ≡ suc (d + q * suc d) = omega arith in
    let s = div-add-mod' a (suc d) in
    sym (ap (λ (m : ℕ). neg_ℤ (pos m) +ℤ pos (suc d - suc r)) p ∙ below_zero a (suc d - suc r) (suc (d + q * suc d)) (omega arith) (omega arith))

pub mod_not_negative : (a : ℤ) (n : ℕ) → pos 0 ≤ℤ floor_mod a n
unfolding floor_mod
mod_not_negative (pos a) n = le_z_yes (le→leb 0 (a % n) (omega arith))
mod_not_negative (negsuc a) n = le_z_yes (le→leb 0 (n - suc (a % n)) (omega arith))

pub mod_below : (a : ℤ) (d : ℕ) → floor_mod a (suc d) <ℤ pos (suc d)
unfolding floor_mod
mod_below (pos a) d = lt_z_yes (lt→ltb (a % suc d) (suc d) (mod-lt a (zero-lt-suc d)))
mod_below (negsuc a) d = lt_z_yes (lt→ltb (suc d - suc (a % suc d)) (suc d) (omega arith))

-- ---- zero and both ends of the range

unfoldable pub least : ℤ
least = negsuc 2147483647

unfoldable pub most : ℤ
most = pos 2147483647

pub data Row : Type 0 where
  gives : Computed → Computed → Row

unfoldable pub Hold : List Row → Type 0
Hold [] = Unit {0}
Hold (gives x y ∷ rows) = (x ≡ y) × Hold rows

unfoldable pub ends : List Row
ends =
    gives (quotient (negsuc 6) (pos 2)) (Ok (negsuc 3))
    ∷ gives (remainder (negsuc 6) (pos 2)) (Ok (pos 1))
    ∷ gives (quotient (pos 0) (pos 1)) (Ok (pos 0))
    ∷ gives (remainder (pos 0) most) (Ok (pos 0))
    ∷ gives (quotient least (pos 1)) (Ok least)
    ∷ gives (remainder least (pos 1)) (Ok (pos 0))
    ∷ gives (quotient least most) (Ok (negsuc 1))
    ∷ gives (remainder least most) (Ok (pos 2147483646))
    ∷ gives (quotient most (pos 1)) (Ok most)
    ∷ gives (quotient most most) (Ok (pos 1))
    ∷ gives (remainder most most) (Ok (pos 0))
    ∷ gives (quotient (negsuc 0) most) (Ok (negsuc 0))
    ∷ gives (remainder (negsuc 0) most) (Ok (pos 2147483646))
    ∷ gives (quotient most (pos 0)) (Err Undefined)
    ∷ gives (remainder least (negsuc 0)) (Err Undefined)
    ∷ gives (quotient least least) (Err Undefined)
    ∷ gives (sum most (pos 1)) (Err Outside)
    ∷ gives (sum least most) (Ok (negsuc 0))
    ∷ gives (difference least (pos 1)) (Err Outside)
    ∷ gives (product least (negsuc 0)) (Err Outside)
    ∷ gives (product least (pos 1)) (Ok least)
    ∷ []

pub ends_hold : Hold ends
unfolding Hold ends least most quotient remainder by_divisor floor_div floor_mod sum difference product kept
ends_hold = search tt depth 60
