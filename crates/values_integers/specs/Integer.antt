-- Integers of 32 bits signed: their words, and the arithmetic of a run with its findings 52 and 53.
use Rattle.std.specs.Prelude.{Bool, cond, ℕ, zero, suc, ◌-◌, ◌/◌, ◌%◌, ◌^◌, ℤ, pos, negsuc, ◌+ℤ◌, ◌-ℤ◌, ◌*ℤ◌, ltb}
use Rattle.std.specs.Int.Signed.{mag}
use Rattle.std.specs.Int.{w32}
use Rattle.std.proofs.Common.{to_z, of_z}
use Rattle.std.specs.Prelude.{Result}
use Rattle.values_integers.specs.declared.integer.ArithmeticError.{ArithmeticError}
use Rattle.std.specs.Prelude.{Ok, Err}
use Rattle.values_integers.specs.declared.integer.ArithmeticError.TheVariants.{Undefined, Outside}

-- a word read signed, and the word of an integer: two's complement
unfoldable pub signed : ℕ → ℤ
signed w = to_z w32 w

unfoldable pub word_of : ℤ → ℕ
word_of z = of_z w32 z

-- `mag` is n both for n and for −(n + 1), so this is −2,147,483,648 to 2,147,483,647
abbrev pub in32 : ℤ → Bool
in32 z = ltb (mag z) (2 ^ 31)

-- what arithmetic gives: an integer, or why there is none
abbrev pub Computed : Type 0
Computed = Result ℤ ArithmeticError

-- the finding of each answer; an integer has none
abbrev pub integer_finding : Computed → ℕ
integer_finding (Ok z) = 0
integer_finding (Err Undefined) = 52
integer_finding (Err Outside) = 53

unfoldable pub kept : ℤ → Computed
kept z = cond (in32 z) (Ok z) (Err Outside)

unfoldable pub sum : ℤ → ℤ → Computed
sum a b = kept (a +ℤ b)

unfoldable pub difference : ℤ → ℤ → Computed
difference a b = kept (a -ℤ b)

unfoldable pub product : ℤ → ℤ → Computed
product a b = kept (a *ℤ b)

-- division that rounds down, and what it leaves (document 01: "For n ≥ 1, a mod n lies in 0 to n − 1 and a = (a div n) times n + a mod n")
unfoldable pub floor_div : ℤ → ℕ → ℤ
floor_div (pos a) n = pos (a / n)
floor_div (negsuc a) n = negsuc (a / n)

unfoldable pub floor_mod : ℤ → ℕ → ℤ
floor_mod (pos a) n = pos (a % n)
floor_mod (negsuc a) n = pos (n - suc (a % n))

unfoldable pub by_divisor : (ℤ → ℕ → ℤ) → ℤ → ℤ → Computed
by_divisor f a (pos zero) = Err Undefined
by_divisor f a (pos (suc d)) = Ok (f a (suc d))
by_divisor f a (negsuc d) = Err Undefined

unfoldable pub quotient : ℤ → ℤ → Computed
quotient a n = by_divisor floor_div a n

unfoldable pub remainder : ℤ → ℤ → Computed
remainder a n = by_divisor floor_mod a n
