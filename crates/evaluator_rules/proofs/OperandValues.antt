-- What the rows say of arithmetic's operand values (specs/Troubles) is what the operations find.
use mathlib.Core.Path.{◌≡◌, refl}
use mathlib.Core.Bool.{Bool, true, false, cond}
use Prim.Native.Nat.{ℕ, zero, suc}
use native.Mathlib.Omega.{arith}
use lib.IntN.{ℤ, pos, negsuc, ◌+ℤ◌, ◌-ℤ◌, ◌*ℤ◌}
use lib.Signed.{lt_z}
use borrow.Author.Tests.{ltb-true}
use Rattle.values_integers.specs.Integer.{in32, kept, sum, difference, product, quotient, remainder, by_divisor}
use Rattle.std.proofs.Common.{Ok, Err}
use Rattle.values_integers.specs.declared.integer.ArithmeticError.TheVariants.{Undefined, Outside}
use Rattle.reader_rules.specs.Tree.{Operator, plus, minus, times}
use Rattle.reader_rules.specs.Tree as Tree
use Rattle.evaluator_rules.specs.Operations.{calculate}
use Rattle.evaluator_rules.specs.Troubles.{Divides, by_div, by_mod, Exceeds, sum_outside, difference_outside, product_outside}

within_defined : (b : Bool) (z : ℤ) → cond b (Ok z) (Err Outside) ≡ (Err Undefined) → ⊥
within_defined true z e = let i : ◌≡◌ {A = ℕ} 0 1 = cc in omega arith
within_defined false z e = let i : ◌≡◌ {A = ℕ} 0 1 = cc in omega arith

kept_defined : (z : ℤ) → kept z ≡ (Err Undefined) → ⊥
unfolding kept
kept_defined z e = within_defined (in32 z) z e

divisor_undefined : (f : ℤ → ℕ → ℤ) (j k : ℤ) → by_divisor f j k ≡ (Err Undefined) → lt_z k (pos 1) ≡ true
unfolding by_divisor
divisor_undefined f j (pos zero) e = refl
divisor_undefined f j (pos (suc d)) e = let i : ◌≡◌ {A = ℕ} 0 1 = cc in absurd (omega arith)
divisor_undefined f j (negsuc d) e = refl

pub no_divisor_lem : (o : Operator) (j k : ℤ) → calculate o j k ≡ (Err Undefined) → Divides o × (lt_z k (pos 1) ≡ true)
unfolding calculate sum difference product quotient remainder
no_divisor_lem plus j k e = absurd (kept_defined (j +ℤ k) e)
no_divisor_lem minus j k e = absurd (kept_defined (j -ℤ k) e)
no_divisor_lem times j k e = absurd (kept_defined (j *ℤ k) e)
no_divisor_lem Tree.quotient j k e = (by_div, divisor_undefined _ j k e)
no_divisor_lem Tree.remainder j k e = (by_mod, divisor_undefined _ j k e)

undefined_divisor : (f : ℤ → ℕ → ℤ) (j k : ℤ) → lt_z k (pos 1) ≡ true → by_divisor f j k ≡ (Err Undefined)
unfolding by_divisor
undefined_divisor f j (pos zero) e = refl
undefined_divisor f j (pos (suc d)) e = let h = ltb-true (suc d) 1 e in absurd (omega arith)
undefined_divisor f j (negsuc d) e = refl

pub undefined_by : {o : Operator} (j k : ℤ) → Divides o → lt_z k (pos 1) ≡ true → calculate o j k ≡ (Err Undefined)
unfolding calculate quotient remainder
undefined_by j k by_div e = undefined_divisor _ j k e
undefined_by j k by_mod e = undefined_divisor _ j k e

outside_false : (b : Bool) (z : ℤ) → cond b (Ok z) (Err Outside) ≡ (Err Outside) → b ≡ false
outside_false true z e = let i : ◌≡◌ {A = ℕ} 0 1 = cc in absurd (omega arith)
outside_false false z e = refl

kept_outside : (z : ℤ) → kept z ≡ (Err Outside) → in32 z ≡ false
unfolding kept
kept_outside z e = outside_false (in32 z) z e

divisor_inside : (f : ℤ → ℕ → ℤ) (j k : ℤ) → by_divisor f j k ≡ (Err Outside) → ⊥
unfolding by_divisor
divisor_inside f j (pos zero) e = let i : ◌≡◌ {A = ℕ} 0 1 = cc in omega arith
divisor_inside f j (pos (suc d)) e = let i : ◌≡◌ {A = ℕ} 0 1 = cc in omega arith
divisor_inside f j (negsuc d) e = let i : ◌≡◌ {A = ℕ} 0 1 = cc in omega arith

pub exceeds : (o : Operator) (j k : ℤ) → calculate o j k ≡ (Err Outside) → Exceeds j k o
unfolding calculate sum difference product quotient remainder
exceeds plus j k e = sum_outside (kept_outside (j +ℤ k) e)
exceeds minus j k e = difference_outside (kept_outside (j -ℤ k) e)
exceeds times j k e = product_outside (kept_outside (j *ℤ k) e)
exceeds Tree.quotient j k e = absurd (divisor_inside _ j k e)
exceeds Tree.remainder j k e = absurd (divisor_inside _ j k e)

pub outside_by : {o : Operator} {j k : ℤ} → Exceeds j k o → calculate o j k ≡ (Err Outside)
unfolding calculate sum difference product kept
outside_by (sum_outside e) = rw e refl
outside_by (difference_outside e) = rw e refl
outside_by (product_outside e) = rw e refl
