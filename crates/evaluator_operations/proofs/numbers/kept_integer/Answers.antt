use mathlib.Core.Path.{◌≡◌}
use Rattle.values_integers.specs.declared.integer.ArithmeticError.TheVariants.{Undefined, Outside}
use native.Mathlib.Omega.{arith}
use Prim.Native.Nat.{◌^◌}
use lib.Signed.{mag}
use borrow.Author.Tests.{lt-ltb}
use mir.Syntax.{w32}
use mir.Val.{SFits}
use mir.ValLaws.{to_z-of_z}
use Rattle.evaluator_rules.specs.Operations.{keep_integer}
use Rattle.evaluator_operations.proofs.ToldLaws.{stop_told}
use Rattle.evaluator_operations.proofs.OperationLaws.{counted_kept}
use Rattle.evaluator_operations.proofs.numbers.kept_integer.Goals as goal

pub returns-in-Ok : goal.returns-in-Ok
unfolding keep_integer
returns-in-Ok c =
    let f : SFits w32 c.in-Ok.i = record { sfits = c.in-Ok.i-1-own.given } in
    rw (c.in-Ok.is, to_z-of_z w32 _ f) (counted_kept _ _ (lt-ltb (mag c.in-Ok.i) (2 ^ 31) f.sfits))

pub returns-in-Err-Undefined : goal.returns-in-Err-Undefined
unfolding keep_integer
returns-in-Err-Undefined c =
    let a = c.in-Err-Undefined in
    let e : a.field-0 ≡ Undefined = rw a.is at a.field-0-is in
    rw (a.is, e) (stop_told c.refusal.ensures (λ z. omega arith))

pub returns-in-Err-Outside : goal.returns-in-Err-Outside
unfolding keep_integer
returns-in-Err-Outside c =
    let a = c.in-Err-Outside in
    let e : a.field-0 ≡ Outside = rw a.is at a.field-0-is in
    rw (a.is, e) (stop_told c.refusal-in-Err-Outside.ensures (λ z. omega arith))
