-- A coded finding is read back.
use mathlib.Core.Path.{◌≡◌, ap₂}
use Prim.Native.Nat.{ℕ, ◌+◌, ◌*◌, ◌/◌, ◌%◌, ◌<◌}
use native.Mathlib.Omega.{arith}
use native.Mathlib.Nat.{div-add-mod', mod-lt}
use borrow.Author.Tests.{ne_eqb}
use Rattle.reader_rules.specs.Refusals.{Refused}
use Rattle.capi_codes.specs.Code.{code_finding}

pub refused_back : (number place : ℕ) → 0 < number → place < 4294967296 → code_finding (number * 4294967296 + place) ≡ Refused number place
unfolding code_finding
refused_back number place some small =
    let code = number * 4294967296 + place in
    let t = div-add-mod' code 4294967296 in
    let l : code % 4294967296 < 4294967296 = mod-lt code (omega arith) in
    let q : code / 4294967296 ≡ number = omega arith in
    let r : code % 4294967296 ≡ place = omega arith in
    rw (ne_eqb code 0 (omega arith)) (ap₂ Refused q r)
