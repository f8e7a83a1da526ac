use mathlib.Core.Path.{◌≡◌, sym, ap, ◌∙◌}
use native.Mathlib.Omega.{arith}
use Prim.Native.Nat.{suc, ◌+◌, ◌-◌}
use lib.ListN.{get_or}
use Rattle.types_instances.specs.Filled.{place_of}
use Rattle.types_instances.proofs.Rows.{place_some, place_past, place_zero}
use Rattle.types_instances.proofs.actual.Goals as goal

pub returns-then-i-eq0 : goal.returns-then-i-eq0
returns-then-i-eq0 c = let row = c.args.row.now in sym (ap (place_of row) c.if-i-eq0.true ∙ place_zero row)

pub returns-then-k-row : goal.returns-then-k-row
returns-then-k-row c =
    let s = c.args in
    let row = s.row.now in
    let ne = c.if-i-eq0.false in
    let z : s.i ≡ suc (s.i - 1) = omega arith in
    let w : c.word.result + 1 ≡ suc (get_or row (s.i - 1) 0) = (let e = c.word.ensures.0 in omega arith) in
    w ∙ sym (ap (place_of row) z ∙ place_some row (s.i - 1) c.if-k-row.true)

pub returns : goal.returns
returns c =
    let s = c.args in
    let row = s.row.now in
    let ne = c.if-i-eq0.false in
    let z : s.i ≡ suc (s.i - 1) = omega arith in
    sym (ap (place_of row) z ∙ place_past row (s.i - 1) (let q = c.if-k-row.false in omega arith))
