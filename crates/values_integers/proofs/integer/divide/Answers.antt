use mir.Syntax.{w32}
use mir.ValLaws.{to_z-of_z}
use Rattle.values_integers.proofs.Integers.{low_quotient, div_safe, quotient_down, quotient_same, rem_fits}
use Rattle.values_integers.proofs.integer.divide.Goals as goal

pub returns-then-n-lt1 : goal.returns-then-n-lt1
returns-then-n-lt1 c = low_quotient _ _ (rw (to_z-of_z w32 _ c.ranges.n) at c.if-n-lt1.true)

pub returns-then-r-lt0 : goal.returns-then-r-lt0
returns-then-r-lt0 c =
    let one = rw (to_z-of_z w32 _ c.ranges.n) at c.if-n-lt1.false in
    let low = rw (to_z-of_z w32 _ c.ranges.a, to_z-of_z w32 _ c.ranges.n, to_z-of_z w32 _ (rem_fits _ c.args.n c.ranges.a)) at c.if-r-lt0.true in
    let q = div_safe _ _ c.ranges.a c.ranges.n one in
    let d = quotient_down _ _ c.ranges.a one low in
    rw (to_z-of_z w32 _ c.ranges.a, to_z-of_z w32 _ c.ranges.n, to_z-of_z w32 _ q.1, to_z-of_z w32 _ d.0) d.1

pub returns : goal.returns
returns c =
    let one = rw (to_z-of_z w32 _ c.ranges.n) at c.if-n-lt1.false in
    let high = rw (to_z-of_z w32 _ c.ranges.a, to_z-of_z w32 _ c.ranges.n, to_z-of_z w32 _ (rem_fits _ c.args.n c.ranges.a)) at c.if-r-lt0.false in
    let q = div_safe _ _ c.ranges.a c.ranges.n one in
    rw (to_z-of_z w32 _ c.ranges.a, to_z-of_z w32 _ c.ranges.n, to_z-of_z w32 _ q.1) (quotient_same _ _ one high)
