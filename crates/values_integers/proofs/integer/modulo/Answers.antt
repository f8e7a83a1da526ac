use mir.Syntax.{w32}
use mir.ValLaws.{to_z-of_z}
use Rattle.values_integers.proofs.Integers.{low_remainder, remainder_up, remainder_same, rem_fits}
use Rattle.values_integers.proofs.integer.modulo.Goals as goal

pub returns-then-n-lt1 : goal.returns-then-n-lt1
returns-then-n-lt1 c = low_remainder _ _ (rw (to_z-of_z w32 _ c.ranges.n) at c.if-n-lt1.true)

pub returns-then-m-lt0 : goal.returns-then-m-lt0
returns-then-m-lt0 c =
    let one = rw (to_z-of_z w32 _ c.ranges.n) at c.if-n-lt1.false in
    let low = rw (to_z-of_z w32 _ c.ranges.a, to_z-of_z w32 _ c.ranges.n, to_z-of_z w32 _ (rem_fits _ c.args.n c.ranges.a)) at c.if-m-lt0.true in
    let d = remainder_up c.args.a _ c.ranges.n one low in
    rw (to_z-of_z w32 _ c.ranges.a, to_z-of_z w32 _ c.ranges.n, to_z-of_z w32 _ (rem_fits _ c.args.n c.ranges.a), to_z-of_z w32 _ d.0) d.1

pub returns : goal.returns
returns c =
    let one = rw (to_z-of_z w32 _ c.ranges.n) at c.if-n-lt1.false in
    let high = rw (to_z-of_z w32 _ c.ranges.a, to_z-of_z w32 _ c.ranges.n, to_z-of_z w32 _ (rem_fits _ c.args.n c.ranges.a)) at c.if-m-lt0.false in
    rw (to_z-of_z w32 _ c.ranges.a, to_z-of_z w32 _ c.ranges.n, to_z-of_z w32 _ (rem_fits _ c.args.n c.ranges.a)) (remainder_same _ _ one high)
