use mir.Syntax.{w32, w64}
use mir.ValLaws.{to_z-of_z}
use Rattle.values_integers.proofs.Integers.{kept_low, kept_high, kept_bound, kept_in}
use Rattle.values_integers.proofs.integer.kept.Goals as goal

pub returns-then-z-lt-SMALLEST : goal.returns-then-z-lt-SMALLEST
returns-then-z-lt-SMALLEST c = kept_low _ (rw (to_z-of_z w64 _ c.ranges.z) at c.if-z-lt-SMALLEST.true)

pub returns-then-z-gt-LARGEST : goal.returns-then-z-gt-LARGEST
returns-then-z-gt-LARGEST c = kept_high _ (rw (to_z-of_z w64 _ c.ranges.z) at c.if-z-gt-LARGEST.true)

pub returns : goal.returns
returns c =
    let b = to_z-of_z w64 c.args.z c.ranges.z in
    let inside = kept_bound c.args.z (rw b at c.if-z-lt-SMALLEST.false) (rw b at c.if-z-gt-LARGEST.false) in
    rw (b, to_z-of_z w32 _ inside) (kept_in _ inside)
