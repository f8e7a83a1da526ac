use mir.Syntax.{w32, w64}
use mir.ValLaws.{to_z-of_z}
use Rattle.values_integers.specs.Integer.{difference}
use Rattle.values_integers.proofs.Integers.{widen, difference_fits}
use Rattle.values_integers.proofs.integer.subtract.Goals as goal

pub overflow_cast-a : goal.overflow_cast-a
overflow_cast-a c = rw (to_z-of_z w32 _ c.ranges.a) (widen _ _ c.ranges.a c.ranges.b)

pub overflow_cast-b : goal.overflow_cast-b
overflow_cast-b c = rw (to_z-of_z w32 _ c.ranges.b) (widen _ _ c.ranges.b c.ranges.a)

pub overflow_sub-a : goal.overflow_sub-a
overflow_sub-a c =
    rw (to_z-of_z w32 _ c.ranges.a, to_z-of_z w32 _ c.ranges.b, to_z-of_z w64 _ (widen _ _ c.ranges.a c.ranges.b), to_z-of_z w64 _ (widen _ _ c.ranges.b c.ranges.a))
    (difference_fits _ _ c.ranges.a c.ranges.b)

pub returns : goal.returns
unfolding difference
returns c =
    rw (to_z-of_z w32 _ c.ranges.a, to_z-of_z w32 _ c.ranges.b, to_z-of_z w64 _ (widen _ _ c.ranges.a c.ranges.b), to_z-of_z w64 _ (widen _ _ c.ranges.b c.ranges.a), to_z-of_z w64 _ (difference_fits _ _ c.ranges.a c.ranges.b))
    at c.kept.ensures
