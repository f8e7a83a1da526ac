use Rattle.checker_lookup.proofs.PlacedLaws.{placing_next}
use mathlib.Core.Path.{◌∙◌}
use Rattle.checker_lookup.proofs.thetas.place_rows.Goals as goal

pub loop-j-preserved : goal.loop-j-preserved
loop-j-preserved c = let l = c.loop-j-test.true in (c.place_row.auto.w ∙ c.loop-j.invariant.0, placing_next _ _ _ _ _ _ _ _ c.requires c.loop-j.invariant.1 _ _ c.place_row.ensures c.if-not-place_row.false)
