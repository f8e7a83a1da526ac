use mathlib.Core.Path.{refl, ◌∙◌}
use Rattle.checker_lookup.proofs.BindingLaws.{rows_start, rows_ask, rows_next}
use Rattle.checker_lookup.proofs.bindings.put_rows.Goals as goal

pub loop-j-init : goal.loop-j-init
loop-j-init c = (refl, rows_start _ _ _ _ _ _ _ c.requires)

pub put_row-requires : goal.put_row-requires
put_row-requires c = (rows_ask _ _ _ _ _ _ _ c.requires _ _ c.loop-j-test.true c.loop-j.invariant.1, c.word.ensures.1)

pub loop-j-preserved : goal.loop-j-preserved
loop-j-preserved c = (c.put_row.auto.a ∙ c.loop-j.invariant.0, rows_next _ _ _ _ _ _ _ c.requires _ _ c.loop-j-test.true c.loop-j.invariant.1 _ _ c.word.ensures.0 c.put_row.ensures)
