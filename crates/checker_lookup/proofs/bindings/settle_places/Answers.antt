use mathlib.Core.Path.{refl, ◌∙◌}
use Rattle.checker_lookup.proofs.BindingLaws.{places_start, places_ask, places_next}
use Rattle.checker_lookup.proofs.bindings.settle_places.Goals as goal

pub loop-j-init : goal.loop-j-init
loop-j-init c = (refl, places_start _ _ _ _ _ _ c.requires)

pub new_settled-requires : goal.new_settled-requires
new_settled-requires c = places_ask _ _ _ _ _ _ c.requires _ _ c.loop-j-test.true c.loop-j.invariant.1 _ c.word.ensures.0

pub loop-j-preserved : goal.loop-j-preserved
loop-j-preserved c = (c.new_settled.auto.a ∙ c.loop-j.invariant.0, places_next _ _ _ _ _ _ c.requires _ _ c.loop-j-test.true c.loop-j.invariant.1 _ c.word.ensures.0 _ c.new_settled.ensures)
