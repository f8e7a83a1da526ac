use Rattle.std.proofs.Common.{sym, ◌∙◌}
use Rattle.checker_dictionary.proofs.PlacingLaws.{placed_go, placed_end}
use Rattle.checker_dictionary.proofs.placing.place_pairs.Goals as goal

pub loop-k-preserved : goal.loop-k-preserved
loop-k-preserved c =
    let w = c.word-len.ensures.0 in
    c.loop-k.invariant ∙ placed_go _ _ _ _ c.loop-k-test.true ∙ rw (← c.store.ensures, ← w, ← c.wrapping_add_u32-o.ensures.value)

pub returns : goal.returns
returns c = sym (c.loop-k.invariant ∙ placed_end _ _ _ _ c.loop-k-test.false)
