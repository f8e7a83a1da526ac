use Rattle.values.specs.Sets.{first}
use Rattle.enumeration.proofs.Laws.{listing_more, listing_done, tuples_turn, tuples_end}
use Rattle.enumeration.proofs.products.tuples.Goals as goal

pub loop-i-preserved : goal.loop-i-preserved
unfolding first
loop-i-preserved c =
    listing_more c.loop-i.invariant _ _ (rw (c.span.ensures, c.from-rest.ensures, c.span-k.ensures.0) (tuples_turn c.args.m c.loop-i._i _ _ _ c.loop-i-test.true)) c.endings-at.ensures

pub returns : goal.returns
returns c = listing_done c.loop-i.invariant (tuples_end c.args.m c.loop-i._i _ _ _ c.loop-i-test.false)
