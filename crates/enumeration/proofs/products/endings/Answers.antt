use Rattle.values.specs.Sets.{first}
use Rattle.enumeration.proofs.Laws.{listing_more, listing_done, endings_turn, endings_end}
use Rattle.enumeration.proofs.products.endings.Goals as goal

pub loop-i-preserved : goal.loop-i-preserved
unfolding first
loop-i-preserved c =
    listing_more c.loop-i.invariant _ _ (rw (c.span.ensures, c.from-rest.ensures, c.span-k.ensures.0) (endings_turn c.args.n c.loop-i._i _ _ c.loop-i-test.true)) c.longer-at.ensures

pub returns : goal.returns
returns c = listing_done c.loop-i.invariant (endings_end c.args.n c.loop-i._i _ _ c.loop-i-test.false)
