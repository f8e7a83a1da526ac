use Rattle.enumeration.proofs.Laws.{listing_more, listing_same, listing_done, sets_take, sets_skip, sets_end}
use Rattle.enumeration.proofs.powers.subsets.Goals as goal
use Rattle.enumeration.proofs.powers.subsets.Goals.{then-m-e, else-m-e}

pub loop-m-preserved : goal.loop-m-preserved
loop-m-preserved c =
    elim c.if-m-e.branch [
      | then-m-e w ↦ rw (w.u-is, w.at-is) (listing_more c.loop-m.invariant _ _ (sets_take c.loop-m.m-index c.args.n c.args.e _ c.requires.1 c.loop-m-test.true w.if-m-e.true) w.subset-at.ensures)
      | else-m-e w ↦ rw (w.u-is, w.at-is) (listing_same c.loop-m.invariant _ (sets_skip c.loop-m.m-index c.args.n c.args.e _ c.requires.1 c.loop-m-test.true w.if-m-e.false))
    ]

pub returns : goal.returns
returns c = listing_done c.loop-m.invariant (sets_end c.loop-m.m-index c.args.n c.args.e _ c.requires.1 c.loop-m-test.false)
