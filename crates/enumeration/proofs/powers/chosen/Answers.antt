use Rattle.values.specs.Sets.{first}
use Rattle.enumeration.proofs.Laws.{listing_more, listing_same, listing_done, masked_take, masked_skip, masked_end}
use Rattle.enumeration.proofs.powers.chosen.Goals as goal
use Rattle.enumeration.proofs.powers.chosen.Goals.{then-mask-eq1, else-mask-eq1}

pub loop-i-preserved : goal.loop-i-preserved
unfolding first
loop-i-preserved c =
    let r = c.from-rest.ensures in
    let k = c.span-k.ensures.0 in
    elim c.if-mask-eq1.branch [
      | then-mask-eq1 w ↦ rw (w.u-is, w.at-is)
          (listing_more c.loop-i.invariant _ _ (rw (w.span.ensures, r, k) (masked_take c.args.n c.loop-i._i _ _ c.loop-i-test.true w.if-mask-eq1.true)) w.put-at.ensures)
      | else-mask-eq1 w ↦ rw (w.u-is, w.at-is) (listing_same c.loop-i.invariant _ (rw (r, k) (masked_skip c.args.n c.loop-i._i _ _ c.loop-i-test.true w.if-mask-eq1.false)))
    ]

pub returns : goal.returns
returns c = listing_done c.loop-i.invariant (masked_end c.args.n c.loop-i._i _ _ c.loop-i-test.false)
