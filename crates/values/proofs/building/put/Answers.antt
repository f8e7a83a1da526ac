use Rattle.std.proofs.Common.{arith}
use Rattle.values.proofs.Holding.{put_fits}
use Rattle.values.proofs.building.put.Goals as goal

pub returns : goal.returns
returns c = λ ws b. rw c.copy.ensures (put_fits _ _ ws _ b (omega (arith, c.if-n-at-2.false, c.if-n-at.false)))
