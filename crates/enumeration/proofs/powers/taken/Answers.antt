use Rattle.std.proofs.Common.{arith}
use Rattle.enumeration.proofs.Laws.{taken_turn, taken_end}
use Rattle.enumeration.proofs.powers.taken.Goals as goal

pub loop-i-preserved : goal.loop-i-preserved
loop-i-preserved c = (omega arith, omega (arith, taken_turn c.args.n c.loop-i._i c.loop-i.mask c.loop-i-test.true, c.loop-i.invariant.1))

pub returns : goal.returns
returns c = (omega (arith, taken_end c.args.n c.loop-i._i c.loop-i.mask c.loop-i-test.false, c.loop-i.invariant.1), omega arith)
