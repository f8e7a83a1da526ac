use mathlib.Core.Path.{sym, ◌∙◌}
use native.Mathlib.Omega.{arith}
use Rattle.states.proofs.NameLaws.{put_go, put_end}
use Rattle.states.proofs.names.put_given.Goals as goal

pub loop-i-preserved : goal.loop-i-preserved
loop-i-preserved c = (c.put_pair.auto.table ∙ c.loop-i.invariant.0, c.loop-i.invariant.1 ∙ put_go c.args.w.now c.args.state.now c.args.n c.loop-i.i c.loop-i.table (omega arith) ∙ rw (← c.put_pair.ensures))

pub returns : goal.returns
returns c = sym (c.loop-i.invariant.1 ∙ put_end c.args.w.now c.args.state.now c.args.n c.loop-i.i c.loop-i.table (omega arith))
