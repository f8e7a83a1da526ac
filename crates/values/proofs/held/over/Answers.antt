use Rattle.std.proofs.Common.{refl}
use Rattle.values.specs.Held.{over}
use Rattle.values.proofs.held.over.Goals as goal

pub returns : goal.returns
unfolding over
returns c = refl
