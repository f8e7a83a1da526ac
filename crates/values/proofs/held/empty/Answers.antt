use Rattle.std.proofs.Common.{refl}
use Rattle.values.specs.Held.{keep}
use Rattle.values.proofs.held.empty.Goals as goal

pub returns : goal.returns
unfolding keep
returns c = refl
