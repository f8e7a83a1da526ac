use Rattle.checker_signatures.specs.Rows.{flat}
use mathlib.Core.Path.{refl}
use Rattle.checker_signatures.proofs.scopes.push_row.Goals as goal

pub returns : goal.returns
unfolding flat
returns c = record { words = c.put_row.ensures; count = refl }
