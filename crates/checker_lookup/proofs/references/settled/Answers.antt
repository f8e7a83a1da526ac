use Rattle.checker_lookup.proofs.ReferenceLaws.{typed_at}
use Rattle.checker_lookup.proofs.references.settled.Goals as goal

pub returns : goal.returns
returns c = typed_at _ _ _ _ _ _ c.requires c.new_settled.ensures
