use Rattle.checker_lookup.proofs.ReferenceLaws.{instance_asked, generic}
use Rattle.checker_lookup.proofs.references.generic.Goals as goal

pub instance-requires : goal.instance-requires
instance-requires c = instance_asked _ _ _ _ _ _ c.requires _ c.fresh_row.ensures

pub returns : goal.returns
returns c = generic _ _ _ _ _ _ c.requires _ c.fresh_row.ensures _ _ _ _ c.instance.ensures
