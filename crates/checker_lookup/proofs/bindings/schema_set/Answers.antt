use Rattle.checker_lookup.proofs.SchemaSetLaws.{power_asked, schema_set_lem}
use Rattle.checker_lookup.proofs.bindings.schema_set.Goals as goal

pub power-requires : goal.power-requires
power-requires c = power_asked _ _ _ _ _ _ _ c.requires _ _ _ _ c.binding-b.ensures

pub returns : goal.returns
returns c = schema_set_lem _ _ _ _ _ _ _ c.requires _ _ _ _ c.binding-b.ensures _ c.power.ensures
