use Rattle.checker_lookup.proofs.InstanceLaws.{settled_ask, settled_instance, entered_instance}
use Rattle.checker_lookup.proofs.references.instance.Goals as goal

pub new_settled-requires : goal.new_settled-requires
new_settled-requires c = settled_ask _ _ _ _ _ _ _ c.requires

pub returns-then-m-eq0 : goal.returns-then-m-eq0
returns-then-m-eq0 c = settled_instance _ _ _ _ _ _ _ c.requires c.if-m-eq0.true _ c.new_settled.ensures

pub returns : goal.returns
returns c = entered_instance _ _ _ _ _ _ _ c.requires _ _ _ _ c.enter.ensures
