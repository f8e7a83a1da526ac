use Rattle.checker_lookup.proofs.ThetaLaws.{scope_generic}
use Rattle.checker_lookup.proofs.thetas.place_in_scope.Goals as goal

pub returns-then-parameters_of-ne0 : goal.returns-then-parameters_of-ne0
returns-then-parameters_of-ne0 c = scope_generic _ _ _ _ _ c.find-r.ensures c.if-r-rows.false _ c.find_name-e.ensures c.if-e-eq0.false _ c.parameters_of.ensures.0 c.if-parameters_of-ne0.true
