use native.Mathlib.Omega.{arith}
use Rattle.checker_lookup.proofs.ThetaRules.{no_schema_lem, components_asked, rows_asked, theta_refused, theta_binding, theta_typed}
use Rattle.checker_lookup.proofs.thetas.theta_rule.Goals as goal

pub returns-then-e-eq0 : goal.returns-then-e-eq0
returns-then-e-eq0 c = record { is = (λ z. omega arith, λ g l. no_schema_lem _ _ _ _ _ _ _ _ _ c.requires _ c.find_schema-e.ensures c.if-e-eq0.true g.cell g.cells g.top) }

pub component_rows-m-requires : goal.component_rows-m-requires
component_rows-m-requires c = components_asked _ _ _ _ _ _ _ _ _ c.requires _ c.find_schema-e.ensures c.if-e-eq0.false _ c.type_place.ensures.0

pub checks-number-requires : goal.checks-number-requires
checks-number-requires c = rows_asked _ _ _ _ _ _ _ _ _ c.requires _ c.find_schema-e.ensures c.if-e-eq0.false _ c.type_place.ensures.0 _ _ c.component_rows-m.ensures

pub returns-then-number-ne0 : goal.returns-then-number-ne0
returns-then-number-ne0 c = record { is = (c.if-number-ne0.true, λ g l. theta_refused _ _ _ _ _ _ _ _ _ c.requires _ c.find_schema-e.ensures c.if-e-eq0.false _ c.type_place.ensures.0 _ _ c.component_rows-m.ensures _ c.parameters_of.ensures.0 _ _ c.checks-number.ensures c.if-number-ne0.true g.cell g.cells g.top) }

pub binding-requires : goal.binding-requires
binding-requires c = theta_binding _ _ _ _ _ _ _ _ _ c.requires _ c.find_schema-e.ensures c.if-e-eq0.false _ c.type_place.ensures.0 _ _ c.component_rows-m.ensures _ c.parameters_of.ensures.0 _ _ c.checks-number.ensures c.if-number-ne0.false c.checks-number.auto.w

pub returns : goal.returns
returns c = record { is = theta_typed _ _ _ _ _ _ _ _ _ c.requires _ c.find_schema-e.ensures c.if-e-eq0.false _ c.type_place.ensures.0 _ _ c.component_rows-m.ensures _ c.parameters_of.ensures.0 _ _ c.checks-number.ensures c.if-number-ne0.false _ _ _ _ c.binding.ensures }
