use native.Mathlib.Omega.{arith}
use Rattle.checker_lookup.proofs.LookingUp.{not_recorded, recorded_at, global}
use Rattle.checker_lookup.proofs.references.global.Goals as goal

pub returns-then-e-eq0 : goal.returns-then-e-eq0
returns-then-e-eq0 c = record { is = (λ z. omega arith, λ g l. not_recorded _ _ _ _ _ _ _ c.find_name-e.ensures c.if-e-eq0.true g.cell g.cells g.top) }

pub generic-requires : goal.generic-requires
generic-requires c = recorded_at _ _ _ _ _ _ _ c.find_name-e.ensures c.if-e-eq0.false _ c.parameters_of-m.ensures.0 _ c.type_place-p.ensures.0 c.requires

pub returns : goal.returns
returns c = record { is = global _ _ _ _ _ _ _ c.find_name-e.ensures c.if-e-eq0.false _ c.parameters_of-m.ensures.0 _ c.type_place-p.ensures.0 _ _ _ _ c.generic.ensures }
