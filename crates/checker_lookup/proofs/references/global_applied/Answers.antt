use native.Mathlib.Omega.{arith}
use Rattle.checker_pieces.proofs.AnsweringLaws.{rules_map}
use Rattle.checker_lookup.proofs.LookingUpApplied.{applied_unknown, applied_count, applying_at, global_applied}
use Rattle.checker_lookup.proofs.references.global_applied.Goals as goal

pub returns-then-e-eq0 : goal.returns-then-e-eq0
returns-then-e-eq0 c = record { is = (λ z. omega arith, λ g l. applied_unknown _ _ _ _ _ _ _ _ c.requires _ c.find_name-e.ensures c.if-e-eq0.true g.cell g.cells g.top) }

pub returns-then-parameters_of-m : goal.returns-then-parameters_of-m
returns-then-parameters_of-m c = record { is = (λ z. omega arith, λ g l. applied_count _ _ _ _ _ _ _ _ c.requires _ c.find_name-e.ensures c.if-e-eq0.false _ c.parameters_of.ensures.0 c.if-parameters_of-m.true g.cell g.cells g.top) }

pub applied-requires : goal.applied-requires
applied-requires c = applying_at _ _ _ _ _ _ _ _ c.requires _ c.find_name-e.ensures c.if-e-eq0.false _ c.parameters_of.ensures.0 c.if-parameters_of-m.false _ c.type_place-p.ensures.0

pub returns : goal.returns
returns c = rules_map c.applied.result (λ number g. global_applied _ _ _ _ _ _ _ _ c.requires _ c.find_name-e.ensures c.if-e-eq0.false _ c.parameters_of.ensures.0 c.if-parameters_of-m.false _ c.type_place-p.ensures.0 _ number g.cell g.cells g.top) c.applied.ensures
