use native.Mathlib.Omega.{arith}
use Rattle.checker_pieces.proofs.AnsweringLaws.{rules_map}
use Rattle.checker_lookup.proofs.LookingUpApplied.{refers_plain, refers_local, consulted_with, refers_global}
use Rattle.checker_lookup.proofs.references.ref_rule.Goals as goal

pub returns-then-m-eq0 : goal.returns-then-m-eq0
returns-then-m-eq0 c = rules_map c.reference.result (λ number g. refers_plain _ _ _ _ _ _ _ _ _ c.requires c.if-m-eq0.true _ number g.cell g.cells g.top) c.reference.ensures

pub returns-then-r-rows : goal.returns-then-r-rows
returns-then-r-rows c = record { is = (λ z. omega arith, λ g l. refers_local _ _ _ _ _ _ _ _ _ c.requires c.if-m-eq0.false _ c.find-r.ensures c.if-r-rows.true g.cell g.cells g.top) }

pub global_applied-requires : goal.global_applied-requires
global_applied-requires c = consulted_with _ _ _ _ _ _ _ _ _ c.requires c.if-m-eq0.false _ c.find-r.ensures

pub returns : goal.returns
returns c = rules_map c.global_applied.result (λ number g. refers_global _ _ _ _ _ _ _ _ _ c.requires c.if-m-eq0.false _ c.find-r.ensures c.if-r-rows.false _ number g.cell g.cells g.top) c.global_applied.ensures
