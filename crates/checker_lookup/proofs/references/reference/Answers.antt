use Rattle.checker_pieces.proofs.AnsweringLaws.{rules_map}
use Rattle.checker_lookup.proofs.LookingUp.{local_entering, local_refers, global_refers}
use Rattle.checker_lookup.proofs.references.reference.Goals as goal

pub settled-requires : goal.settled-requires
settled-requires c = local_entering _ _ _ _ _ _ _ _ c.requires c.find-r.ensures c.if-r-rows.true _ c.word.ensures.0

pub returns-then-r-rows : goal.returns-then-r-rows
returns-then-r-rows c = record { is = local_refers _ _ _ _ _ _ _ _ c.requires c.find-r.ensures c.if-r-rows.true _ c.word.ensures.0 _ _ _ _ c.settled.ensures }

pub returns : goal.returns
returns c = rules_map c.global.result (λ number g. global_refers _ _ _ _ _ _ _ _ c.requires c.find-r.ensures c.if-r-rows.false _ number g.cell g.cells g.top) c.global.ensures
