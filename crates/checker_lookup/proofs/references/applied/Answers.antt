use Rattle.checker_lookup.proofs.AppliedLaws.{applied_not, applied_ask, applied}
use Rattle.checker_lookup.proofs.references.applied.Goals as goal

pub returns-then-number-ne0 : goal.returns-then-number-ne0
returns-then-number-ne0 c = record { is = (c.if-number-ne0.true, λ g l. applied_not _ _ _ _ _ _ _ c.requires _ _ c.are_powers-number.ensures c.if-number-ne0.true g.cell g.cells g.top) }

pub instance-requires : goal.instance-requires
instance-requires c = applied_ask _ _ _ _ _ _ _ c.requires _ _ c.are_powers-number.ensures c.if-number-ne0.false

pub returns : goal.returns
returns c = record { is = applied _ _ _ _ _ _ _ c.requires _ _ c.are_powers-number.ensures c.if-number-ne0.false _ _ _ _ c.instance.ensures }
