use Rattle.checker_merging.proofs.MergeLaws.{one_found, one_absent}
use Rattle.checker_merging.proofs.agrees.Goals as goal

pub returns-then-r-m : goal.returns-then-r-m
returns-then-r-m c = one_found _ _ _ _ _ _ _ _ c.find-r.ensures c.if-r-m.true _ _ c.word.ensures.0 c.same_type.ensures

pub returns : goal.returns
returns c = one_absent _ _ _ _ _ _ _ _ c.find-r.ensures c.if-r-m.false
