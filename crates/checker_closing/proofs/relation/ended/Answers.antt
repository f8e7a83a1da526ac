use Rattle.checker_closing.proofs.RelationLaws.{end_one}
use Rattle.checker_closing.proofs.relation.ended.Goals as goal

pub returns-then-close : goal.returns-then-close
returns-then-close c = end_one c.close.ensures c.if-close.true c.close.auto.a c.wipe.ensures c.verdict_at.ensures
