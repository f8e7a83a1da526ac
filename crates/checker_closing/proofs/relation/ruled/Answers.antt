use mathlib.Core.Path.{refl}
use Rattle.checker_closing.specs.Relations.{refused}
use Rattle.checker_closing.proofs.RelationLaws.{rule_fits}
use Rattle.checker_closing.proofs.relation.ruled.Goals as goal

pub returns-in-Ok : goal.returns-in-Ok
returns-in-Ok c = rule_fits c.args.q c.in-Ok.ensures refl c.related.auto.a c.ended.ensures

pub returns-in-Err : goal.returns-in-Err
returns-in-Err c = refused c.in-Err.number 0 (c.in-Err.ensures.1 0) c.in-Err.ensures.0 c.verdict_at.ensures
