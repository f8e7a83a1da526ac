use Rattle.evaluator_scope.proofs.BlockLaws.{scoped_same}
use Rattle.evaluator_operations.proofs.ToldLaws.{exit_told}
use Rattle.evaluator_paragraphs.proofs.StepLaws.{demand_stops, demand_holds, demand_fails}
use Rattle.evaluator_paragraphs.proofs.demand.Goals as goal

pub returns-in_err-y : goal.returns-in_err-y
returns-in_err-y c = λ scope g. exit_told c.from_residual.ensures.1 (demand_stops c.args.k _ scope (c.in_err-y.ensures.told scope g))

pub returns-then-y : goal.returns-then-y
returns-then-y c = λ scope g. demand_holds c.args.k _ scope (c.in_ok-y.ensures.told scope g) c.if-y.true (scoped_same c.args.state.now _ _ c.args.n c.in_ok-y.ensures.kept g)

pub returns : goal.returns
returns c = λ scope g. demand_fails c.args.k _ scope (c.in_ok-y.ensures.told scope g) c.if-y.false
