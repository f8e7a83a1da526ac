use Rattle.std.proofs.lemmas.Result.{err_from_is_err_and}
use Rattle.evaluator_rules.specs.Run.{run_state}
use Rattle.evaluator.proofs.run_state.Goals as goal

pub returns : goal.returns
unfolding run_state
returns c = rw (← c.first_ill_formed.ensures, c.in_ok-first_ill_formed.was) c.run_paragraphs.ensures

pub returns-in_err-first_ill_formed : goal.returns-in_err-first_ill_formed
unfolding run_state
returns-in_err-first_ill_formed c =
    let p = err_from_is_err_and c.from_residual.result c.from_residual.ensures.1 in
    rw (← c.first_ill_formed.ensures, c.in_err-first_ill_formed.was, p.1, p.2)
