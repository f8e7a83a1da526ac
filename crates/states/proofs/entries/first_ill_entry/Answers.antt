use Rattle.std.proofs.lemmas.Result.{err_from_is_err_and}
use Rattle.states.specs.Table.{number_by}
use Rattle.states.proofs.entries.first_ill_entry.Goals as goal

pub returns : goal.returns
unfolding number_by
returns c = rw (← c.first_ill.ensures, c.in_ok-first_ill.was) c.first_ill-2.ensures

pub returns-in_err-first_ill : goal.returns-in_err-first_ill
unfolding number_by
returns-in_err-first_ill c =
    let p = err_from_is_err_and c.from_residual.result c.from_residual.ensures.1 in
    rw (← c.first_ill.ensures, c.in_err-first_ill.was, p.1, p.2)
