use Rattle.std.proofs.lemmas.Result.{err_from_is_err_and}
use Rattle.reader.proofs.check_tree.Goals as goal

pub returns : goal.returns
returns c = rw (← c.first_repeat.ensures, c.in_ok-first_repeat.was) c.first_past_limit.ensures

pub returns-in_err-first_repeat : goal.returns-in_err-first_repeat
returns-in_err-first_repeat c =
    let p = err_from_is_err_and c.from_residual.result c.from_residual.ensures.1 in
    rw (← c.first_repeat.ensures, c.in_err-first_repeat.was, p.1, p.2)
