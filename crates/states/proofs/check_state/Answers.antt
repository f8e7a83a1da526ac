use Rattle.std.proofs.lemmas.Result.{err_from_is_err_and}
use mathlib.Core.Path.{sym, ◌∙◌}
use Rattle.states_rules.specs.States.{state_check_of}
use Rattle.states.proofs.check_state.Goals as goal

pub first_ill_formed-requires : goal.first_ill_formed-requires
first_ill_formed-requires c = sym c.read.ensures ∙ c.in_ok-read.was

pub returns : goal.returns
unfolding state_check_of
returns c = rw (← c.read.ensures, c.in_ok-read.was) c.first_ill_formed.ensures

pub returns-in_err-read : goal.returns-in_err-read
unfolding state_check_of
returns-in_err-read c =
    let p = err_from_is_err_and c.from_residual.result c.from_residual.ensures.1 in
    rw (← c.read.ensures, c.in_err-read.was, p.1, p.2)
