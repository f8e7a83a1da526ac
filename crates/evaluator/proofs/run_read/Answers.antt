use Rattle.std.proofs.lemmas.Result.{err_from_is_err_and}
use lib.ListN.{length}
use borrow.Author.Tests.{lt-leb, le-leb}
use Rattle.evaluator_rules.specs.Run.{run_of, run_read, run_work, run_work_words}
use native.Mathlib.Omega.{arith}
use Rattle.evaluator.proofs.run_read.Goals as goal

pub returns-then-work-lt-RUN_WORK_WORDS : goal.returns-then-work-lt-RUN_WORK_WORDS
unfolding run_of run_read run_work
returns-then-work-lt-RUN_WORK_WORDS c = rw (← c.read.ensures, c.in_ok-read.was, lt-leb run_work_words (length c.args.work.now) c.if-work-lt-RUN_WORK_WORDS.true)

pub returns : goal.returns
unfolding run_of run_read run_work
returns c = rw (← c.read.ensures, c.in_ok-read.was, le-leb run_work_words (length c.args.work.now) (omega arith)) c.run_state.ensures

pub returns-in_err-read : goal.returns-in_err-read
unfolding run_of run_read
returns-in_err-read c =
    let p = err_from_is_err_and c.from_residual.result c.from_residual.ensures.1 in
    rw (← c.read.ensures, c.in_err-read.was, p.1, p.2)
