use Rattle.std.proofs.lemmas.Result.{err_from_is_err_and}
use Rattle.checker.proofs.AnsweringLaws.{words_tree, words_unread}
use mathlib.Core.Path.{sym, ◌∙◌}
use Rattle.checker.proofs.check_words.Goals as goal

pub returns : goal.returns
returns c = words_tree _ _ _ _ _ (sym c.read.ensures ∙ c.in_ok-read.was) c.check_tree.ensures

pub returns-in_err-read : goal.returns-in_err-read
returns-in_err-read c =
    let p = err_from_is_err_and c.from_residual.result c.from_residual.ensures.1 in
    rw (p.1, p.2) (words_unread _ _ _ _ _ _ (sym c.read.ensures ∙ c.in_err-read.was))
