use mathlib.Core.Path.{sym, ◌∙◌}
use Rattle.reader_rules.proofs.Scan.{refused_by, readable_by}
use Rattle.checker.proofs.AnsweringLaws.{checked_accepted, checked_refused}
use Rattle.checker.proofs.check.Goals as goal

pub returns-then-is_err : goal.returns-then-is_err
returns-then-is_err c =
    let r = refused_by c.check_words-found.result (sym c.is_err.ensures.value ∙ c.if-is_err.true) in
    rw r.1 (checked_refused _ _ _ _ c.check_words-found.auto.dict _ c.check_words-found.ensures c.check_words-found.new.work _ c.clear.ensures c.check_words-found.auto.work _ _ r.1 _ c.clear-then-is_err.ensures)

pub returns-else-is_err : goal.returns-else-is_err
returns-else-is_err c =
    let r = readable_by c.check_words-found.result (sym c.is_err.ensures.value ∙ c.if-is_err.false) in
    rw r (checked_accepted _ _ _ _ c.check_words-found.auto.dict _ c.check_words-found.ensures c.check_words-found.new.work _ c.clear.ensures c.check_words-found.auto.work r)
