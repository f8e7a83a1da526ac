use Rattle.checker_extension.proofs.ListedLaws.{listed_at}
use Rattle.checker_extension.proofs.EnteringLaws.{entered_refused, entered_accepted, entered_full}
use native.Mathlib.Omega.{arith}
use Rattle.checker_extension.proofs.enter.Goals as goal

pub returns-then-p-ne0 : goal.returns-then-p-ne0
returns-then-p-ne0 c = entered_refused _ _ c.requires.0 _ _ _ _ _ c.requires.1 _ _ _ _ c.visit-p.ensures c.if-p-ne0.true

pub returns-then-append : goal.returns-then-append
returns-then-append c =
    entered_accepted _ _ c.requires.0 _ _ _ _ _ c.requires.1 _ _ _ _ c.visit-p.ensures c.if-p-ne0.false _ _ c.append.ensures c.if-append.true
    _ _ c.word-n.ensures.0 c.extend.ensures

pub overflow_cast-result : goal.overflow_cast-result
overflow_cast-result c = let h = (listed_at _ _ c.requires.0).small in record { fits = omega arith }

pub returns : goal.returns
returns c = entered_full _ _ c.requires.0 _ _ _ _ _ c.requires.1 _ _ _ _ c.visit-p.ensures c.if-p-ne0.false _ _ c.append.ensures c.if-append.false
