use native.Mathlib.Omega.{arith}
use Rattle.checker.proofs.AnsweringLaws.{tree_21, tree_22, tree_paragraphs}
use Rattle.checker.proofs.check_tree.Goals as goal

pub returns-then-work-lt-CHECK_WORK_WORDS : goal.returns-then-work-lt-CHECK_WORK_WORDS
returns-then-work-lt-CHECK_WORK_WORDS c = tree_21 _ _ _ _ c.if-work-lt-CHECK_WORK_WORDS.true

pub returns-then-dict-eq0 : goal.returns-then-dict-eq0
returns-then-dict-eq0 c = tree_22 _ _ _ _ c.if-work-lt-CHECK_WORK_WORDS.false c.if-dict-eq0.true

pub returns : goal.returns
returns c = tree_paragraphs _ _ _ _ c.if-work-lt-CHECK_WORK_WORDS.false (omega (arith, c.if-dict-eq0.false)) _ c.check_paragraphs.ensures
