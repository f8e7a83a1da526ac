use Rattle.checker_paragraphs.proofs.AbbreviationLaws.{words_end}
use native.Mathlib.Omega.{arith}
use Rattle.checker_paragraphs.proofs.abbreviations.enter.Goals as goal

pub overflow_sub-e : goal.overflow_sub-e
overflow_sub-e c = let y = words_end c.requires.0 c.settled_words-e.ensures in let z = y.0 in omega arith

pub overflow_sub-e-2 : goal.overflow_sub-e-2
overflow_sub-e-2 c = let y = words_end c.requires.0 c.settled_words-e.ensures in let z = y.0 in omega arith

pub put_head-requires : goal.put_head-requires
put_head-requires c = let y = words_end c.requires.0 c.settled_words-e.ensures in let z = y.1 in (omega arith, omega arith, omega arith, c.word.ensures.1, c.requires.1)
