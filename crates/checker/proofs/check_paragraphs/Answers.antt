use Rattle.checker.proofs.FirstLaws.{first_some, first_ask, first_answered, blank_recorded}
use native.Mathlib.Omega.{arith}
use Rattle.checker.proofs.check_paragraphs.Goals as goal

pub overflow_sub-m : goal.overflow_sub-m
overflow_sub-m c = first_some _ c.requires.0 _ c.word-n.ensures.0 _ c.part.ensures

pub paragraphs_from-requires : goal.paragraphs_from-requires
paragraphs_from-requires c =
    let e = c.begin-2.auto.w in
    let v = c.requires.1 in
    first_ask _ c.requires.0 _ c.word-n.ensures.0 _ c.part.ensures _ _ (omega arith) (c.begin.ensures c.requires.2) (c.begin-2.ensures _)

pub returns : goal.returns
returns c =
    first_answered _ c.requires.0 _ c.word-n.ensures.0 _ c.part.ensures c.args.dict.now c.begin.new.d _ _ c.begin.auto.d
    (c.paragraphs_from.ensures _ (blank_recorded _ _ (c.begin.ensures c.requires.2) (c.begin-2.ensures _)))
