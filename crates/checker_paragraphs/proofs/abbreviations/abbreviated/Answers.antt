use Rattle.checker_paragraphs.proofs.AbbreviationLaws.{type_fine, told_refused}
use Rattle.checker_paragraphs.specs.Abbreviations.{entered}
use Rattle.checker_paragraphs.proofs.abbreviations.abbreviated.Goals as goal

pub returns-then-number-ne0 : goal.returns-then-number-ne0
returns-then-number-ne0 c = told_refused c.if-x-ne0.false c.type_finding-number.ensures c.if-number-ne0.true c.lined_at.ensures

pub enter-requires : goal.enter-requires
enter-requires c = let A = c.requires in (A.2.entry c.if-x-ne0.false _ (type_fine c.type_finding-number.ensures c.if-number-ne0.false), A.1, A.2.low c.if-x-ne0.false)

pub returns : goal.returns
returns c = let L = c.lined_at-2.ensures in entered c.if-x-ne0.false L.number_is L.place_is L.count_is L.at_is _ (type_fine c.type_finding-number.ensures c.if-number-ne0.false) c.enter.ensures
