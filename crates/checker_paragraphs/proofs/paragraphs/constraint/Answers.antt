use Rattle.checker_paragraphs.proofs.ParagraphNodes.{constraint_ask, constraint_told}
use Rattle.checker_paragraphs.proofs.paragraphs.constraint.Goals as goal

pub pred-x-requires : goal.pred-x-requires
pred-x-requires c = constraint_ask c.requires.0 c.requires.2 c.requires.1 c.word.ensures.0

pub returns : goal.returns
returns c = constraint_told c.requires.0 c.requires.2 c.requires.1 c.word.ensures.0 c.pred-x.ensures c.unlined.ensures
