use Rattle.checker_paragraphs.proofs.AbbreviationNodes.{abbreviation_parameters, expr_ask, abbreviation_asked, abbreviation_told}
use Rattle.checker_paragraphs.proofs.ParagraphNodes.{all_parameters}
use Rattle.checker_paragraphs.proofs.paragraphs.abbreviation.Goals as goal

pub push_parameters-at-requires : goal.push_parameters-at-requires
push_parameters-at-requires c = abbreviation_parameters c.requires.0 c.requires.2 c.word-n.ensures.0 c.requires.1

pub expr-x-requires : goal.expr-x-requires
expr-x-requires c = expr_ask c.requires.0 c.requires.2 c.word-n.ensures.0 c.requires.1 c.word.ensures.0 (all_parameters c.args.p.now c.push_parameters-at.ensures)

pub abbreviated-requires : goal.abbreviated-requires
abbreviated-requires c = abbreviation_asked c.requires.0 c.requires.2 c.word-n.ensures.0 c.requires.1 c.word.ensures.0 (all_parameters c.args.p.now c.push_parameters-at.ensures) c.expr-x.ensures

pub returns : goal.returns
returns c = abbreviation_told c.requires.0 c.requires.2 c.word-n.ensures.0 c.requires.1 c.word.ensures.0 (all_parameters c.args.p.now c.push_parameters-at.ensures) c.expr-x.ensures c.abbreviated.ensures
