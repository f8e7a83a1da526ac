use Rattle.checker_paragraphs.proofs.AbbreviationLaws.{type_large}
use Rattle.checker_paragraphs.proofs.abbreviations.type_finding.Goals as goal

pub returns-then-settled_size-gt-SIZE : goal.returns-then-settled_size-gt-SIZE
returns-then-settled_size-gt-SIZE c = type_large c.close.ensures c.if-not-close.false c.span.ensures c.names_new.ensures c.if-not-names_new.false c.settled_size.ensures c.if-settled_size-gt-SIZE.true
