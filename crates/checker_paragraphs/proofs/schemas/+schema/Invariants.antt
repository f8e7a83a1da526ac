use Rattle.checker_paragraphs.proofs.schemas.+schema.Given as goal

abbrev pub decreases-schema : goal.decreases-schema
decreases-schema l = l.k
