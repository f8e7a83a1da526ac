use Rattle.checker_extension.proofs.EnteringLaws.{visit_ask, visit_done}
use Rattle.checker_extension.proofs.visit.Goals as goal

pub paragraph-requires : goal.paragraph-requires
paragraph-requires c = visit_ask _ _ _ c.size-n.ensures.0 c.span.ensures _ _ _ _ c.requires.0 c.requires.1

pub returns : goal.returns
returns c = visit_done _ _ _ c.size-n.ensures.0 c.span.ensures _ _ _ _ _ _ _ _ _ c.paragraph.ensures
