use Rattle.checker_includes.proofs.StoreLaws.{type_stored}
use Rattle.checker_includes.proofs.storing.store_type.Goals as goal

pub returns : goal.returns
returns c = type_stored _ _ _ _ _ _ _ _ c.requires _ _ c.shown_words-e.ensures _ _ c.move_words.ensures
