use Rattle.checker_includes.proofs.KeptLaws.{move_asked, rows_kept}
use Rattle.checker_includes.proofs.storing.keep_rows.Goals as goal

pub move_words-requires : goal.move_words-requires
move_words-requires c = move_asked _ _ _ _ _ _ _ _ _ _ _ c.requires _ _ c.keep_all-e.ensures

pub returns : goal.returns
returns c = rows_kept _ _ _ _ _ _ _ _ _ _ _ c.requires _ _ c.keep_all-e.ensures _ _ c.move_words.ensures
