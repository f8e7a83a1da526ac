use Rattle.checker_closing.proofs.included.unite.Goals as goal

pub merge-r-requires : goal.merge-r-requires
merge-r-requires c = c.requires.1.merge _ _ _ c.keep_rows-e.ensures
