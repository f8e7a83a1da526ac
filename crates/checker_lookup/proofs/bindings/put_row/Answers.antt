use Rattle.checker_lookup.proofs.BindingLaws.{row_put}
use Rattle.checker_lookup.proofs.bindings.put_row.Goals as goal

pub returns : goal.returns
returns c = row_put _ _ _ _ _ _ c.requires.0 _ c.add_word.ensures _ _ c.add_word-2.ensures
