use Rattle.types_instances.proofs.Saving.{saved_area}
use Rattle.types_instances.proofs.save.Goals as goal

pub returns : goal.returns
returns c =
    let s = c.args in
    let P = c.requires in
    saved_area s.a.now s.n s.top P.0 P.1 P.2 P.3 _ _ _ _ s.at c.copy_words.ensures c.copy_words-2.ensures c.copy_words-3.ensures
