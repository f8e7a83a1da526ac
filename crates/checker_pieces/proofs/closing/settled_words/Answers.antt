use Rattle.checker_pieces.proofs.Closed.{may_write}
use Rattle.checker_pieces.proofs.closing.settled_words.Goals as goal

pub write-requires : goal.write-requires
write-requires c = may_write _ _ _ _ _ c.requires
