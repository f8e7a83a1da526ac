use mathlib.Core.Path.{refl}
use Rattle.checker_entries.proofs.Writing.{name_wrote}
use Rattle.checker_entries.proofs.name_entry.Goals as goal

pub returns : goal.returns
returns c = name_wrote _ _ _ _ _ _ _ c.requires.0 c.put_type-e.ensures _ _ _ refl c.put_head.ensures
