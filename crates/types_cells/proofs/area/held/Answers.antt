use Rattle.types_cells.specs.Layout.{records_at}
use Rattle.types_cells.specs.Store.{frozen}
use lib.Seq.{get_or-drop}
use mathlib.Core.Path.{◌∙◌, sym}
use Rattle.types_cells.proofs.area.held.Goals as goal

pub returns : goal.returns
unfolding frozen
returns c = (c.word.ensures.0 ∙ sym (get_or-drop records_at c.args.a.now c.args.k 0), c.word.ensures.1)
