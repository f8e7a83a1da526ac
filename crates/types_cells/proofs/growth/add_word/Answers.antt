use mathlib.Core.Path.{sym, subst}
use Rattle.types_cells.specs.Calls.{Added}
use Rattle.types_cells.proofs.Growing.{added}
use Rattle.types_cells.proofs.growth.add_word.Goals as goal

pub returns : goal.returns
returns c = subst (λ z. Added c.args.a.now z c.args.n c.args.top c.args.x) (sym c.store.ensures) (added _ _ _ _ c.requires)
