use mathlib.Core.Path.{sym, subst}
use Rattle.types_cells.specs.Calls.{Made}
use Rattle.types_cells.proofs.Growing.{made}
use Rattle.types_cells.proofs.growth.new_cell.Goals as goal

pub returns : goal.returns
returns c =
    subst (λ z. Made c.args.a.now z c.args.n c.args.tag c.args.arg c.args.first c.args.count) (sym c.put_cell.ensures)
    (made _ _ _ _ _ _ c.requires.solved.held.size c.requires.few c.requires)
