use Rattle.checker_pieces.proofs.Forming.{product_built, product_make}
use Rattle.checker_pieces.proofs.formers.product.Goals as goal

pub new_cell-requires : goal.new_cell-requires
new_cell-requires c = product_make _ _ _ _ _ c.requires _ c.lay.ensures

pub returns : goal.returns
returns c = product_built _ _ _ _ _ c.requires _ c.lay.ensures _ c.new_cell.ensures
