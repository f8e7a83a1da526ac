use Rattle.checker_lookup.proofs.BindingLaws.{binding_places, binding_rows, binding_makes, binding_bound}
use Rattle.checker_lookup.proofs.bindings.binding.Goals as goal

pub settle_places-requires : goal.settle_places-requires
settle_places-requires c = binding_places _ _ _ _ _ _ _ c.requires

pub put_rows-requires : goal.put_rows-requires
put_rows-requires c = binding_rows _ _ _ _ _ _ _ c.requires _ c.settle_places.ensures

pub new_cell-requires : goal.new_cell-requires
new_cell-requires c = binding_makes _ _ _ _ _ _ _ c.requires _ c.settle_places.ensures _ c.put_rows.ensures

pub returns : goal.returns
returns c = binding_bound _ _ _ _ _ _ _ c.requires _ c.settle_places.ensures _ c.put_rows.ensures _ c.new_cell.ensures
