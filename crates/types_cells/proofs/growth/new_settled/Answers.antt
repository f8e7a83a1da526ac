use native.Mathlib.Omega.{arith}
use Rattle.types_cells.proofs.Entering.{entered_as}
use Rattle.types_cells.proofs.Reading.{place_low, heap_length}
use Rattle.types_cells.proofs.growth.new_settled.Goals as goal

pub overflow_add-p : goal.overflow_add-p
overflow_add-p c =
    let P = c.requires in
    let l = place_low _ _ _ P.readable.reads in
    let h = heap_length c.args.a.now c.args.d.now P.making.solved.held.size in
    let f = P.few in omega arith

pub overflow_cast-p : goal.overflow_cast-p
overflow_cast-p c =
    let P = c.requires in
    let l = place_low _ _ _ P.readable.reads in
    let h = heap_length c.args.a.now c.args.d.now P.making.solved.held.size in
    let f = P.few in omega arith

pub returns : goal.returns
returns c = entered_as _ _ _ _ _ _ c.requires c.new_unknown.ensures c.store.ensures
