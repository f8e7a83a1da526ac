use Rattle.std.proofs.Common.{◌<◌, subst, arith, length-take-le, get_or-take}
use Rattle.types_cells.specs.Calls.{Added}
use Rattle.checker_pieces.proofs.Forming.{laid_none, lay_ask, lay_next}
use Rattle.checker_pieces.proofs.formers.lay.Goals as goal

pub loop-j-init : goal.loop-j-init
loop-j-init c = laid_none _ _ _ c.requires.2.above

pub add_word-requires : goal.add_word-requires
add_word-requires c =
    let l = length-take-le c.args.m c.args.parts.now c.requires.1 in
    lay_ask _ _ _ _ _ c.requires _ _ (omega arith) c.loop-j.invariant

pub loop-j-preserved : goal.loop-j-preserved
loop-j-preserved c =
    let l = length-take-le c.args.m c.args.parts.now c.requires.1 in
    let t : c.loop-j.j < c.args.m = omega arith in
    let x = get_or-take c.args.m c.args.parts.now c.loop-j.j 0 t in
    lay_next _ _ _ _ _ c.requires _ _ t c.loop-j.invariant _ (subst (Added _ _ _ _) x c.add_word.ensures)
