use Rattle.std.proofs.Common.{◌≡◌, take, sym, ap, ◌∙◌, arith, length-take-le}
use Rattle.std.proofs.lemmas.List.{take-append-le}
use Rattle.checker_kinds.specs.Formers.{up_from}
use Rattle.checker_kinds.proofs.ProductRule.{fill_step, none_filled}
use Rattle.checker_kinds.proofs.building.count_up.Goals as goal

pub loop-j-init : goal.loop-j-init
loop-j-init c = none_filled (take c.args.m c.args.row.now) c.args.first

pub loop-j-preserved : goal.loop-j-preserved
loop-j-preserved c = fill_step _ _ c.loop-j.j c.loop-j.invariant (omega arith)

pub returns : goal.returns
returns c =
    let l = length-take-le c.args.m c.args.row.now c.requires.0 in
    let q : c.args.m ≡ c.loop-j.j = omega arith in
    take-append-le c.args.m c.loop-j.x-items _ (omega arith) ∙ ap (λ j. take j c.loop-j.x-items) q ∙ c.loop-j.invariant ∙ ap (up_from c.args.first) (sym q)
