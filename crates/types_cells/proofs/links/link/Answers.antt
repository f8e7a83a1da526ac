use mathlib.Core.Path.{sym, ap, ◌∙◌}
use native.Mathlib.Omega.{arith}
use Rattle.types_cells.specs.Store.{link_at, link_part}
use Rattle.types_cells.proofs.Words.{link_part_lem, link_none}
use Rattle.types_cells.proofs.links.link.Goals as goal

pub returns-then-v-lt-SETTLED : goal.returns-then-v-lt-SETTLED
unfolding link_at
returns-then-v-lt-SETTLED c =
    let e = c.word-v.ensures.0 in
    let l = c.if-v-lt-SETTLED.true in
    (sym (ap link_part (sym e) ∙ link_part_lem _ l), l)

pub returns : goal.returns
unfolding link_at
returns c =
    let e = c.word-v.ensures.0 in
    (sym (ap link_part (sym e) ∙ link_none _ c.if-v-lt-SETTLED.false), omega arith)
