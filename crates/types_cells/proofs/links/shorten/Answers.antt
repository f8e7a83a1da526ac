use mathlib.Core.Path.{sym, subst, ◌∙◌}
use native.Mathlib.Omega.{arith}
use Rattle.types_cells.specs.Flat.{Straight}
use Rattle.types_cells.specs.Calls.{Known}
use Rattle.types_cells.proofs.LinkLaws.{known_root, few_cell}
use Rattle.types_cells.proofs.Flat.{straightened}
use Rattle.types_cells.proofs.links.shorten.Goals as goal

pub set_link-requires : goal.set_link-requires
set_link-requires c =
    let p = c.requires in
    let K : Known c.args.a.now c.args.i = record { n = c.args.n; L = p.0.L; held = p.0.solved.held; made = p.1 } in
    (few_cell _ _ K, few_cell _ _ (known_root _ _ _ K c.find-r.ensures))

pub returns-then-link-ne0 : goal.returns-then-link-ne0
returns-then-link-ne0 c =
    let p = c.requires in
    let f = p.0.solved.held.few in
    let l = p.1 in
    let K : Known c.args.a.now c.args.i = record { n = c.args.n; L = p.0.L; held = p.0.solved.held; made = p.1 } in
    subst (λ z. Straight c.args.a.now z c.args.i c.args.n) (sym c.set_link.ensures)
    (straightened _ _ _ _ p.0.solved.held.size (omega arith) (few_cell _ _ (known_root _ _ _ K c.find-r.ensures)) c.find-r.ensures (λ e. c.if-link-ne0.true (c.link.ensures.0 ∙ e)))
