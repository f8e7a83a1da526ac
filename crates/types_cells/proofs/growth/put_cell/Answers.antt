use mathlib.Core.Path.{◌∙◌, ap}
use lib.ListN.{set}
use Prim.Native.Nat.{◌+◌, ◌*◌}
use Rattle.types_cells.specs.Layout.{records_at, arguments_at, firsts_at, counts_at}
use Rattle.types_cells.specs.Calls.{put}
use Rattle.types_cells.proofs.growth.put_cell.Goals as goal

pub returns : goal.returns
unfolding put
returns c =
    let at = 4 * c.args.n in
    c.store-5.ensures
    ∙ ap (λ z. set z (counts_at + at) c.args.count) (c.store-4.ensures
    ∙ ap (λ z. set z (firsts_at + at) c.args.first) (c.store-3.ensures
    ∙ ap (λ z. set z (arguments_at + at) c.args.arg) (c.store-2.ensures
    ∙ ap (λ z. set z (records_at + at) c.args.tag) c.store.ensures)))
