use mathlib.Core.Path.{ap, ◌∙◌}
use Prim.Native.Nat.{◌+◌, ◌*◌, ◌-◌}
use lib.Seq.{sets}
use Rattle.types_cells.specs.Layout.{records_at, first_run, runs_at}
use Rattle.types_cells.specs.Store.{run}
use Rattle.types_instances.specs.Moved.{restored}
use Rattle.types_instances.proofs.restore.Goals as goal

pub returns : goal.returns
unfolding restored
returns c =
    let s = c.args in
    c.copy_words-3.ensures ∙ ap (λ z. sets z runs_at (run s.from.now (s.at + s.n + 4 * s.n) (s.top - first_run)))
    (c.copy_words-2.ensures ∙ ap (λ z. sets z records_at (run s.from.now (s.at + s.n) (4 * s.n))) c.copy_words.ensures)
